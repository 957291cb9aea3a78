use Rattle.rectangle_pack_sections.proofs.Std.{[], ◌∷◌, ◌++◌, ap, sym, ◌∙◌, take, option_copied, take_more, append_assoc}
use Rattle.rectangle_pack_packing.proofs.lemmas.packing.Orders.{AllZip-more}
use Rattle.rectangle_pack_packing.proofs.order.add_sizes.Goals as goal

pub loop-id-preserved : goal.loop-id-preserved
loop-id-preserved g c =
    let inv = c.loop-id.invariant in
    let added = inv.0 in
    let size = c.unwrap.result.now in (
      added ++ size ∷ [],
      rw (take_more c.args.ids.now c.loop-id.id-index c.id-item.result c.loop-id-test.true, ← c.id-item.is)
          (AllZip-more _ (take c.loop-id.id-index c.args.ids.now) added c.id-item.result size inv.1
          (sym c.get.ensures.value ∙ ap option_copied c.unwrap.ensures)),
      c.in_ok-push.ensures.items ∙ ap (λ l. l ++ size ∷ []) inv.2 ∙ append_assoc c.args.sizes.now.items added (size ∷ []),
    )
