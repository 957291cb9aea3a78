use Rattle.rectangle_pack_sections.proofs.Std.{[], ◌∷◌, ◌++◌, take, take_more}
use Rattle.rectangle_pack_packing.proofs.lemmas.packing.Orders.{AllZip-more, saturated-more}
use Rattle.rectangle_pack_packing.proofs.order.group_key.Goals as goal

pub loop-size-preserved : goal.loop-size-preserved
loop-size-preserved g c =
    let inv = c.loop-size.invariant in
    let rates = inv.0 in
    let rate = c.rate.result in (
      rates ++ rate ∷ [],
      rw (take_more c.args.sizes.now c.loop-size.size-index c.size-item.result c.loop-size-test.true, ← c.size-item.is)
          (AllZip-more _ (take c.loop-size.size-index c.args.sizes.now) rates c.size-item.result rate inv.1 (rw c.from.ensures at c.rate.ensures)),
      saturated-more rates rate c.loop-size.key _ inv.2 c.saturating_add-key.ensures,
    )
