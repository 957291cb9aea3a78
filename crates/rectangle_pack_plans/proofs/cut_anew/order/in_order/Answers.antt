use Rattle.rectangle_pack_sections.proofs.Std.{map, ap, ◌∙◌, rules, answers_always}
use Rattle.rectangle_pack_sections.specs.Boxes.{volume_of}
use Rattle.rectangle_pack_plans.specs.declared.cut_anew.order.Ranked.{Ranked}
use Rattle.rectangle_pack_plans.proofs.lemmas.cut_anew.Order.{sorted_stand}
use Rattle.rectangle_pack_plans.proofs.cut_anew.order.in_order.Goals as goal

pub returns : goal.returns
returns g c = sorted_stand c.args.bin.now c.args.free.now _ _ _ c.requires.fit (c.in_ok-all.ensures {u = tt})
    c.sort_unstable_by_key.ensures.permutation
    (c.sort_unstable_by_key.ensures.sorted (λ (r : Ranked). (r.rank, volume_of r.section.whd)) (answers_always _ _ _ (λ f a r h k. search rules)))
    (c.in_ok-sections.ensures {u = tt} ∙ ap (map (λ (r : Ranked). r.section)) c.as_slice.ensures.value)
