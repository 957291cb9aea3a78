use Rattle.rectangle_pack_c.proofs.Std.{get_or, get_or_default, refl}
use Rattle.rectangle_pack_c.specs.declared.collection.RpExclusion.{RpExclusion}
use Rattle.rectangle_pack_c.proofs.LoopLemmas.{pairs_more}
use Rattle.rectangle_pack_sections.proofs.lemmas.groups.GroupOrder.{same_order}
use Rattle.rectangle_pack_c.proofs.collection.exclude_all.Goals as goal

pub loop-pair-preserved : goal.loop-pair-preserved
loop-pair-preserved c = λ boxes before.
    let pairs = c.args.exclusions.now in
    let i = c.loop-pair.pair-index in
    let e : RpExclusion = get_or pairs i (record { one = 0; other = 0 }) in
    pairs_more boxes pairs i e c.loop-pair.rects c.exclude.new.self c.loop-pair-test.true (get_or_default pairs i _ _ c.loop-pair-test.true)
    (c.loop-pair.invariant boxes before) _ (same_order _ _ _ (λ a b. refl) (λ a b. refl) (λ a b. refl) (λ a b. refl)) c.in_ok-exclude.ensures.ok
