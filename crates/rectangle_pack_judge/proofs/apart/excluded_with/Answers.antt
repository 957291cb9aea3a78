use Rattle.rectangle_pack_sections.proofs.Std.{◌≤◌, arith, length, subst, take_all}
use Rattle.rectangle_pack_judge.proofs.lemmas.Excluded.{AreOthers, AreExcludedWith-all}
use Rattle.rectangle_pack_judge.proofs.apart.excluded_with.Goals as goal

pub returns : goal.returns
returns g c =
    let pairs = c.args.case.now.excluded.now in
    let ends : length pairs ≤ c.loop-pair.pair-index = omega (arith, c.loop-pair-test.false) in
    AreExcludedWith-all c.args.group c.args.case.now c.loop-pair.groups
    (subst (λ ps. AreOthers c.args.group ps c.loop-pair.groups) (take_all c.loop-pair.pair-index pairs ends) c.loop-pair.invariant)
