use Rattle.rectangle_pack_sections.proofs.Std.{refl}
use Rattle.rectangle_pack_judge.proofs.lemmas.Verdicts.{free-more, free-all, IsTogetherFault-kind}
use Rattle.rectangle_pack_judge.proofs.judging.together_fault.Goals as goal

pub returns-in-Some : goal.returns-in-Some
returns-in-Some g c = (
  refl,
  IsTogetherFault-kind c.args.case.now c.args.earlier.now c.args.claim.now c.loop-conflict.conflict-index c.in-Some.first c.loop-conflict-test.true c.loop-conflict.invariant
      c.in-Some.ensures.0 c.in-Some.ensures.1 c.in-Some.ensures.2,
)

pub loop-conflict-preserved : goal.loop-conflict-preserved
loop-conflict-preserved g c = free-more c.args.case.now c.args.earlier.now c.args.claim.now c.loop-conflict.conflict-index c.loop-conflict.invariant c.in_default.ensures

pub returns : goal.returns
returns g c = free-all c.args.case.now c.args.earlier.now c.args.claim.now c.loop-conflict.conflict-index c.loop-conflict-test.false c.loop-conflict.invariant
