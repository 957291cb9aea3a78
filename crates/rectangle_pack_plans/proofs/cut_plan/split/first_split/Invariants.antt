use Rattle.rectangle_pack_sections.proofs.Std.{IsPermutation}
use Rattle.rectangle_pack_plans.specs.private.CutPlans.{IsFilled, AreOrdered, AreClosed}
use Rattle.rectangle_pack_plans.proofs.cut_plan.split.first_split.Given as goal

abbrev pub invariant-loop-axis : goal.invariant-loop-axis
invariant-loop-axis l = record {
  permutation : IsPermutation l.fn.boxes l.boxes;
  filled : IsFilled l.whole l.boxes;
  ordered : AreOrdered l.ordered l.boxes;
  closed : AreClosed l.axis-index l.whole l.boxes;
}
