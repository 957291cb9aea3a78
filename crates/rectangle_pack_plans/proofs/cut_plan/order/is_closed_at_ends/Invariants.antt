use Rattle.rectangle_pack_sections.proofs.Std.{◌<◌, ◌-◌, length, IsPermutation}
use Rattle.rectangle_pack_plans.specs.private.CutPlans.{AreOrdered}
use Rattle.rectangle_pack_plans.proofs.cut_plan.order.is_closed_at_ends.Given as goal

abbrev pub invariant-loop-count : goal.invariant-loop-count
invariant-loop-count l = record {
  some : 0 < l.count;
  permutation : IsPermutation l.fn.boxes l.boxes;
  ordered : AreOrdered l.ordered l.boxes;
}

abbrev pub decreases-loop-count : goal.decreases-loop-count
decreases-loop-count l = length l.fn.boxes - l.count
