use Rattle.rectangle_pack_sections.proofs.Std.{◌+◌, ◌-◌, ◌≤◌, ◌++◌, length}
use Rattle.rectangle_pack_plans.specs.private.CutPlans.{IsClosedBelow}
use Rattle.rectangle_pack_plans.proofs.cut_plan.order.reach.Given as goal

abbrev pub invariant-loop-i : goal.invariant-loop-i
invariant-loop-i l = record {
  first : l.i ≤ length l.first;
  second : l.j ≤ length l.second;
  closed : IsClosedBelow l.axis l.place l.whole (l.first ++ l.second);
}

abbrev pub decreases-loop-i : goal.decreases-loop-i
decreases-loop-i l = length l.first + length l.second - (l.i + l.j)
