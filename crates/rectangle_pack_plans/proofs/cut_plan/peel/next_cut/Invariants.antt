use Rattle.rectangle_pack_plans.specs.private.CutPlans.{AreClosed, left_in}
use Rattle.rectangle_pack_plans.proofs.cut_plan.peel.next_cut.Given as goal

abbrev pub invariant-loop-axis : goal.invariant-loop-axis
invariant-loop-axis l = AreClosed l.axis-index l.part (left_in l.part l.orders.x.now)
