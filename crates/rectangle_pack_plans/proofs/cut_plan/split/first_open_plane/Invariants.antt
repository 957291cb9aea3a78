use Rattle.rectangle_pack_plans.proofs.lemmas.cut_plan.FirstOpen.{IsReached}
use Rattle.rectangle_pack_plans.proofs.cut_plan.split.first_open_plane.Given as goal

abbrev pub invariant-loop-i : goal.invariant-loop-i
invariant-loop-i l = IsReached l.axis l.whole l.boxes l.i l.reach
