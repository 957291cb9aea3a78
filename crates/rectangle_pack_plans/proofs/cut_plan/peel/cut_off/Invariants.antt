use Rattle.rectangle_pack_plans.proofs.lemmas.cut_plan.Peel.{IsPeeling}
use Rattle.rectangle_pack_plans.proofs.cut_plan.peel.cut_off.Given as goal

abbrev pub invariant-loop-split : goal.invariant-loop-split
invariant-loop-split g l = IsPeeling l.part l.fn.boxes l.fn.pending.items l.rest l.orders.x.now l.orders.y.now l.orders.z.now l.boxes l.done l.pending.items

abbrev pub decreases-loop-split : goal.decreases-loop-split
decreases-loop-split g l = l.rest.count
