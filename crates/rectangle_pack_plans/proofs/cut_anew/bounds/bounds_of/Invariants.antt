use Rattle.rectangle_pack_plans.proofs.lemmas.cut_anew.Bounds.{AreBoundsSoFar}
use Rattle.rectangle_pack_plans.proofs.cut_anew.bounds.bounds_of.Given as goal

abbrev pub invariant-loop-next : goal.invariant-loop-next
invariant-loop-next l = AreBoundsSoFar l.boxes l.next-index l.bounds
