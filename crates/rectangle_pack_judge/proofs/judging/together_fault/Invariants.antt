use Rattle.rectangle_pack_sections.proofs.Std.{◌<◌, All}
use Rattle.rectangle_pack_judge.specs.declared.case.Conflict.{Conflict}
use Rattle.rectangle_pack_judge.specs.Judging.{IsFree, rank}
use Rattle.rectangle_pack_judge.proofs.judging.together_fault.Given as goal

abbrev pub invariant-loop-conflict : goal.invariant-loop-conflict
invariant-loop-conflict g l = (other : Conflict) → rank other < l.conflict-index → All (λ a. IsFree l.case other a l.claim) l.earlier
