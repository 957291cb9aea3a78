use Rattle.rectangle_pack_sections.proofs.Std.{All, take}
use Rattle.rectangle_pack_judge.specs.Judging.{StandsAlone}
use Rattle.rectangle_pack_judge.proofs.judging.first_alone.Given as goal

abbrev pub invariant-loop-i : goal.invariant-loop-i
invariant-loop-i l = All (StandsAlone l.case) (take l.i l.claims)
