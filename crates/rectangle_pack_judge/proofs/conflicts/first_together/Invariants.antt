use Rattle.rectangle_pack_sections.proofs.Std.{take}
use Rattle.rectangle_pack_judge.proofs.lemmas.Apart.{IsLaterOf}
use Rattle.rectangle_pack_judge.proofs.conflicts.first_together.Given as goal

abbrev pub invariant-loop-pair : goal.invariant-loop-pair
invariant-loop-pair g l = IsLaterOf l.case l.claims (take l.pair-index l.case.excluded.now) l.found
