use Rattle.rectangle_pack_sections.proofs.Std.{take}
use Rattle.rectangle_pack_judge.proofs.lemmas.Excluded.{AreOthers}
use Rattle.rectangle_pack_judge.proofs.apart.excluded_with.Given as goal

abbrev pub invariant-loop-pair : goal.invariant-loop-pair
invariant-loop-pair g l = AreOthers l.group (take l.pair-index l.case.excluded.now) l.groups
