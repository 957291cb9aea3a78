use Rattle.rectangle_pack_sections.proofs.Std.{take}
use Rattle.rectangle_pack_judge.specs.private.Numbers.{AreNumbers}
use Rattle.rectangle_pack_judge.proofs.numbers.numbers_of.Given as goal

abbrev pub invariant-loop-entry : goal.invariant-loop-entry
invariant-loop-entry g l = AreNumbers (take l.entry-index l.entries) l.numbers.entries
