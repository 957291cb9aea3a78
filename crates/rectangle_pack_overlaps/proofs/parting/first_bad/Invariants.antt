use Rattle.rectangle_pack_sections.proofs.Std.{AllPairs, take}
use Rattle.rectangle_pack_sections.specs.Boxes.{AreApart}
use Rattle.rectangle_pack_overlaps.proofs.parting.first_bad.Given as goal

abbrev pub invariant-loop-i : goal.invariant-loop-i
invariant-loop-i l = AllPairs (λ a b. AreApart a.section b.section) (take l.i l.parts)
