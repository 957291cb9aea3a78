use Rattle.rectangle_pack_sections.proofs.Std.{take, All}
use Rattle.rectangle_pack_sections.specs.Boxes.{AreApart}
use Rattle.rectangle_pack_bins.proofs.target_bin.first_sharing.Given as goal

abbrev pub invariant-loop-s : goal.invariant-loop-s
invariant-loop-s l = All (λ s. AreApart s l.section) (take l.s-index l.sections)
