use Rattle.rectangle_pack_sections.proofs.Std.{AllWithin}
use Rattle.rectangle_pack_sections.specs.Boxes.{IsPartOf}
use Rattle.rectangle_pack_bins.proofs.target_bin.placing_at.first_around.Given as goal

abbrev pub invariant-loop-i : goal.invariant-loop-i
invariant-loop-i g l = AllWithin (λ s. ¬ IsPartOf l.section s) l.sections 0 l.i
