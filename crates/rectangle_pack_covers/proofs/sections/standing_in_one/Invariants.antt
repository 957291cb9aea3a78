use Rattle.std.specs.Prelude.{◌≡◌, take}
use Rattle.rectangle_pack_covers.specs.Covers.{in_one_bin}
use Rattle.rectangle_pack_covers.proofs.sections.standing_in_one.Given as goal

abbrev pub invariant-loop-section : goal.invariant-loop-section
invariant-loop-section g l = l.all.items ≡ in_one_bin (take l.section-index l.boxes)
