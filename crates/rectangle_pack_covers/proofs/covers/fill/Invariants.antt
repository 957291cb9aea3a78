use Rattle.std.specs.Prelude.{◌≡◌, ◌+◌, take}
use Rattle.rectangle_pack_sections.specs.Boxes.{volume_of}
use Rattle.rectangle_pack_sections.specs.Counting.{total_volume}
use Rattle.rectangle_pack_covers.proofs.covers.fill.Given as goal

abbrev pub invariant-loop-section : goal.invariant-loop-section
invariant-loop-section l = l.left + total_volume (take l.section-index l.boxes) ≡ volume_of l.fn.size
