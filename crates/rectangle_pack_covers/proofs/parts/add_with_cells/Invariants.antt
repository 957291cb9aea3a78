use Rattle.rectangle_pack_sections.proofs.Std.{◌≡◌, ◌++◌, take, filter}
use Rattle.rectangle_pack_sections.specs.Boxes.{has_cells}
use Rattle.rectangle_pack_covers.proofs.parts.add_with_cells.Given as goal

abbrev pub invariant-loop-section : goal.invariant-loop-section
invariant-loop-section g l = l.all.items ≡ l.fn.all.items ++ filter has_cells (take l.section-index l.boxes)
