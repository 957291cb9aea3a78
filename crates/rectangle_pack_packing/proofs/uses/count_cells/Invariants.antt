use Rattle.rectangle_pack_sections.proofs.Std.{◌≡◌, take}
use Rattle.rectangle_pack_packing.specs.Best.{cells_placed_in}
use Rattle.rectangle_pack_packing.specs.private.Cells.{cells_in}
use Rattle.rectangle_pack_packing.proofs.uses.count_cells.Given as goal

abbrev pub invariant-loop-placement : goal.invariant-loop-placement
invariant-loop-placement g l = (id : g.row.B.Denot) → cells_in g.B.Ord.cmp l.cells.entries id ≡ cells_placed_in g.B.Ord.cmp (take l.placement-index l.placements) id
