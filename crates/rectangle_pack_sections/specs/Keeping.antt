-- Boxes that are replaced by others with the same cells.
use Rattle.std.specs.Prelude.{◌↔◌, List, Any}
use Rattle.rectangle_pack_sections.specs.Boxes.{Cuboid, Cell, IsCellOf}
use Rattle.rectangle_pack_sections.specs.Counting.{AreAllApart}

-- no two of the new boxes share a cell, and a cell is in some of them exactly where it is in some of the old ones
-- Example: [(0,0,0) 1x1x1, (1,0,0) 2x1x1] keep the cells of [(0,0,0) 3x1x1]. [(0,0,0) 2x1x1, (1,0,0) 2x1x1] do not, as
-- two have the cell (1,0,0); nor do [(0,0,0) 1x1x1, (2,0,0) 1x1x1], as none has it
pub record KeepCells (old new : List Cuboid) : Type 0 where
  pub apart : AreAllApart new
  pub cells : (c : Cell) → Any (IsCellOf c) old ↔ Any (IsCellOf c) new
