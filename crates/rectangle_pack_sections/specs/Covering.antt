-- Boxes that cover a bin.
use Rattle.std.specs.Prelude.{◌≡◌, List, All}
use Rattle.rectangle_pack_sections.specs.Boxes.{Size, Cuboid, Cell, IsCellOf, IsInside}
use Rattle.rectangle_pack_sections.specs.Bins.{whole}
use Rattle.rectangle_pack_sections.specs.Counting.{times_filled}

-- each box is inside a bin of this size, and each cell of the bin is a cell of exactly one box
-- Example: in 2x1x1: [(0,0,0) 1x1x1, (1,0,0) 1x1x1, (0,0,0) 0x1x1] covers; without its second box, or with it twice, it
-- does not
pub record CoverBin (boxes : List Cuboid) (size : Size) : Type 0 where
  pub inside : All (IsInside size) boxes
  pub once : (c : Cell) → IsCellOf c (whole size) → times_filled c boxes ≡ 1
