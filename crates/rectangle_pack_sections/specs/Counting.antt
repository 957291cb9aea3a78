-- Covering a box by boxes, as counts of how often each cell is filled.
use Rattle.std.specs.Prelude.{◌≡◌, ◌↔◌, ℕ, List, [], ◌∷◌, Any, AllPairs, count_by}
use Rattle.std.specs.List.{sum_by}
use Rattle.rectangle_pack_sections.specs.Boxes.{Cuboid, Cell, IsCellOf, AreApart, is_cell_of, volume_of}

-- how many of the boxes have the cell c
unfoldable pub times_filled : Cell → List Cuboid → ℕ
times_filled c boxes = count_by (is_cell_of c) boxes

-- the boxes fill each cell of the whole exactly once, and no other cell
pub record Tiles (boxes : List Cuboid) (whole : Cuboid) : Type 0 where
  pub same : (c : Cell) → times_filled c boxes ≡ times_filled c (whole ∷ [])

-- no two of the boxes share a cell
abbrev pub AreAllApart : List Cuboid → Type 0
AreAllApart boxes = AllPairs AreApart boxes

-- a cell is in the whole exactly where it is in some of the boxes
abbrev pub MakeUp : List Cuboid → Cuboid → Type 0
MakeUp boxes whole = (c : Cell) → IsCellOf c whole ↔ Any (IsCellOf c) boxes

-- the volumes of the boxes, added up
abbrev pub total_volume : List Cuboid → ℕ
total_volume boxes = sum_by (λ b. volume_of b.whd) boxes

-- the volumes of the boxes add up to that of the whole
-- Example: for the whole (0,0,0) 3x1x1: how often its three cells are filled, the total volume, and what holds:
-- [(0,0,0) 2x1x1, (2,0,0) 1x1x1]: 1, 1 and 1 times; 2 + 1 = 3; `Tiles`, `AreAllApart`, `MakeUp` and `HaveVolumeOf`.
-- [(0,0,0) 2x1x1, (1,0,0) 2x1x1]: 1, 2 and 1 times; 2 + 2 = 4; `MakeUp` alone.
-- [(0,0,0) 1x1x1, (2,0,0) 1x1x1]: 1, 0 and 1 times; 1 + 1 = 2; `AreAllApart` alone.
-- [(0,0,0) 2x1x1, (1,0,0) 1x1x1]: 1, 2 and 0 times; 2 + 1 = 3; `HaveVolumeOf` alone
abbrev pub HaveVolumeOf : List Cuboid → Cuboid → Type 0
HaveVolumeOf boxes whole = total_volume boxes ≡ volume_of whole.whd
