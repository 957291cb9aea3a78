-- Bins: a size, a list of free sections, and whether a coalescing call was made.
use Rattle.std.specs.Prelude.{ℕ, Bool, false, List, [], ◌∷◌, All, AllPairs, map}
use Rattle.rectangle_pack_sections.specs.Boxes.{Size, Cuboid, IsInside, AreApart}

-- a bin: its size, its list of free sections, and whether a coalescing call was made on it
-- Example: 100x100x1 with [(0,0,0) 100x100x1], and no coalescing call
pub record Bin : Type 0 where
  pub size : Size
  pub sections : List Cuboid
  pub coalesced : Bool

-- a bin, and how many sections its list has room for
pub record Held : Type 0 where
  pub bin : Bin
  pub room : ℕ

-- the bins of a map, by id, without the room of their lists
abbrev pub bins_of : {B : Type 0} → List (B × Held) → List (B × Bin)
bins_of es = map (λ e. (e.0, e.1.bin)) es

-- each free section is inside the bin, and no two share a cell
-- Example: in 2x1x1: [(0,0,0) 1x1x1, (1,0,0) 1x1x1] is sound, [(0,0,0) 2x1x1, (1,0,0) 1x1x1] is not
pub record IsSound (size : Size) (sections : List Cuboid) : Type 0 where
  pub inside : All (IsInside size) sections
  pub apart : AllPairs AreApart sections

-- the box is inside the bin and shares no cell with a free section
-- Example: in 2x1x1 with [(0,0,0) 1x1x1]: (1,0,0) 1x1x1 and (0,0,0) 0x1x1 are, (0,0,0) 2x1x1 is not
pub record IsAccepted (bin : Bin) (box : Cuboid) : Type 0 where
  pub inside : IsInside bin.size box
  pub apart : All (λ s. AreApart s box) bin.sections

-- the box that is all of a bin of this size: the one section of a new bin
-- Example: (0,0,0) 100x100x1
abbrev pub whole : Size → Cuboid
whole size = record { x = 0; y = 0; z = 0; whd = size }

-- a new bin of this size: its one free section is all of it, and no coalescing call was made on it
-- Example: as for `Bin`
abbrev pub new_bin : Size → Bin
new_bin size = record { size = size; sections = whole size ∷ []; coalesced = false }
