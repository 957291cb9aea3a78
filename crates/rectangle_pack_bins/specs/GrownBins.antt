-- Bins that become larger on one axis.
use Rattle.std.specs.Prelude.{ℕ, ◌+◌, [], ◌∷◌, ◌++◌, filter}
use Rattle.rectangle_pack_sections.specs.declared.axis.Axis.{Axis}
use Rattle.rectangle_pack_sections.specs.declared.axis.Axis.TheVariants.{X, Y, Z}
use Rattle.rectangle_pack_sections.specs.Boxes.{Size, Cuboid, extent, has_cells}
use Rattle.rectangle_pack_sections.specs.Bins.{Bin, whole}
use Rattle.rectangle_pack_sections.specs.CutTrees.{upper}

-- a size that is larger by so many cells on an axis
-- Example: 4x10x1 by 6 on x: 10x10x1
unfoldable pub grown : Axis → ℕ → Size → Size
grown X by size = record size { width = size.width + by }
grown Y by size = record size { height = size.height + by }
grown Z by size = record size { depth = size.depth + by }

-- what is new of a bin that grows: the part of the grown bin at the old end and beyond it. The lower part of this
-- cut is the old bin
-- Example: of 4x10x1 by 6 on x: (4,0,0) 6x10x1
abbrev pub new_part : Axis → ℕ → Size → Cuboid
new_part axis by size = upper axis (extent axis size) (whole (grown axis by size))

-- a bin that has grown: the new part stands as a free section at the end of its list, where it has cells. The other
-- sections stay, and it counts as coalesced where it did before
-- Example: 4x10x1 with [(0,0,0) 4x5x1] by 6 on x: 10x10x1 with [(0,0,0) 4x5x1, (4,0,0) 6x10x1]
abbrev pub grown_bin : Axis → ℕ → Bin → Bin
grown_bin axis by bin = record bin {
  size = grown axis by bin.size;
  sections = bin.sections ++ filter has_cells (new_part axis by bin.size ∷ []);
}
