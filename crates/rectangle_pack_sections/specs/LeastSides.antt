-- The least side of a size in a bin, on axes on which the bin has more than one cell: in a flat bin depth does not count.
use Rattle.std.specs.Prelude.{ℕ, ◌-◌, Bool, true, false, nat_lt, min}
use Rattle.rectangle_pack_sections.specs.Boxes.{Size, Cuboid}

-- a side along which a bin has so many cells; where the bin has at most one cell there, the side does not count, and stands
-- as the greatest number of 32 bits
-- Example: 5 of 100 is 5; 1 of 1 is 4294967295
abbrev pub side_that_counts : ℕ → ℕ → ℕ
side_that_counts cells side = if_counts (nat_lt 1 cells) side
  where
    if_counts : Bool → ℕ → ℕ
    if_counts true side = side
    if_counts false side = 4294967295

-- the least side of a size in a bin of this size, of the sides that count
-- Example: of 5x7x1 in a bin 100x100x1: 5. In a bin 1x1x1 no side counts, and the least is 4294967295
abbrev pub least_side : Size → Size → ℕ
least_side bin size =
    min (side_that_counts bin.width size.width)
    (min (side_that_counts bin.height size.height) (side_that_counts bin.depth size.depth))

-- what a box leaves of a section on each axis
-- Example: 4x10x1 of (0,0,0) 10x11x1 leaves 6x1x0
abbrev pub rests_of : Cuboid → Size → Size
rests_of section box = record {
  width = section.whd.width - box.width;
  height = section.whd.height - box.height;
  depth = section.whd.depth - box.depth;
}

-- what a box leaves of a section on its tightest side, in a bin of this size
-- Example: in a bin 100x100x1 the box 4x10x1 leaves 1 of (0,0,0) 10x11x1: its rests are 6 and 1, and depth does not count
abbrev pub least_rest : Size → Cuboid → Size → ℕ
least_rest bin section box = least_side bin (rests_of section box)
