-- Sizes, boxes and their cells. All numbers are whole numbers without a bound: nothing wraps. An `Axis` is x, y or z.
use Rattle.std.specs.declared.cmp.Ordering.{Ordering}
use Rattle.std.specs.Ordering.{nat_cmp, ordering_then}
use Rattle.std.specs.Prelude.{ℕ, ◌+◌, ◌*◌, ◌^◌, ◌<◌, ◌≤◌, ◌&&◌, Bool, nat_le, nat_lt, min, max}
use Rattle.rectangle_pack_sections.specs.declared.axis.Axis.{Axis}
use Rattle.rectangle_pack_sections.specs.declared.axis.Axis.TheVariants.{X, Y, Z}

-- how wide, high and deep a box is, in cells
-- Example: 50x25x10
pub record Size : Type 0 where
  pub width : ℕ
  pub height : ℕ
  pub depth : ℕ

-- a box: its least corner x, y, z and its size `whd`
-- Example: (50,0,0) 50x25x10
pub record Cuboid : Type 0 where
  pub x : ℕ
  pub y : ℕ
  pub z : ℕ
  pub whd : Size

-- the extent of a size on an axis: one of its three numbers
-- Example: of 50x25x10 on y: 25
unfoldable pub extent : Axis → Size → ℕ
extent X s = s.width
extent Y s = s.height
extent Z s = s.depth

-- where a box starts on an axis
-- Example: of (50,0,0) 50x25x10 on x: 50
unfoldable pub start : Axis → Cuboid → ℕ
start X b = b.x
start Y b = b.y
start Z b = b.z

-- where a box ends on an axis: the first place beyond it
-- Example: of (50,0,0) 50x25x10 on x: 100
unfoldable pub end : Axis → Cuboid → ℕ
end a b = start a b + extent a b.whd

-- sizes by width, then by height, then by depth
-- Example: 1x9x9 before 2x1x1; 2x1x5 before 2x3x1
abbrev pub size_order : Size → Size → Ordering
size_order a b = ordering_then (nat_cmp a.width b.width) (ordering_then (nat_cmp a.height b.height) (nat_cmp a.depth b.depth))

-- boxes by x, then by y, then by z, then by size
-- Example: (0,9,9) 9x9x9 before (1,0,0) 1x1x1
abbrev pub section_order : Cuboid → Cuboid → Ordering
section_order a b = ordering_then (nat_cmp a.x b.x) (ordering_then (nat_cmp a.y b.y) (ordering_then (nat_cmp a.z b.z) (size_order a.whd b.whd)))

-- how many cells a size has: the product of its numbers
-- Example: of 50x25x10: 50 · 25 · 10 = 12500
abbrev pub volume_of : Size → ℕ
volume_of s = s.width * s.height * s.depth

-- the longest of the three sides
-- Example: of 3x7x5: 7
abbrev pub longest_side : Size → ℕ
longest_side s = max (max s.width s.height) s.depth

-- the side that is neither the longest nor the shortest, when the three are put in order
-- Example: of 3x7x5: 5
abbrev pub middle_side : Size → ℕ
middle_side s = max (min s.width s.height) (min (max s.width s.height) s.depth)

-- the shortest of the three sides
-- Example: of 3x7x5: 3
abbrev pub shortest_side : Size → ℕ
shortest_side s = min (min s.width s.height) s.depth

-- a cell, by its place i, j, k on each axis
-- Example: (2,0,0)
pub record Cell : Type 0 where
  pub i : ℕ
  pub j : ℕ
  pub k : ℕ

-- c is a cell of the box: on each axis from its start to before its end
-- Example: (1,0,0) 2x1x1 has the cells (1,0,0) and (2,0,0), and not (3,0,0)
pub record IsCellOf (c : Cell) (b : Cuboid) : Type 0 where
  pub from_x : b.x ≤ c.i
  pub below_x : c.i < b.x + b.whd.width
  pub from_y : b.y ≤ c.j
  pub below_y : c.j < b.y + b.whd.height
  pub from_z : b.z ≤ c.k
  pub below_z : c.k < b.z + b.whd.depth

-- some cell is a cell of both boxes
-- Example: (0,0,0) 2x1x1 and (1,0,0) 1x1x1: the cell (1,0,0)
pub record SharesCell (a b : Cuboid) : Type 0 where
  pub cell : Cell
  pub in_first : IsCellOf cell a
  pub in_second : IsCellOf cell b

-- no cell is a cell of both boxes
-- Example: (0,0,0) 1x1x1 and (1,0,0) 1x1x1; (3,4,5) 0x1x1 and any box
pub record AreApart (a b : Cuboid) : Type 0 where
  pub none : (c : Cell) → IsCellOf c a → IsCellOf c b → ⊥

-- the box ends inside a bin of this size, on each axis; this covers boxes without cells too
-- Example: in 100x100x1: (99,0,0) 1x1x1 (99 + 1 = 100) and (100,0,0) 0x1x1 are inside; (100,0,0) 1x1x1 is not (101)
pub record IsInside (size : Size) (b : Cuboid) : Type 0 where
  pub within_x : b.x + b.whd.width ≤ size.width
  pub within_y : b.y + b.whd.height ≤ size.height
  pub within_z : b.z + b.whd.depth ≤ size.depth

-- a part of the other box: on each axis it starts no earlier and ends no later
-- Example: (2,0,0) 3x1x1 is a part of (0,0,0) 5x1x1; (3,0,0) 3x1x1 is not (6 > 5)
pub record IsPartOf (b other : Cuboid) : Type 0 where
  pub from_x : other.x ≤ b.x
  pub to_x : b.x + b.whd.width ≤ other.x + other.whd.width
  pub from_y : other.y ≤ b.y
  pub to_y : b.y + b.whd.height ≤ other.y + other.whd.height
  pub from_z : other.z ≤ b.z
  pub to_z : b.z + b.whd.depth ≤ other.z + other.whd.depth

-- none of the size's numbers is greater than the section's; the corner has no say
-- Example: (9,9,9) 5x20x1 holds 5x20x1, and not 6x1x1
pub record Holds (section : Cuboid) (size : Size) : Type 0 where
  pub wide : size.width ≤ section.whd.width
  pub high : size.height ≤ section.whd.height
  pub deep : size.depth ≤ section.whd.depth

-- each of the three numbers of the size is below 2^32
-- Example: 4294967295x1x1; with width 4294967296 it fails
pub record IsU32 (size : Size) : Type 0 where
  pub wide : size.width < 2 ^ 32
  pub high : size.height < 2 ^ 32
  pub deep : size.depth < 2 ^ 32

-- the corner and the size of the box add up to less than 2^32 on each axis
-- Example: (4294967290,0,0) 5x1x1: 4294967295; with width 6 it fails
pub record FitsU32 (b : Cuboid) : Type 0 where
  pub fits_x : b.x + b.whd.width < 2 ^ 32
  pub fits_y : b.y + b.whd.height < 2 ^ 32
  pub fits_z : b.z + b.whd.depth < 2 ^ 32

-- whether a place on an axis lies on the span that begins at first and is so long
-- Example: 2 lies on the span from 1 that is 2 long, 3 does not
abbrev pub is_within : ℕ → ℕ → ℕ → Bool
is_within first long place = nat_le first place && nat_lt place (first + long)

-- `IsCellOf` as a test that answers true or false, for counting
unfoldable pub is_cell_of : Cell → Cuboid → Bool
is_cell_of c b = is_within b.x b.whd.width c.i && is_within b.y b.whd.height c.j && is_within b.z b.whd.depth c.k

-- whether a box has a cell: none of its sizes is 0
-- Example: 5x0x1 has none
abbrev pub has_cells : Cuboid → Bool
has_cells b = nat_lt 0 b.whd.width && nat_lt 0 b.whd.height && nat_lt 0 b.whd.depth
