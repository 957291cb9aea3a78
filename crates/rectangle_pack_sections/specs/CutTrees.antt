-- Trees of straight cuts (guillotine cuts), and the lists of boxes that come from them. A cut here is one plane through the
-- whole of a part; each of the six cuts round a placed box is three of these.
use Rattle.std.specs.Prelude.{ℕ, ◌≡◌, ◌+◌, ◌-◌, ◌≤◌, ◌==◌, ◌&&◌, Bool, true, List, [], ◌∷◌, ◌++◌, ⊤, count_by}
use Rattle.rectangle_pack_sections.specs.declared.axis.Axis.{Axis}
use Rattle.rectangle_pack_sections.specs.declared.axis.Axis.TheVariants.{X, Y, Z}
use Rattle.rectangle_pack_sections.specs.Boxes.{Size, Cuboid, start, end, has_cells}

-- the part of a box below a place on an axis
-- Example: of (0,0,0) 100x100x1 at 50 on x: (0,0,0) 50x100x1
unfoldable pub lower : Axis → ℕ → Cuboid → Cuboid
lower X place b = record b { whd = record b.whd { width = place - b.x } }
lower Y place b = record b { whd = record b.whd { height = place - b.y } }
lower Z place b = record b { whd = record b.whd { depth = place - b.z } }

-- the part of a box at a place on an axis and beyond it
-- Example: of (0,0,0) 100x100x1 at 50 on x: (50,0,0) 50x100x1
unfoldable pub upper : Axis → ℕ → Cuboid → Cuboid
upper X place b = record b { x = place; whd = record b.whd { width = (b.x + b.whd.width) - place } }
upper Y place b = record b { y = place; whd = record b.whd { height = (b.y + b.whd.height) - place } }
upper Z place b = record b { z = place; whd = record b.whd { depth = (b.z + b.whd.depth) - place } }

-- the box may be cut at this place on the axis: from its start to its end, both allowed; the cut goes just before the
-- cell at the place
-- Example: 0, 50 and 100 on x of (0,0,0) 100x100x1, and not 101. At 0 the lower part has no cells, and the upper one is
-- the box
pub record IsPlaceOf (a : Axis) (place : ℕ) (b : Cuboid) : Type 0 where
  pub from : start a b ≤ place
  pub to : place ≤ end a b

-- a tree of straight cuts: a leaf, or a cut at a place on an axis, with a tree of the lower and a tree of the upper
-- part
-- Example: Cut x 50 Leaf Leaf
pub data CutTree : Type 0 where
  Leaf : CutTree
  Cut : Axis → ℕ → CutTree → CutTree → CutTree

-- a tree of a box: each cut is at a place of the part that it cuts
-- Example: Cut x 50 (Cut x 60 Leaf Leaf) Leaf is no tree of (0,0,0) 100x100x1: 60 is beyond the end of the lower part
abbrev pub IsTreeOf : CutTree → Cuboid → Type 0
IsTreeOf Leaf b = ⊤
IsTreeOf (Cut a place lower_tree upper_tree) b =
    IsPlaceOf a place b × IsTreeOf lower_tree (lower a place b) × IsTreeOf upper_tree (upper a place b)

-- the leaves of a tree of a box: the parts that are not cut further
-- Example: of Cut x 50 Leaf Leaf and (0,0,0) 100x100x1: (0,0,0) 50x100x1, (50,0,0) 50x100x1
unfoldable pub leaves : CutTree → Cuboid → List Cuboid
leaves Leaf b = b ∷ []
leaves (Cut a place lower_tree upper_tree) b = leaves lower_tree (lower a place b) ++ leaves upper_tree (upper a place b)

-- whether two boxes have one corner and one size
unfoldable pub is_same_box : Cuboid → Cuboid → Bool
is_same_box b other =
    b.x == other.x && b.y == other.y && b.z == other.z
    && b.whd.width == other.whd.width && b.whd.height == other.whd.height && b.whd.depth == other.whd.depth

-- how often a box stands in a list
unfoldable pub times_in : Cuboid → List Cuboid → ℕ
times_in b boxes = count_by (is_same_box b) boxes

-- each box with cells stands in both lists as often. The order does not count, nor do boxes without cells
-- Example: [(0,0,0) 1x1x1, (1,0,0) 1x1x1] and [(1,0,0) 1x1x1, (9,9,9) 0x1x1, (0,0,0) 1x1x1] do; with (1,0,0) 1x1x1
-- twice in one of them, they do not
abbrev pub HaveSameBoxes : List Cuboid → List Cuboid → Type 0
HaveSameBoxes boxes others = (b : Cuboid) → has_cells b ≡ true → times_in b boxes ≡ times_in b others

-- the boxes are from cuts of the whole: some tree of it has them as its leaves, boxes without cells aside
-- (`HaveSameBoxes`)
-- Example: [(50,0,0) 50x100x1, (0,0,0) 50x100x1] is from cuts of (0,0,0) 100x100x1; [(0,0,0) 50x100x1] is not
pub record IsFromCuts (boxes : List Cuboid) (whole : Cuboid) : Type 0 where
  pub tree : CutTree
  pub is_tree : IsTreeOf tree whole
  pub same : HaveSameBoxes (leaves tree whole) boxes

-- the box (x,y,0) of this width and height, one cell deep
abbrev pub flat : ℕ → ℕ → ℕ → ℕ → Cuboid
flat x y width height = record { x = x; y = y; z = 0; whd = record { width = width; height = height; depth = 1 } }

-- five flat boxes that cover a bin: four of two cells round one in the middle. They are from no cuts of it
-- (`IsFromCuts`): each plane strictly inside the bin goes through one of the four
-- Example: x 1 goes through the first, x 2 through the third, y 1 through the second, y 2 through the fourth; no place
-- on z is strictly inside the bin. Call the five boxes A to E, in this order: the cells of the bin are then DCC at y 2,
-- DEB at y 1 and AAB at y 0
abbrev pub pinwheel : List Cuboid
pinwheel = flat 0 0 2 1 ∷ flat 2 0 1 2 ∷ flat 1 2 2 1 ∷ flat 0 1 1 2 ∷ flat 1 1 1 1 ∷ []

-- the size of the bin that they cover
-- Example: 3x3x1
abbrev pub pinwheel_size : Size
pinwheel_size = record { width = 3; height = 3; depth = 1 }
