-- What is known of the parts of a box while its cutting plan is made. The boxes of a part are those that fill it,
-- without those that have no cells. Examples are of the part (0,0,0) 4x2x1 with A (0,0,0) 2x1x1, B (2,0,0) 2x1x1, and
-- above them C (0,1,0) 1x1x1, D (1,1,0) 2x1x1 and E (3,1,0) 1x1x1.
use Rattle.std.specs.Prelude.{ℕ, ◌≡◌, ◌≢◌, ◌+◌, ◌-◌, ◌*◌, ◌<◌, ◌&&◌, ⊤, Bool, true, nat_le, List, take, drop, length, filter, All, Option, Some, None, IfSome}
use Rattle.std.specs.List.Sorted.{IsNonDecreasingBy}
use Rattle.rectangle_pack_sections.specs.declared.axis.Axis.{Axis}
use Rattle.rectangle_pack_sections.specs.declared.axis.Axis.TheVariants.{X, Y, Z}
use Rattle.rectangle_pack_plans.specs.declared.cut_plan.CutStep.TheVariants.{Cut as CutAt}
use Rattle.rectangle_pack_plans.specs.declared.cut_plan.Part.{Part}
use Rattle.rectangle_pack_plans.specs.declared.cut_plan.peel.Look.{Look}
use Rattle.rectangle_pack_plans.specs.declared.cut_plan.peel.Look.TheVariants.{Open, Closed, Unknown}
use Rattle.rectangle_pack_plans.specs.declared.cut_plan.split.Split.{Split}
use Rattle.rectangle_pack_sections.specs.Boxes.{Cuboid, FitsU32, extent, start, end, has_cells}
use Rattle.rectangle_pack_sections.specs.Counting.{Tiles}
use Rattle.rectangle_pack_sections.specs.CutTrees.{lower, upper, HaveSameBoxes}
use Rattle.rectangle_pack_plans.specs.CutPlans.{IsOpenPlane, axis_rank, lower_boxes, upper_boxes}

-- each of the boxes has cells, and ends within 32 bits
abbrev pub HaveCellsAndFit : List Cuboid → Type 0
HaveCellsAndFit boxes = All (λ b. (has_cells b ≡ true) × FitsU32 b) boxes

-- the boxes fill the part (`Tiles`), each has cells, and the part ends within 32 bits
pub record IsFilled (whole : Cuboid) (boxes : List Cuboid) : Type 0 where
  pub fits : FitsU32 whole
  pub tiles : Tiles boxes whole
  pub cells : All (λ e. has_cells e ≡ true) boxes

-- where an axis is named, the boxes stand in the order of their starts on it
-- Example: on x: A, C, D, B, E, which start at 0, 0, 1, 2 and 3
abbrev pub AreOrdered : Option Axis → List Cuboid → Type 0
AreOrdered ordered boxes = IfSome ordered (λ a. IsNonDecreasingBy (start a) boxes)

-- no plane on the axis is open below the place
abbrev pub IsClosedBelow : Axis → ℕ → Cuboid → List Cuboid → Type 0
IsClosedBelow a place whole boxes = (q : ℕ) → q < place → ¬ IsOpenPlane a q whole boxes

-- no plane on the axis is open
-- Example: on x: 1 is strictly inside A, 2 inside D and 3 inside B. In the order A, C, D, B, E each but the first
-- starts before an earlier one ends
abbrev pub IsClosedOn : Axis → Cuboid → List Cuboid → Type 0
IsClosedOn a whole boxes = (q : ℕ) → ¬ IsOpenPlane a q whole boxes

-- no plane is open on the first n of the axes x, y and z
abbrev pub AreClosed : ℕ → Cuboid → List Cuboid → Type 0
AreClosed n whole boxes = (a : Axis) → axis_rank a < n → IsClosedOn a whole boxes

-- the first open plane on the axis a is at the place. `below` boxes are below it, more than none and less than all, and
-- they stand in front of those above it
-- Example: on y, of A, B, C, D, E: 1, with 2 boxes below it. C is the first that starts where all earlier ones have
-- ended
pub record IsFirstOpen (a : Axis) (whole : Cuboid) (boxes : List Cuboid) (place below : ℕ) : Type 0 where
  pub is_open : IsOpenPlane a place whole boxes
  pub least : IsClosedBelow a place whole boxes
  pub some_below : 0 < below
  pub some_above : below < length boxes
  pub front : take below boxes ≡ lower_boxes a place boxes
  pub back : drop below boxes ≡ upper_boxes a place boxes

-- the first open plane of the axes is at the split (`IsFirstOpen`): the boxes stand in the order that the split names
-- (`AreOrdered`), and no plane is open on an axis before its axis
-- Example: y 1. Were D the two boxes (1,1,0) 1x1x1 and (2,1,0) 1x1x1, it would be x 2
pub record IsSplit (whole : Cuboid) (boxes : List Cuboid) (split : Split) : Type 0 where
  pub on_axis : IsFirstOpen split.axis whole boxes split.place split.below
  pub ordered : AreOrdered split.ordered boxes
  pub first : AreClosed (axis_rank split.axis) whole boxes

-- a box starts and ends on the axis where the whole does
abbrev pub RunsOver : Axis → Cuboid → Cuboid → Type 0
RunsOver a b whole = (start a b ≡ start a whole) × (end a b ≡ end a whole)

-- a strip: a box that starts beyond the start of the whole on the axis, and is all of the whole from there on
pub record IsStrip (a : Axis) (whole b : Cuboid) : Type 0 where
  pub others : (e : Axis) → a ≢ e → RunsOver e b whole
  pub after : start a whole < start a b
  pub ends : end a b ≡ end a whole

-- the lower part of a part that is split, with how many boxes it has, and on which axis they are in order, as the split
-- names it. The cut comes before its plan
abbrev pub lower_part : Part → Split → Part
lower_part p s =
    record { whole = lower s.axis s.place p.whole; count = s.below; ordered = s.ordered; before = Some (CutAt s.axis s.place); turns = 0 }

-- the upper part, likewise; nothing comes before its plan
abbrev pub upper_part : Part → Split → ℕ → Part
upper_part p s turns = record { whole = upper s.axis s.place p.whole; count = p.count - s.below; ordered = s.ordered; before = None; turns = turns }

-- whether the box does not start before the part, on any axis
unfoldable pub is_left : Cuboid → Cuboid → Bool
is_left part b = (nat_le (start X part) (start X b) && nat_le (start Y part) (start Y b)) && nat_le (start Z part) (start Z b)

-- the boxes that are left of a part, once lower parts were cut off it (`is_left`)
abbrev pub left_in : Cuboid → List Cuboid → List Cuboid
left_in part boxes = filter (is_left part) boxes

-- `rest` is the end of the list `order`, from the first on that is left once n of those that are left were taken
pub record IsLeftIn (part : Cuboid) (n : ℕ) (order rest : List Cuboid) : Type 0 where
  pub gone : ℕ
  pub is : rest ≡ drop gone order
  pub left : left_in part rest ≡ drop n (left_in part order)

-- what a look along an axis may find: the first open plane (`IsFirstOpen`), or that none is open (`IsClosedOn`); it may
-- find nothing
abbrev pub FindsPlane : Axis → Cuboid → List Cuboid → Look → Type 0
FindsPlane a whole boxes (Open place below) = IsFirstOpen a whole boxes place below
FindsPlane a whole boxes Closed = IsClosedOn a whole boxes
FindsPlane a whole boxes Unknown = ⊤

-- by start on an axis, and the longest first
abbrev pub start_rank : Axis → Cuboid → ℕ
start_rank a b = start a b * 4294967296 + (4294967295 - extent a b.whd)

-- of three lists, that of an axis
abbrev pub along : Axis → List Cuboid → List Cuboid → List Cuboid → List Cuboid
along X xs ys zs = xs
along Y xs ys zs = ys
along Z xs ys zs = zs

-- each of the lists is in order on its axis, the third only where the part is deeper than 1. The boxes that are left in
-- a list have cells; they are the same in all three, and fill the part
pub record AreInOrder (part : Cuboid) (xs ys zs : List Cuboid) : Type 0 where
  pub rising : (a : Axis) → (a ≡ Z → 1 < part.whd.depth) → IsNonDecreasingBy (start a) (along a xs ys zs)
  pub filled : IsFilled part (left_in part xs)
  pub same : (a : Axis) → HaveSameBoxes (left_in part xs) (left_in part (along a xs ys zs))
  pub cells : (a : Axis) → All (λ b. has_cells b ≡ true) (left_in part (along a xs ys zs))

-- the boxes that are left in the list of the split's axis are split by it (`IsSplit`)
abbrev pub IsKeptSplit : Cuboid → List Cuboid → List Cuboid → List Cuboid → Split → Type 0
IsKeptSplit part xs ys zs split = IsSplit part (left_in part (along split.axis xs ys zs)) split

-- the lists are those of the upper part (`AreInOrder`), and what is left in them is what was above the split
pub record IsKeptAbove (part : Cuboid) (split : Split) (es xs ys zs : List Cuboid) : Type 0 where
  pub ordered : AreInOrder (upper split.axis split.place part) xs ys zs
  pub same : HaveSameBoxes (drop split.below es) (left_in (upper split.axis split.place part) xs)
