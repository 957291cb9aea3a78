-- Cutting plans: each part is cut at its first open plane, and the plan is the tree of these cuts, in order. Examples are
-- of the bin 100x100x1 with the boxes (0,0,0) 50x90x1, (0,90,0) 1x1x1, (50,0,0) 50x100x1, (1,90,0) 49x10x1 and
-- (0,91,0) 1x9x1.
use Rattle.std.specs.Prelude.{ℕ, ◌≡◌, ◌<◌, ◌≤◌, ◌⊎◌, true, nat_le, List, [], ◌∷◌, ◌++◌, All, filter, count_by}
use Rattle.rectangle_pack_sections.specs.declared.axis.Axis.{Axis}
use Rattle.rectangle_pack_sections.specs.declared.axis.Axis.TheVariants.{X, Y, Z}
use Rattle.rectangle_pack_plans.specs.declared.cut_plan.CutStep.{CutStep}
use Rattle.rectangle_pack_plans.specs.declared.cut_plan.CutStep.TheVariants.{Cut as CutAt, Leaf as LeafHere}
use Rattle.rectangle_pack_sections.specs.Boxes.{Cuboid, start, end, has_cells}
use Rattle.rectangle_pack_sections.specs.CutTrees.{CutTree, Leaf, Cut, lower, upper, IsFromCuts}

-- the plane at this place of the axis is not strictly inside the box: the box ends there or before it, or starts there
-- or beyond it
-- Example: x 50 and (0,0,0) 50x90x1, which ends at 50; not x 1, which is strictly inside it
abbrev pub IsUncut : Axis → ℕ → Cuboid → Type 0
IsUncut a place b = (end a b ≤ place) ⊎ (place ≤ start a b)

-- an open plane of a box that is filled by boxes, where a straight cut parts them: strictly inside the whole, and
-- strictly inside no box that has cells
-- Example: x 50 alone: a lower x is strictly inside (0,0,0) 50x90x1, a higher x and each y strictly inside (50,0,0)
-- 50x100x1, and no z strictly inside the bin
pub record IsOpenPlane (a : Axis) (place : ℕ) (whole : Cuboid) (boxes : List Cuboid) : Type 0 where
  pub after_start : start a whole < place
  pub before_end : place < end a whole
  pub uncut : All (λ b. has_cells b ≡ true → IsUncut a place b) boxes

-- where an axis stands in the order x, y, z: 0, 1 or 2
unfoldable pub axis_rank : Axis → ℕ
axis_rank X = 0
axis_rank Y = 1
axis_rank Z = 2

-- the first open plane: no lower place on its axis has one, and no axis before it
-- Example: of the part (0,90,0) 1x10x1: y 91, since no place on x is strictly inside it
pub record IsFirstPlane (a : Axis) (place : ℕ) (whole : Cuboid) (boxes : List Cuboid) : Type 0 where
  pub is_open : IsOpenPlane a place whole boxes
  pub least : (q : ℕ) → q < place → ¬ IsOpenPlane a q whole boxes
  pub first : (e : Axis) (q : ℕ) → axis_rank e < axis_rank a → ¬ IsOpenPlane e q whole boxes

-- the boxes that fill the lower part: those that end at the place or before it
-- Example: at y 90 of the part (0,0,0) 50x100x1: (0,0,0) 50x90x1
abbrev pub lower_boxes : Axis → ℕ → List Cuboid → List Cuboid
lower_boxes a place boxes = filter (λ b. nat_le (end a b) place) boxes

-- the boxes that fill the upper part: those that start at the place or beyond it. A box that is not cut and has cells
-- is in one of the two lists; one without cells may be in both, or in neither, and does not count
-- Example: (0,90,0) 1x1x1, (1,90,0) 49x10x1, (0,91,0) 1x9x1
abbrev pub upper_boxes : Axis → ℕ → List Cuboid → List Cuboid
upper_boxes a place boxes = filter (λ b. nat_le place (start a b)) boxes

-- the tree that is planned for a box that is filled by boxes: a leaf where at most one of them has cells; else the cut
-- at the first open plane, with the planned tree of the lower part and the boxes below, and that of the upper part and
-- the boxes above
-- Example: Cut x 50 (Cut y 90 Leaf (Cut x 1 (Cut y 91 Leaf Leaf) Leaf)) Leaf
abbrev pub IsPlannedTree : CutTree → Cuboid → List Cuboid → Type 0
IsPlannedTree Leaf whole boxes = count_by has_cells boxes ≤ 1
IsPlannedTree (Cut a place lower_tree upper_tree) whole boxes =
    (2 ≤ count_by has_cells boxes) × IsFirstPlane a place whole boxes
    × IsPlannedTree lower_tree (lower a place whole) (lower_boxes a place boxes)
    × IsPlannedTree upper_tree (upper a place whole) (upper_boxes a place boxes)

-- a tree in order: a leaf, or a cut followed by the lower and the upper part
-- Example: x 50, y 90, Leaf, x 1, y 91, Leaf, Leaf, Leaf, Leaf
abbrev pub steps_of : CutTree → List CutStep
steps_of Leaf = LeafHere ∷ []
steps_of (Cut a place lower_tree upper_tree) = CutAt a place ∷ (steps_of lower_tree ++ steps_of upper_tree)

-- the plan of a box that is filled by boxes: some tree of it has them as its leaves, boxes without cells aside; it is
-- the planned one (`IsPlannedTree`); and the steps are that tree in order (`steps_of`)
-- Example: the nine steps of the last example
pub record IsCutPlan (boxes : List Cuboid) (whole : Cuboid) (steps : List CutStep) : Type 0 where
  pub from_cuts : IsFromCuts boxes whole
  pub planned : IsPlannedTree from_cuts.tree whole boxes
  pub in_order : steps ≡ steps_of from_cuts.tree
