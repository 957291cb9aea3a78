-- First open planes, and the trees that they plan.
use Rattle.rectangle_pack_sections.proofs.Std.{ℕ, ◌≡◌, ◌+◌, ◌<◌, [], ◌∷◌, get_or, List, refl, ap, sym, ◌∙◌, subst, arith, inl, inr, nat_le, IsPermutation, cases_lt, cases_order}
use Rattle.rectangle_pack_sections.specs.declared.axis.Axis.{Axis}
use Rattle.rectangle_pack_sections.specs.declared.axis.Axis.TheVariants.{X, Y, Z}
use Rattle.rectangle_pack_plans.specs.declared.cut_plan.CutStep.{CutStep}
use Rattle.rectangle_pack_sections.specs.Boxes.{Cuboid, start, end, has_cells}
use Rattle.rectangle_pack_sections.specs.Counting.{Tiles}
use Rattle.rectangle_pack_sections.specs.CutTrees.{lower, upper, CutTree, Leaf, Cut, IsTreeOf, leaves, HaveSameBoxes}
use Rattle.rectangle_pack_plans.specs.CutPlans.{axis_rank, IsFirstPlane, lower_boxes, upper_boxes, IsPlannedTree, steps_of, IsCutPlan}
use Rattle.rectangle_pack_plans.specs.private.CutPlans.{IsClosedOn, AreClosed}
use Rattle.rectangle_pack_plans.proofs.lemmas.cut_plan.Filling.{one_box_fills}
use Rattle.rectangle_pack_plans.proofs.lemmas.cut_plan.OpenPlanes.{IsOpenPlane-same}
use Rattle.rectangle_pack_plans.proofs.lemmas.cut_plan.Split.{IsPlaceOf-open, times_in-sides, lower_side, upper_side}
use Rattle.rectangle_pack_sections.proofs.lemmas.cuts.SameBoxes.{HaveSameBoxes-sym, HaveSameBoxes-permutation, HaveSameBoxes-filtered, count-same}
use Rattle.rectangle_pack_sections.proofs.lemmas.cuts.Times.{times_in-append}
use Rattle.rectangle_pack_sections.proofs.lemmas.cuts.Axes.{below_3}

-- the axes stand in the order of their ranks
pub rank_at : (i : ℕ) → i < 3 → axis_rank (get_or (X ∷ Y ∷ Z ∷ []) i X) ≡ i
unfolding axis_rank
rank_at = below_3 (λ i. axis_rank (get_or (X ∷ Y ∷ Z ∷ []) i X) ≡ i) refl refl refl

pub axis_by_rank : (a e : Axis) → axis_rank a ≡ axis_rank e → a ≡ e
unfolding axis_rank
axis_by_rank X X same = refl
axis_by_rank Y Y same = refl
axis_by_rank Z Z same = refl
axis_by_rank _ _ same = absurd (omega arith)

pub AreClosed-same : (n : ℕ) (whole : Cuboid) (bs es : List Cuboid) → HaveSameBoxes bs es → AreClosed n whole bs → AreClosed n whole es
AreClosed-same n whole bs es same closed = λ a lt q h. closed a lt q (IsOpenPlane-same a q whole es bs (HaveSameBoxes-sym bs es same) h)

pub AreClosed-permutation : (n : ℕ) (whole : Cuboid) (bs es : List Cuboid) → IsPermutation bs es → AreClosed n whole bs → AreClosed n whole es
AreClosed-permutation n whole bs es moved closed = AreClosed-same n whole bs es (HaveSameBoxes-permutation bs es moved) closed

-- one axis more, and the boxes in another order
pub AreClosed-more : (a : Axis) (whole : Cuboid) (bs es : List Cuboid) → IsPermutation bs es → AreClosed (axis_rank a) whole bs → IsClosedOn a whole es
    → AreClosed (axis_rank a + 1) whole es
AreClosed-more a whole bs es moved closed here = λ e lt. elim (cases_lt (axis_rank e) (axis_rank a)) [
  | inl less ↦ AreClosed-permutation (axis_rank a) whole bs es moved closed e less
  | inr more ↦ subst (λ e. IsClosedOn e whole es) (axis_by_rank a e (omega arith)) here
]

IsFirstPlane-same : (a : Axis) (place : ℕ) (whole : Cuboid) (bs es : List Cuboid) → HaveSameBoxes bs es → IsFirstPlane a place whole bs
    → IsFirstPlane a place whole es
IsFirstPlane-same a place whole bs es same h =
    let back = HaveSameBoxes-sym bs es same in
    record {
      is_open = IsOpenPlane-same a place whole bs es same h.is_open;
      least = λ q lt o. h.least q lt (IsOpenPlane-same a q whole es bs back o);
      first = λ e q lt o. h.first e q lt (IsOpenPlane-same e q whole es bs back o);
    }

-- the same boxes have the same planned tree
pub IsPlannedTree-same : (t : CutTree) (whole : Cuboid) (bs es : List Cuboid) → HaveSameBoxes bs es → IsPlannedTree t whole bs → IsPlannedTree t whole es
IsPlannedTree-same Leaf whole bs es same few = omega (arith, few, count-same has_cells (λ b cells. cells) bs es same)
IsPlannedTree-same (Cut a p l u) whole bs es same h = (
  omega (arith, h.0, count-same has_cells (λ b cells. cells) bs es same),
  IsFirstPlane-same a p whole bs es same h.1,
  IsPlannedTree-same l (lower a p whole) (lower_boxes a p bs) (lower_boxes a p es) (HaveSameBoxes-filtered (λ b. nat_le (end a b) p) bs es same) h.2,
  IsPlannedTree-same u (upper a p whole) (upper_boxes a p bs) (upper_boxes a p es) (HaveSameBoxes-filtered (λ b. nat_le p (start a b)) bs es same) h.3,
)

-- the planned tree of boxes that fill the whole is a tree of it, with these leaves
pub planned_tree_has_leaves : (t : CutTree) (whole : Cuboid) (boxes : List Cuboid) → Tiles boxes whole → IsPlannedTree t whole boxes
    → IsTreeOf t whole × HaveSameBoxes (leaves t whole) boxes
unfolding leaves
planned_tree_has_leaves Leaf whole boxes tiles few = (tt, one_box_fills whole boxes tiles few)
planned_tree_has_leaves (Cut a p l u) whole boxes tiles h =
    let is_open = h.1.is_open in
    let place = IsPlaceOf-open is_open in
    let below = planned_tree_has_leaves l (lower a p whole) (lower_boxes a p boxes) (lower_side a p whole boxes place is_open.uncut tiles).tiles h.2 in
    let above = planned_tree_has_leaves u (upper a p whole) (upper_boxes a p boxes) (upper_side a p whole boxes place is_open.uncut tiles).tiles h.3 in (
      (place, below.0, above.0),
      λ b cells. omega (
        arith,
        times_in-append b (leaves l (lower a p whole)) (leaves u (upper a p whole)),
        below.1 b cells,
        above.1 b cells,
        times_in-sides a p boxes is_open.uncut b cells,
      ),
    )

first_plane_is_one : (a e : Axis) (p q : ℕ) (whole : Cuboid) (boxes : List Cuboid) → IsFirstPlane a p whole boxes → IsFirstPlane e q whole boxes
    → (a ≡ e) × (p ≡ q)
first_plane_is_one a e p q whole boxes h k = elim (cases_order (axis_rank a) (axis_rank e)) [
  | inr (inl lt) ↦ absurd (k.first a p lt h.is_open)
  | inr (inr gt) ↦ absurd (h.first e q gt k.is_open)
  | inl same ↦
      let is : a ≡ e = axis_by_rank a e same in
      let other = rw (← is) at k in
      elim (cases_order p q) [
        | inl one ↦ (is, one)
        | inr (inl lt) ↦ absurd (other.least p lt h.is_open)
        | inr (inr gt) ↦ absurd (h.least q gt other.is_open)
      ]
]

planned_tree_is_one : (t u : CutTree) (whole : Cuboid) (boxes : List Cuboid) → IsPlannedTree t whole boxes → IsPlannedTree u whole boxes → t ≡ u
planned_tree_is_one Leaf Leaf whole boxes h k = refl
planned_tree_is_one Leaf (Cut e q l u) whole boxes h k = absurd (omega (arith, h, k.0))
planned_tree_is_one (Cut a p l u) Leaf whole boxes h k = absurd (omega (arith, h.0, k))
planned_tree_is_one (Cut a p l u) (Cut e q m v) whole boxes h k =
    let one = first_plane_is_one a e p q whole boxes h.1 k.1 in
    let lowers = planned_tree_is_one l m (lower a p whole) (lower_boxes a p boxes) h.2 (rw (← one.0, ← one.1) at k.2) in
    let uppers = planned_tree_is_one u v (upper a p whole) (upper_boxes a p boxes) h.3 (rw (← one.0, ← one.1) at k.3) in
    λ i. Cut (one.0 i) (one.1 i) (lowers i) (uppers i)

pub IsCutPlan-same : (boxes others : List Cuboid) (whole : Cuboid) (steps : List CutStep) → HaveSameBoxes boxes others → IsCutPlan boxes whole steps
    → IsCutPlan others whole steps
IsCutPlan-same boxes others whole steps same h = record {
  from_cuts = record {
    tree = h.from_cuts.tree;
    is_tree = h.from_cuts.is_tree;
    same = λ b cells. h.from_cuts.same b cells ∙ same b cells;
  };
  planned = IsPlannedTree-same h.from_cuts.tree whole boxes others same h.planned;
  in_order = h.in_order;
}

pub plans_are_unique : (boxes others : List Cuboid) (whole : Cuboid) (one other : List CutStep) → HaveSameBoxes boxes others → IsCutPlan boxes whole one
    → IsCutPlan others whole other → one ≡ other
plans_are_unique boxes others whole one other same h k =
    let here = IsPlannedTree-same h.from_cuts.tree whole boxes others same h.planned in
    let tree : h.from_cuts.tree ≡ k.from_cuts.tree = planned_tree_is_one h.from_cuts.tree k.from_cuts.tree whole others here k.planned in
    h.in_order ∙ (ap steps_of tree ∙ sym k.in_order)
