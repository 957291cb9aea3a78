-- Orders of the boxes of a part along x, y and z, from which lower parts are cut off.
use Rattle.rectangle_pack_sections.proofs.Std.{ℕ, ◌≤◌, ◌≡◌, ◌&&◌, Bool, true, false, List, [], ◌∷◌, filter, nat_le, Some, refl, ap, sym, ◌∙◌, subst, arith, All, and_comm}
use Rattle.rectangle_pack_sections.proofs.Std.{IsNonDecreasingBy, IsNonDecreasingBy-drop, All-filter, filter_passes, le-leb, leb-true, cond, IsPermutation, length-filter, length, ◌<◌, ◌+◌, IsPermutation-refl}
use Rattle.std.proofs.lemmas.List.Kept.{IsNonDecreasingBy-filter}
use Rattle.rectangle_pack_sections.specs.declared.axis.Axis.{Axis}
use Rattle.rectangle_pack_sections.specs.declared.axis.Axis.TheVariants.{X, Y, Z}
use Rattle.rectangle_pack_plans.specs.declared.cut_plan.split.Split.{Split}
use Rattle.rectangle_pack_sections.specs.Boxes.{Cuboid, start, has_cells}
use Rattle.rectangle_pack_sections.specs.CutTrees.{upper, HaveSameBoxes}
use Rattle.rectangle_pack_plans.specs.CutPlans.{IsOpenPlane, axis_rank, upper_boxes}
use Rattle.rectangle_pack_plans.specs.private.CutPlans.{IsFilled, IsClosedOn, AreClosed, IsFirstOpen, is_left, left_in, IsLeftIn, along, AreInOrder, IsKeptSplit, IsKeptAbove}
use Rattle.rectangle_pack_sections.proofs.lemmas.cuts.Axes.{stays_in}
use Rattle.rectangle_pack_sections.proofs.lemmas.cuts.Counting.{filter_all}
use Rattle.rectangle_pack_sections.proofs.lemmas.cuts.SameBoxes.{HaveSameBoxes-sym, HaveSameBoxes-filtered, HaveSameBoxes-permutation, count-same}
use Rattle.rectangle_pack_plans.proofs.lemmas.cut_plan.Filling.{FitsU32-part, IsFilled-permutation, boxes_inside}
use Rattle.rectangle_pack_plans.proofs.lemmas.cut_plan.OpenPlanes.{IsOpenPlane-same}
use Rattle.rectangle_pack_plans.proofs.lemmas.cut_plan.FirstPlanes.{AreClosed-same, AreClosed-more}
use Rattle.rectangle_pack_plans.proofs.lemmas.cut_plan.Split.{IsPlaceOf-open, upper_side}

-- a test that is stricter than another takes its place, and stands behind the whole
move_test : (f : Bool → Bool) → f false ≡ false → (m l : Bool) → (m ≡ true → l ≡ true) → f m ≡ (f l && m)
move_test f none true l h = rw (h refl) (and_comm true (f true))
move_test f none false l h = none ∙ and_comm false (f l)

is_left-upper : (a : Axis) (p : ℕ) (part b : Cuboid) → start a part ≤ p → is_left (upper a p part) b ≡ (is_left part b && nat_le p (start a b))
unfolding is_left start upper
is_left-upper X p part b from = move_test (λ t. (t && nat_le part.y b.y) && nat_le part.z b.z) refl (nat_le p b.x) (nat_le part.x b.x)
    (λ t. le-leb _ _ (omega (arith, leb-true p b.x t)))
is_left-upper Y p part b from = move_test (λ t. (nat_le part.x b.x && t) && nat_le part.z b.z) (rw (and_comm (nat_le part.x b.x) false) refl)
    (nat_le p b.y) (nat_le part.y b.y) (λ t. le-leb _ _ (omega (arith, leb-true p b.y t)))
is_left-upper Z p part b from = move_test (λ t. (nat_le part.x b.x && nat_le part.y b.y) && t) (and_comm (nat_le part.x b.x && nat_le part.y b.y) false)
    (nat_le p b.z) (nat_le part.z b.z) (λ t. le-leb _ _ (omega (arith, leb-true p b.z t)))

-- what passes two tests passes one and then the other
filter-both : {A : Type 0} (f g h : A → Bool) → ((x : A) → h x ≡ (f x && g x)) → (xs : List A) → filter h xs ≡ filter g (filter f xs)
filter-both f g h is [] = refl
filter-both f g h is (x ∷ xs) = rw (is x, filter-both f g h is xs) (by (f x) (g x) refl)
  where
    by : (s t : Bool) → g x ≡ t → cond (s && t) (x ∷ filter g (filter f xs)) (filter g (filter f xs)) ≡ filter g (cond s (x ∷ filter f xs) (filter f xs))
    by true t e = rw e refl
    by false t e = refl

left_in-upper : (a : Axis) (p : ℕ) (part : Cuboid) (xs : List Cuboid) → start a part ≤ p → left_in (upper a p part) xs ≡ upper_boxes a p (left_in part xs)
left_in-upper a p part xs from =
    filter-both (is_left part) (λ b. nat_le p (start a b)) (is_left (upper a p part)) (λ b. is_left-upper a p part b from) xs

-- all boxes that fill a part are left of it
pub all_left : (part : Cuboid) (xs : List Cuboid) → IsFilled part xs → left_in part xs ≡ xs
unfolding is_left
all_left part xs filled = filter_all (is_left part) xs (λ i d within.
    let inside = stays_in _ part (boxes_inside part xs filled.tiles i d within (filled.cells i d within)) in
    rw (le-leb _ _ (inside X).0, le-leb _ _ (inside Y).0, le-leb _ _ (inside Z).0) refl)

pub rises-left : {part : Cuboid} {n : ℕ} {order rest : List Cuboid} (f : Cuboid → ℕ) → IsLeftIn part n order rest → IsNonDecreasingBy f order
    → IsNonDecreasingBy f rest
rises-left f h rises = subst (IsNonDecreasingBy f) (sym h.is) (IsNonDecreasingBy-drop f h.gone _ rises)

-- what holds of each axis
pub each_axis : (P : Axis → Type 0) → P X → P Y → P Z → (a : Axis) → P a
each_axis P x y z X = x
each_axis P x y z Y = y
each_axis P x y z Z = z

-- three orders of the boxes that fill a part
pub AreInOrder-start : (part : Cuboid) (boxes xs ys zs : List Cuboid) → IsFilled part boxes → IsPermutation boxes xs → IsPermutation boxes ys
    → IsPermutation boxes zs → IsNonDecreasingBy (start X) xs → IsNonDecreasingBy (start Y) ys → (1 < part.whd.depth → IsNonDecreasingBy (start Z) zs)
    → AreInOrder part xs ys zs
AreInOrder-start part boxes xs ys zs filled one other third x y z =
    let moved : (a : Axis) → IsPermutation boxes (along a xs ys zs) = each_axis (λ a. IsPermutation boxes (along a xs ys zs)) one other third in
    let fills : (a : Axis) → IsFilled part (along a xs ys zs) = λ a. IsFilled-permutation part boxes (along a xs ys zs) (moved a) filled in
    let all : (a : Axis) → left_in part (along a xs ys zs) ≡ along a xs ys zs = λ a. all_left part (along a xs ys zs) (fills a) in
    let same : (a : Axis) → HaveSameBoxes xs (along a xs ys zs) =
    λ a b cells. sym (HaveSameBoxes-permutation boxes xs one b cells) ∙ HaveSameBoxes-permutation boxes (along a xs ys zs) (moved a) b cells in
    record {
      rising = each_axis (λ a. (a ≡ Z → 1 < part.whd.depth) → IsNonDecreasingBy (start a) (along a xs ys zs)) (λ _. x) (λ _. y) (λ deep. z (deep refl));
      filled = rw (all X) (fills X);
      same = λ a. rw (all X, all a) (same a);
      cells = λ a. rw (all a) (fills a).cells;
    }

-- a part above a cut is no deeper
no_deeper : (a : Axis) (p : ℕ) (part : Cuboid) → start a part ≤ p → 1 < (upper a p part).whd.depth → 1 < part.whd.depth
unfolding start upper
no_deeper X p part from deep = deep
no_deeper Y p part from deep = deep
no_deeper Z p part from deep = omega arith

module _ (part : Cuboid) (xs ys zs : List Cuboid) (s : Split) (ordered : AreInOrder part xs ys zs) (split : IsKeptSplit part xs ys zs s) where
  abbrev es : List Cuboid
  es = left_in part (along s.axis xs ys zs)

  from : start s.axis part ≤ s.place
  from = omega (arith, split.on_axis.is_open.after_start)

  -- the order from which the lower boxes were taken, and one that has them still
  pub taken_left : (rest last : List Cuboid) → IsLeftIn part s.below (along s.axis xs ys zs) rest → IsLeftIn (upper s.axis s.place part) 0 rest last
      → left_in (upper s.axis s.place part) last ≡ upper_boxes s.axis s.place (left_in part (along s.axis xs ys zs))
  taken_left rest last h k =
      let test : Cuboid → Bool = λ b. nat_le s.place (start s.axis b) in
      k.left ∙ left_in-upper s.axis s.place part rest from ∙ ap (filter test) (h.left ∙ split.on_axis.back)
      ∙ filter_all test (upper_boxes s.axis s.place es) (filter_passes test es)

  pub other_left : (order last : List Cuboid) → IsLeftIn (upper s.axis s.place part) 0 order last
      → left_in (upper s.axis s.place part) last ≡ upper_boxes s.axis s.place (left_in part order)
  other_left order last k = k.left ∙ left_in-upper s.axis s.place part order from

  -- an order after the cut: it rises as it did, and has what was above
  pub record IsKept (a : Axis) (order : List Cuboid) : Type 0 where
    pub rising : IsNonDecreasingBy (start a) (along a xs ys zs) → IsNonDecreasingBy (start a) order
    pub left : left_in (upper s.axis s.place part) order ≡ upper_boxes s.axis s.place (left_in part (along a xs ys zs))

  pub IsKept-taken : (rest last : List Cuboid) → IsLeftIn part s.below (along s.axis xs ys zs) rest → IsLeftIn (upper s.axis s.place part) 0 rest last
      → IsKept s.axis last
  IsKept-taken rest last h k = record { rising = λ r. rises-left (start s.axis) k (rises-left (start s.axis) h r); left = taken_left rest last h k }

  pub IsKept-other : (a : Axis) (last : List Cuboid) → IsLeftIn (upper s.axis s.place part) 0 (along a xs ys zs) last → IsKept a last
  IsKept-other a last k = record { rising = rises-left (start a) k; left = other_left (along a xs ys zs) last k }

  pub IsKeptAbove-from : (us vs ws : List Cuboid) → IsKept X us → IsKept Y vs → IsKept Z ws
      → IsKeptAbove part s (left_in part (along s.axis xs ys zs)) us vs ws
  IsKeptAbove-from us vs ws in_x in_y in_z =
      let a = s.axis in
      let p = s.place in
      let above = upper a p part in
      let test : Cuboid → Bool = λ b. nat_le p (start a b) in
      let same : HaveSameBoxes es (left_in part xs) = HaveSameBoxes-sym (left_in part xs) es (ordered.same a) in
      let here : IsOpenPlane a p part (left_in part xs) = IsOpenPlane-same a p part es (left_in part xs) same split.on_axis.is_open in
      let side = upper_side a p part (left_in part xs) (IsPlaceOf-open here) here.uncut ordered.filled.tiles in
      let filled : IsFilled (upper a p part) (upper_boxes a p (left_in part xs)) = record {
        fits = FitsU32-part (upper a p part) part side.inside ordered.filled.fits;
        tiles = side.tiles;
        cells = All-filter test (λ b. has_cells b ≡ true) (left_in part xs) ordered.filled.cells;
      } in
      let kept : (e : Axis) → IsKept e (along e us vs ws) = each_axis (λ e. IsKept e (along e us vs ws)) in_x in_y in_z in
      record {
        ordered = record {
          rising = λ e deep. (kept e).rising (ordered.rising e (λ is. no_deeper a p part from (deep is)));
          filled = rw in_x.left filled;
          same = λ e. rw (in_x.left, (kept e).left) (HaveSameBoxes-filtered test (left_in part xs) (left_in part (along e xs ys zs)) (ordered.same e));
          cells = λ e. rw (kept e).left (All-filter test (λ b. has_cells b ≡ true) (left_in part (along e xs ys zs)) (ordered.cells e));
        };
        same = rw (in_x.left, split.on_axis.back) (HaveSameBoxes-filtered test es (left_in part xs) same);
      }

-- lists of the same boxes that have cells are equally long
pub length-same : (bs es : List Cuboid) → HaveSameBoxes bs es → All (λ b. has_cells b ≡ true) bs → All (λ b. has_cells b ≡ true) es → length bs ≡ length es
length-same bs es same one other =
    omega (
      arith,
      count-same has_cells (λ b cells. cells) bs es same,
      length-filter has_cells bs,
      length-filter has_cells es,
      ap length (filter_all has_cells bs one),
      ap length (filter_all has_cells es other),
    )

-- the first open plane on an axis is a split, where none is open on the axes before it
pub IsKeptSplit-on : (part : Cuboid) (xs ys zs : List Cuboid) → AreInOrder part xs ys zs → (a : Axis) → (a ≡ Z → 1 < part.whd.depth) → (s : Split) (place below : ℕ)
    → s.axis ≡ a → s.place ≡ place → s.below ≡ below → s.ordered ≡ Some a → AreClosed (axis_rank a) part (left_in part xs)
    → IsFirstOpen a part (left_in part (along a xs ys zs)) place below → IsKeptSplit part xs ys zs s
IsKeptSplit-on part xs ys zs ordered a deep s place below is at some order closed found = record {
  on_axis = rw (is, at, some) found;
  ordered = rw (is, order) (IsNonDecreasingBy-filter (start a) (is_left part) (along a xs ys zs) (ordered.rising a deep));
  first = rw is (AreClosed-same (axis_rank a) part (left_in part xs) (left_in part (along a xs ys zs)) (ordered.same a) closed);
}

-- one axis more on which none is open
pub AreClosed-on : (part : Cuboid) (xs ys zs : List Cuboid) → AreInOrder part xs ys zs → (a : Axis) → AreClosed (axis_rank a) part (left_in part xs)
    → IsClosedOn a part (left_in part (along a xs ys zs)) → AreClosed (axis_rank a + 1) part (left_in part xs)
AreClosed-on part xs ys zs ordered a closed here =
    let bs = left_in part xs in
    let es = left_in part (along a xs ys zs) in
    AreClosed-more a part bs bs (IsPermutation-refl bs) closed (λ q o. here q (IsOpenPlane-same a q part bs es (ordered.same a) o))

-- boxes are left in one order where some are in another
pub some_left : (part : Cuboid) (xs ys zs : List Cuboid) → AreInOrder part xs ys zs → (a : Axis) → 0 < length (left_in part xs)
    → 0 < length (left_in part (along a xs ys zs))
some_left part xs ys zs ordered a some =
    omega (arith, length-same (left_in part xs) (left_in part (along a xs ys zs)) (ordered.same a) ordered.filled.cells (ordered.cells a))
