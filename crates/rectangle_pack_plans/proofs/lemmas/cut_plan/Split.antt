-- A plane that cuts no box with cells: it splits a list from cuts into two that are, and what is on either side of it fills either part.
use Rattle.rectangle_pack_sections.proofs.Std.{ℕ, ◌+◌, ◌<◌, ◌≤◌, ◌≡◌, ◌≢◌, Bool, true, false, List, [], ◌∷◌, ◌++◌, sym, ◌∙◌, arith, inl, inr, le_antisymm, All}
use Rattle.rectangle_pack_sections.proofs.Std.{filter, nat_le, count_by, cases_lt, cases_Bool, both_ways, false_from_ne_true, le-leb, lt-leb, leb-true}
use Rattle.rectangle_pack_sections.proofs.Std.{All-from_recursion, filter-append, filter_passes}
use Rattle.rectangle_pack_sections.specs.declared.axis.Axis.{Axis}
use Rattle.rectangle_pack_sections.specs.Boxes.{Cuboid, Cell, IsPartOf, is_cell_of, start, end, has_cells}
use Rattle.rectangle_pack_sections.specs.Counting.{times_filled, Tiles}
use Rattle.rectangle_pack_sections.specs.CutTrees.{lower, upper, IsPlaceOf, CutTree, Leaf, Cut, IsTreeOf, leaves, times_in, HaveSameBoxes, IsFromCuts}
use Rattle.rectangle_pack_plans.specs.CutPlans.{IsUncut, IsOpenPlane, lower_boxes, upper_boxes}
use Rattle.rectangle_pack_sections.proofs.lemmas.util.Lists.{All-front, All-back}
use Rattle.rectangle_pack_sections.proofs.lemmas.cuts.Axes.{cases_axis, coordinate, LiesIn, lies_in, runs_on, stays_in, cells-part}
use Rattle.rectangle_pack_sections.proofs.lemmas.cuts.Boxes.{has_cells-from}
use Rattle.rectangle_pack_sections.proofs.lemmas.cuts.Counting.{count-append}
use Rattle.rectangle_pack_sections.proofs.lemmas.cuts.Parts.{start-lower, end-lower, start-upper, end-upper, lower-lower, upper-upper, upper-lower, upper-start}
use Rattle.rectangle_pack_sections.proofs.lemmas.cuts.Parts.{lower-end, lower-lower_other, lower-upper_other, upper-upper_other, lower-part, upper-part}
use Rattle.rectangle_pack_sections.proofs.lemmas.cuts.Parts.{lower-empty, upper-empty, IsPlaceOf-lower_other, IsPlaceOf-upper_other}
use Rattle.rectangle_pack_sections.proofs.lemmas.cuts.Times.{times_in-nil, times_in-append, times_in-kept, times_in-dropped, times_in-filter, which_passes}
use Rattle.rectangle_pack_sections.proofs.lemmas.cuts.Times.{All-times_in, All-from_times_in}
use Rattle.rectangle_pack_sections.proofs.lemmas.cuts.SameBoxes.{HaveSameBoxes-filtered, IsFromCuts-same, count-same}
use Rattle.rectangle_pack_sections.proofs.lemmas.cuts.Trees.{times_in-empty, IsFromCuts-tree, IsFromCuts-leaf, IsFromCuts-none, IsFromCuts-cut, IsFromCuts-part}
use Rattle.rectangle_pack_sections.proofs.lemmas.cuts.TreesFill.{filled-parts}

-- of boxes with cells that pass the one test and not the other, the one keeps all and the other none
one_side : (t u : Cuboid → Bool) (bs : List Cuboid) → ((e : Cuboid) → has_cells e ≡ true → 0 < times_in e bs → (t e ≡ true) × (u e ≡ false))
    → (e : Cuboid) → has_cells e ≡ true → (times_in e bs ≡ times_in e (filter t bs)) × (times_in e [] ≡ times_in e (filter u bs))
one_side t u bs h e cells = elim (cases_lt 0 (times_in e bs)) [
  | inl some ↦ let is = h e cells some in (sym (times_in-kept t e bs is.0), times_in-nil e ∙ sym (times_in-dropped u e bs is.1))
  | inr none ↦ (omega (arith, times_in-filter t e bs), omega (arith, times_in-nil e, times_in-filter u e bs))
]

pub IsPlaceOf-open : {a : Axis} {place : ℕ} {whole : Cuboid} {boxes : List Cuboid} → IsOpenPlane a place whole boxes → IsPlaceOf a place whole
IsPlaceOf-open h = record { from = omega (arith, h.after_start); to = omega (arith, h.before_end) }

-- a side of a plane: the part of the box there, with the boxes that fill it
pub record IsSide (whole : Cuboid) (boxes : List Cuboid) (part : Cuboid) (there : List Cuboid) : Type 0 where
  pub inside : IsPartOf part whole
  pub tiles : Tiles there part
  pub from_cuts : IsFromCuts boxes whole → IsFromCuts there part

module _ (a : Axis) (p : ℕ) where
  -- a box that ends at the plane or before it, and one that starts there or after
  abbrev is_below : Cuboid → Bool
  is_below b = nat_le (end a b) p

  abbrev is_above : Cuboid → Bool
  is_above b = nat_le p (start a b)

  -- a box with cells is not both
  below_alone : (e : Cuboid) → has_cells e ≡ true → end a e ≤ p → (is_below e ≡ true) × (is_above e ≡ false)
  below_alone e cells ends = (le-leb _ _ ends, lt-leb _ _ (omega (arith, runs_on e cells a)))

  above_alone : (e : Cuboid) → has_cells e ≡ true → p ≤ start a e → (is_above e ≡ true) × (is_below e ≡ false)
  above_alone e cells starts = (le-leb _ _ starts, lt-leb _ _ (omega (arith, runs_on e cells a)))

  abbrev Uncut : Cuboid → Type 0
  Uncut b = has_cells b ≡ true → IsUncut a p b

  -- the boxes below the plane are from cuts of the lower part, and those above it of the upper part
  abbrev AreSplit : List Cuboid → Cuboid → Type 0
  AreSplit bs b = IsFromCuts (lower_boxes a p bs) (lower a p b) × IsFromCuts (upper_boxes a p bs) (upper a p b)

  split_leaf : (b : Cuboid) → IsPlaceOf a p b → All Uncut (b ∷ []) → AreSplit (b ∷ []) b
  split_leaf b place uncut = elim (cases_Bool (has_cells b)) [
    | inr empty ↦
        let side = λ (t : Cuboid → Bool) (d : Cuboid) (part : IsPartOf d b).
        IsFromCuts-same [] (filter t (b ∷ [])) (λ e cells. omega (arith, times_in-nil e, times_in-filter t e (b ∷ []), times_in-empty e b cells empty))
        (IsFromCuts-none d (false_from_ne_true _ (λ full. both_ways _ empty (cells-part d b part full)))) in
        (side is_below (lower a p b) (lower-part a p b place), side is_above (upper a p b) (upper-part a p b place))
    | inl full ↦ elim (uncut 0 b (omega arith) full) [
      | inl ends ↦
          let is = below_alone b full ends in
          let same : lower a p b ≡ b = rw (le_antisymm place.to ends) (lower-end a b) in
          rw (is.0, is.1) (rw same (IsFromCuts-leaf b), IsFromCuts-none (upper a p b) (upper-empty a p b place ends))
      | inr starts ↦
          let is = above_alone b full starts in
          let same : upper a p b ≡ b = rw (le_antisymm starts place.from) (upper-start a b) in
          rw (is.0, is.1) (IsFromCuts-none (lower a p b) (lower-empty a p b place starts), rw same (IsFromCuts-leaf b))
    ]
  ]

  module _ (q : ℕ) (b : Cuboid) (place : IsPlaceOf a p b) (low high : List Cuboid) where
    -- a cut on the plane's axis: the part that the plane is in is split
    split_same : IsPlaceOf a q b → IsFromCuts low (lower a q b) → IsFromCuts high (upper a q b)
        → (IsPlaceOf a p (lower a q b) → AreSplit low (lower a q b)) → (IsPlaceOf a p (upper a q b) → AreSplit high (upper a q b)) → AreSplit (low ++ high) b
    split_same cut from_l from_u split_l split_u = elim (cases_lt p q) [
      | inl lt ↦
          let r = split_l (record { from = omega (arith, start-lower a q b); to = omega (arith, end-lower a q b cut.from) }) in
          let s = one_side is_above is_below high (λ e cells some.
          above_alone e cells (omega (arith, stays_in e (upper a q b) (IsFromCuts-part from_u e cells some) a, start-upper a q b))) in
          let over : IsPlaceOf a q (upper a p b) = record { from = omega (arith, start-upper a p b); to = omega (arith, end-upper a p b place.to) } in
          rw (filter-append is_below low high, filter-append is_above low high) (
            IsFromCuts-same (lower_boxes a p low) (lower_boxes a p low ++ lower_boxes a p high)
                (λ e k. omega (arith, times_in-append e (lower_boxes a p low) (lower_boxes a p high), (s e k).1, times_in-nil e))
                (rw (lower-lower a p q b) at r.0),
            IsFromCuts-cut a q (upper a p b) (upper_boxes a p low) (upper_boxes a p high) over (rw (upper-lower a p q b cut.from place.to) at r.1)
                (rw (upper-upper a p q b place.to) (IsFromCuts-same high (upper_boxes a p high) (λ e k. (s e k).0) from_u)),
          )
      | inr ge ↦
          let r = split_u (record { from = omega (arith, start-upper a q b); to = omega (arith, end-upper a q b cut.to) }) in
          let s = one_side is_below is_above low (λ e cells some.
          below_alone e cells (omega (arith, stays_in e (lower a q b) (IsFromCuts-part from_l e cells some) a, end-lower a q b cut.from))) in
          let under : IsPlaceOf a q (lower a p b) = record { from = omega (arith, start-lower a p b); to = omega (arith, end-lower a p b place.from) } in
          rw (filter-append is_below low high, filter-append is_above low high) (
            IsFromCuts-cut a q (lower a p b) (lower_boxes a p low) (lower_boxes a p high) under
                (rw (lower-lower a q p b) (IsFromCuts-same low (lower_boxes a p low) (λ e k. (s e k).0) from_l))
                (rw (upper-lower a q p b place.from cut.to) r.0),
            IsFromCuts-same (upper_boxes a p high) (upper_boxes a p low ++ upper_boxes a p high)
                (λ e k. omega (arith, times_in-append e (upper_boxes a p low) (upper_boxes a p high), (s e k).1, times_in-nil e))
                (rw (upper-upper a q p b cut.to) at r.1),
          )
    ]

    -- a cut on another axis: both parts are split
    split_cut : (e : Axis) → IsPlaceOf e q b → IsFromCuts low (lower e q b) → IsFromCuts high (upper e q b)
        → (IsPlaceOf a p (lower e q b) → AreSplit low (lower e q b)) → (IsPlaceOf a p (upper e q b) → AreSplit high (upper e q b)) → AreSplit (low ++ high) b
    split_cut e cut from_l from_u split_l split_u = elim (cases_axis e a) [
      | inl same ↦ split_same (rw same at cut) (rw same at from_l) (rw same at from_u) (rw same at split_l) (rw same at split_u)
      | inr back ↦
          let other : a ≢ e = λ i. back (sym i) in
          let l = split_l (IsPlaceOf-lower_other e a q p b back place) in
          let u = split_u (IsPlaceOf-upper_other e a q p b back place) in
          rw (filter-append is_below low high, filter-append is_above low high) (
            IsFromCuts-cut e q (lower a p b) (lower_boxes a p low) (lower_boxes a p high) (IsPlaceOf-lower_other a e p q b other cut)
                (rw (lower-lower_other p q b a e other) at l.0) (rw (lower-upper_other p q b a e other) at u.0),
            IsFromCuts-cut e q (upper a p b) (upper_boxes a p low) (upper_boxes a p high) (IsPlaceOf-upper_other a e p q b other cut)
                (rw (lower-upper_other q p b e a back) l.1) (rw (upper-upper_other p q b a e other) at u.1),
          )
    ]

  split_tree : (t : CutTree) (b : Cuboid) → IsTreeOf t b → IsPlaceOf a p b → All Uncut (leaves t b) → AreSplit (leaves t b) b
  unfolding leaves
  split_tree Leaf b is place uncut = split_leaf b place uncut
  split_tree (Cut e q l u) b is place uncut =
      let low = leaves l (lower e q b) in
      let high = leaves u (upper e q b) in
      split_cut q b place low high e is.0 (IsFromCuts-tree l (lower e q b) is.1) (IsFromCuts-tree u (upper e q b) is.2)
      (λ at. split_tree l (lower e q b) is.1 at (All-front Uncut low high uncut))
      (λ at. split_tree u (upper e q b) is.2 at (All-back Uncut low high uncut))

  pub open_planes_split_cuts : (boxes : List Cuboid) (whole : Cuboid) → IsFromCuts boxes whole → IsPlaceOf a p whole → All Uncut boxes → AreSplit boxes whole
  open_planes_split_cuts boxes whole from place uncut =
      let all = leaves from.tree whole in
      let none = All-from_times_in Uncut all (λ e some cells. All-times_in Uncut e boxes uncut (omega (arith, some, from.same e cells)) cells) in
      let r = split_tree from.tree whole from.is_tree place none in (
        IsFromCuts-same (lower_boxes a p all) (lower_boxes a p boxes) (HaveSameBoxes-filtered is_below all boxes from.same) r.0,
        IsFromCuts-same (upper_boxes a p all) (upper_boxes a p boxes) (HaveSameBoxes-filtered is_above all boxes from.same) r.1,
      )

  -- the boxes are those on the two sides
  pub times_in-sides : (boxes : List Cuboid) → All Uncut boxes → (e : Cuboid) → has_cells e ≡ true
      → times_in e (lower_boxes a p boxes) + times_in e (upper_boxes a p boxes) ≡ times_in e boxes
  times_in-sides boxes uncut e cells = elim (cases_lt 0 (times_in e boxes)) [
    | inl some ↦ elim (All-times_in Uncut e boxes uncut some cells) [
      | inl ends ↦ let is = below_alone e cells ends in omega (arith, times_in-kept is_below e boxes is.0, times_in-dropped is_above e boxes is.1)
      | inr starts ↦ let is = above_alone e cells starts in omega (arith, times_in-kept is_above e boxes is.0, times_in-dropped is_below e boxes is.1)
    ]
    | inr none ↦ omega (arith, times_in-filter is_below e boxes, times_in-filter is_above e boxes)
  ]

  pub HaveSameBoxes-split : (boxes : List Cuboid) → All Uncut boxes → HaveSameBoxes (lower_boxes a p boxes ++ upper_boxes a p boxes) boxes
  HaveSameBoxes-split boxes uncut = λ e cells. times_in-append e (lower_boxes a p boxes) (upper_boxes a p boxes) ∙ times_in-sides boxes uncut e cells

  filled-sides : (boxes : List Cuboid) → All Uncut boxes → (c : Cell)
      → times_filled c (lower_boxes a p boxes) + times_filled c (upper_boxes a p boxes) ≡ times_filled c boxes
  unfolding times_filled
  filled-sides boxes uncut c =
      let both = lower_boxes a p boxes ++ upper_boxes a p boxes in
      let same = count-same (is_cell_of c) (has_cells-from c) both boxes (HaveSameBoxes-split boxes uncut) in
      omega (arith, same, count-append (is_cell_of c) (lower_boxes a p boxes) (upper_boxes a p boxes))

  -- a cell that lies in no box on a side of the plane is in none of those there, and not in the part there
  module _ (c : Cell) (side : Cuboid → Bool) (outside : (b : Cuboid) → side b ≡ true → ¬ LiesIn c b a) where
    none_of : (boxes : List Cuboid) → All (λ b. side b ≡ true) boxes → times_filled c boxes ≡ 0
    unfolding times_filled
    none_of boxes there = elim (cases_lt 0 (count_by (is_cell_of c) boxes)) [
      | inr ge ↦ omega arith
      | inl lt ↦
          let b = which_passes (is_cell_of c) boxes lt in
          absurd (outside b.0 (All-times_in (λ b. side b ≡ true) b.0 boxes there b.2) (lies_in c b.0 b.1 a))
    ]

    none_there : (boxes : List Cuboid) (part : Cuboid) → side part ≡ true → (times_filled c (filter side boxes) ≡ 0) × (times_filled c (part ∷ []) ≡ 0)
    none_there boxes part there =
        (none_of (filter side boxes) (filter_passes side boxes), none_of (part ∷ []) (All-from_recursion (λ b. side b ≡ true) (part ∷ []) (there, tt)))

  -- boxes that fill a box fill both sides of it
  module _ (whole : Cuboid) (boxes : List Cuboid) (place : IsPlaceOf a p whole) (uncut : All Uncut boxes) (tiles : Tiles boxes whole) where
    same_parts : (c : Cell)
        → (times_filled c (lower_boxes a p boxes) ≡ times_filled c (lower a p whole ∷ []))
        × (times_filled c (upper_boxes a p boxes) ≡ times_filled c (upper a p whole ∷ []))
    same_parts c =
        let both = filled-sides boxes uncut c in
        let parts = filled-parts c a p whole place in
        let all = tiles.same c in
        elim (cases_lt (coordinate a c) p) [
          | inl before ↦
              let there : is_above (upper a p whole) ≡ true = le-leb _ _ (omega (arith, start-upper a p whole)) in
              let none = none_there c is_above (λ b above l. omega (arith, leb-true p (start a b) above)) boxes (upper a p whole) there in
              (omega arith, omega arith)
          | inr beyond ↦
              let there : is_below (lower a p whole) ≡ true = le-leb _ _ (omega (arith, end-lower a p whole place.from)) in
              let none = none_there c is_below (λ b below l. omega (arith, leb-true (end a b) p below)) boxes (lower a p whole) there in
              (omega arith, omega arith)
        ]

    pub lower_side : IsSide whole boxes (lower a p whole) (lower_boxes a p boxes)
    lower_side = record {
      inside = lower-part a p whole place;
      tiles = record { same = λ c. (same_parts c).0 };
      from_cuts = λ from. (open_planes_split_cuts boxes whole from place uncut).0;
    }

    pub upper_side : IsSide whole boxes (upper a p whole) (upper_boxes a p boxes)
    upper_side = record {
      inside = upper-part a p whole place;
      tiles = record { same = λ c. (same_parts c).1 };
      from_cuts = λ from. (open_planes_split_cuts boxes whole from place uncut).1;
    }
