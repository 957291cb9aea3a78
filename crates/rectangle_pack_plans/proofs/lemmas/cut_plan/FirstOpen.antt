-- How far boxes go on from one another along an axis, so that no plane is open between them.
use Rattle.rectangle_pack_sections.proofs.Std.{ℕ, ◌≡◌, ◌+◌, ◌<◌, ◌≤◌, max, Bool, true, false, List, ◌++◌, length, get_or, take, drop, refl, ap, sym, ◌∙◌, subst}
use Rattle.rectangle_pack_sections.proofs.Std.{arith, inl, inr, ◌⊎◌, All, Contains, filter, nat_le, IsNonDecreasingBy, cases_lt, le-leb, lt-leb, length-drop}
use Rattle.rectangle_pack_sections.proofs.Std.{get_or_default, get_or-drop, take-append-drop, take_all, append-nil, All-contains, All-more, All-weaker}
use Rattle.rectangle_pack_sections.proofs.Std.{All-append, All-take, All-drop, filter-append}
use Rattle.rectangle_pack_sections.specs.declared.axis.Axis.{Axis}
use Rattle.rectangle_pack_sections.specs.Boxes.{Cuboid, start, end, has_cells}
use Rattle.rectangle_pack_plans.specs.CutPlans.{IsUncut, lower_boxes, upper_boxes}
use Rattle.rectangle_pack_plans.specs.private.CutPlans.{IsFilled, IsClosedBelow, IsClosedOn, IsFirstOpen}
use Rattle.rectangle_pack_sections.proofs.lemmas.cuts.Axes.{runs_on, stays_in, cells-part}
use Rattle.rectangle_pack_sections.proofs.lemmas.cuts.Counting.{filter_all, filter_none}
use Rattle.rectangle_pack_plans.proofs.lemmas.cut_plan.Filling.{boxes_inside, box_at_start, box_at_end}
use Rattle.rectangle_pack_sections.proofs.lemmas.cuts.Times.{All-times_in}

-- a box from the start of the whole, or from before a place below which no plane is open, leaves none open before its end
pub IsClosedBelow-more : (a : Axis) (whole : Cuboid) (boxes : List Cuboid) (place : ℕ) (b : Cuboid) → Contains boxes b → has_cells b ≡ true
    → (start a b ≤ start a whole) ⊎ (start a b < place) → IsClosedBelow a place whole boxes → IsClosedBelow a (max place (end a b)) whole boxes
IsClosedBelow-more a whole boxes place b there cells early closed q lt is_open = elim (cases_lt q place) [
  | inl less ↦ closed q less is_open
  | inr more ↦
      let uncut : IsUncut a q b = All-contains (λ x. has_cells x ≡ true → IsUncut a q x) boxes b is_open.uncut there cells in
      elim uncut [
        | inl ended ↦ omega (arith, lt, more, ended)
        | inr begins ↦ elim early [ inl first ↦ omega (arith, is_open.after_start, begins, first) | inr before ↦ omega (arith, more, begins, before) ]
      ]
]

-- a filter that passes the one of two joined lists and nothing of the other
pub filter_front : {X : Type 0} (t : X → Bool) (xs ys : List X) → All (λ x. t x ≡ true) xs → All (λ y. t y ≡ false) ys → filter t (xs ++ ys) ≡ xs
filter_front t xs ys kept left = rw (filter-append t xs ys, filter_all t xs kept, filter_none t ys left) (append-nil xs)

pub filter_back : {X : Type 0} (t : X → Bool) (xs ys : List X) → All (λ x. t x ≡ false) xs → All (λ y. t y ≡ true) ys → filter t (xs ++ ys) ≡ ys
filter_back t xs ys left kept = rw (filter-append t xs ys, filter_none t xs left, filter_all t ys kept) refl

-- how far the first i boxes reach: they all end there or before, and no plane is open below it
pub record IsReached (a : Axis) (whole : Cuboid) (boxes : List Cuboid) (i reach : ℕ) : Type 0 where
  pub closed : IsClosedBelow a reach whole boxes
  pub ended : All (λ e. end a e ≤ reach) (take i boxes)
  pub begun : 0 < i → start a whole < reach

module _ (a : Axis) (whole : Cuboid) (boxes : List Cuboid) (filled : IsFilled whole boxes) (ordered : IsNonDecreasingBy (start a) boxes) where
  -- a box runs on along the axis, inside the whole
  record RunsInside (e : Cuboid) : Type 0 where
    pub cells : has_cells e ≡ true
    pub from : start a whole ≤ start a e
    pub on : start a e < end a e
    pub to : end a e ≤ end a whole

  runs_inside : All RunsInside boxes
  runs_inside = λ k d within.
      let e = get_or boxes k d in
      let cells = filled.cells k d within in
      let part = boxes_inside whole boxes filled.tiles k d within cells in
      let inside = stays_in e whole part a in
      record { cells = cells; from = inside.0; on = runs_on e cells a; to = inside.1 }

  at_box : (i : ℕ) (e : Cuboid) → i < length boxes → e ≡ get_or boxes i e → RunsInside e
  at_box i e within at = subst RunsInside (sym at) (runs_inside i e within)

  whole_has_cells : 0 < length boxes → has_cells whole ≡ true
  whole_has_cells some =
      let e = get_or boxes 0 whole in
      let cells = filled.cells 0 whole some in
      cells-part e whole (boxes_inside whole boxes filled.tiles 0 whole some cells) cells

  -- the first box starts where the whole does
  first_starts : (e : Cuboid) → 0 < length boxes → e ≡ get_or boxes 0 e → start a e ≤ start a whole
  first_starts e some at =
      let h = box_at_start whole boxes filled.tiles (whole_has_cells some) in
      let least : All (λ x. start a e ≤ start a x) boxes = λ k d within.
      omega (arith, ordered 0 k e (omega arith) within, ap (start a) at, ap (start a) (get_or_default boxes k d e within)) in
      omega (arith, All-times_in (λ x. start a e ≤ start a x) h.0 boxes least h.2, h.3 a)

  -- the next box, where it leaves no plane open before it
  pub IsReached-more : (i reach : ℕ) (e : Cuboid) → i < length boxes → e ≡ get_or boxes i e → (0 < i → start a e < reach)
      → IsReached a whole boxes i reach → IsReached a whole boxes (i + 1) (max reach (end a e))
  IsReached-more i reach e within at next h =
      let r = at_box i e within at in
      record {
        closed = IsClosedBelow-more a whole boxes reach e (i, within, sym at) r.cells
            (elim (cases_lt 0 i) [
              | inl some ↦ inr (next some)
              | inr none ↦ inl (first_starts e (omega arith) (at ∙ ap (λ k. get_or boxes k e) (omega arith)))
            ]) h.closed;
        ended = All-more (λ x. end a x ≤ max reach (end a e)) boxes i e within
            (All-weaker (λ x. end a x ≤ reach) (λ x. end a x ≤ max reach (end a e)) (λ x k. omega arith) (take i boxes) h.ended)
            (omega (arith, ap (end a) at));
        begun = λ some. omega (arith, r.from, r.on);
      }

  -- after all boxes no plane is left
  pub IsReached-all : (i reach : ℕ) → 0 < length boxes → length boxes ≤ i → IsReached a whole boxes i reach → IsClosedOn a whole boxes
  IsReached-all i reach some all h q is_open =
      let last = box_at_end whole boxes filled.tiles (whole_has_cells some) in
      let ended : All (λ e. end a e ≤ reach) boxes = subst (All (λ e. end a e ≤ reach)) (take_all i boxes all) h.ended in
      h.closed q (omega (arith, All-times_in (λ e. end a e ≤ reach) last.0 boxes ended last.2, last.3 a, is_open.before_end)) is_open

  -- a box that starts at the reach or beyond it leaves the plane there open
  pub IsReached-open : (i reach : ℕ) (e : Cuboid) → i < length boxes → e ≡ get_or boxes i e → 0 < i → reach ≤ start a e
      → IsReached a whole boxes i reach → IsFirstOpen a whole boxes reach i
  IsReached-open i reach e within at some beyond h =
      let IsUncutHere : Cuboid → Type 0 = λ x. has_cells x ≡ true → IsUncut a reach x in
      let xs = take i boxes in
      let ys = drop i boxes in
      let joined : xs ++ ys ≡ boxes = take-append-drop i boxes in
      let after : All (λ x. reach ≤ start a x) ys = λ k d inside.
      let place : i + k < length boxes = omega (arith, length-drop i boxes) in
      let here : start a e ≡ start a (get_or boxes i d) = ap (start a) (at ∙ get_or_default boxes i e d within) in
      omega (arith, here, ordered i (i + k) d (omega arith) place, ap (start a) (get_or-drop i boxes k d)) in
      let r = at_box i e within at in
      let front : All RunsInside xs = All-take RunsInside i boxes runs_inside in
      let back : All RunsInside ys = All-drop RunsInside i boxes runs_inside in
      record {
        is_open = record {
          after_start = h.begun some;
          before_end = omega (arith, r.on, r.to);
          uncut = subst (All IsUncutHere) joined (All-append IsUncutHere xs ys
              (All-weaker (λ x. end a x ≤ reach) IsUncutHere (λ x k cells. inl k) xs h.ended)
              (All-weaker (λ x. reach ≤ start a x) IsUncutHere (λ x k cells. inr k) ys after));
        };
        least = h.closed;
        some_below = some;
        some_above = within;
        front = sym (ap (lower_boxes a reach) (sym joined) ∙ filter_front (λ x. nat_le (end a x) reach) xs ys
            (λ k d inside. le-leb _ _ (h.ended k d inside))
            (λ k d inside. lt-leb _ _ (let b = back k d inside in omega (arith, after k d inside, b.on))));
        back = sym (ap (upper_boxes a reach) (sym joined) ∙ filter_back (λ x. nat_le reach (start a x)) xs ys
            (λ k d inside. lt-leb _ _ (let f = front k d inside in omega (arith, h.ended k d inside, f.on)))
            (λ k d inside. le-leb _ _ (after k d inside)));
      }
