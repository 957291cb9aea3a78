-- A part whose last box is all that is above its first open plane.
use Rattle.rectangle_pack_sections.proofs.Std.{ℕ, ◌+◌, ◌<◌, ◌≤◌, ◌≡◌, ◌≢◌, Bool, true, false, None, List, [], ◌∷◌, ◌++◌, length, take, get_or, refl, ap, sym, ◌∙◌, subst, arith, inl, inr}
use Rattle.rectangle_pack_sections.proofs.Std.{All, All-append, All-cons, All-head, All-nil, All-weaker, All-contains, Contains, Contains-append_left, nat_le, le-leb, lt-leb}
use Rattle.rectangle_pack_sections.proofs.Std.{take_at, drop_at, take_all, take_more, get_or-take, length-append, length-take}
use Rattle.rectangle_pack_sections.specs.declared.axis.Axis.{Axis}
use Rattle.rectangle_pack_plans.specs.declared.cut_plan.split.Split.{Split}
use Rattle.rectangle_pack_sections.specs.Boxes.{Cuboid, start, end, has_cells}
use Rattle.rectangle_pack_sections.specs.Counting.{times_filled, Tiles}
use Rattle.rectangle_pack_sections.specs.CutTrees.{lower, upper, IsPlaceOf}
use Rattle.rectangle_pack_plans.specs.CutPlans.{IsUncut, IsOpenPlane, axis_rank}
use Rattle.rectangle_pack_plans.specs.private.CutPlans.{IsFilled, IsClosedBelow, IsFirstOpen, IsSplit, IsStrip}
use Rattle.rectangle_pack_sections.proofs.lemmas.util.Lists.{All-front, All-back}
use Rattle.rectangle_pack_sections.proofs.lemmas.cuts.Axes.{cases_axis, runs_on, stays_in}
use Rattle.rectangle_pack_sections.proofs.lemmas.cuts.Counting.{filled-append}
use Rattle.rectangle_pack_sections.proofs.lemmas.cuts.Parts.{start-upper, end-upper, end-lower, upper_other, box_alike_on}
use Rattle.rectangle_pack_sections.proofs.lemmas.cuts.TreesFill.{filled-parts}
use Rattle.rectangle_pack_plans.proofs.lemmas.cut_plan.Filling.{boxes_inside}
use Rattle.rectangle_pack_plans.proofs.lemmas.cut_plan.FirstOpen.{IsClosedBelow-more, filter_front, filter_back}

module _ (a : Axis) (whole before last : Cuboid) (front : List Cuboid) (filled : IsFilled whole (front ++ last ∷ [])) (strip : IsStrip a whole last)
    (there : Contains front before) (from : start a before ≤ start a whole) (up : start a last ≤ end a before) where
  abbrev place : ℕ
  place = start a last

  abbrev boxes : List Cuboid
  boxes = front ++ last ∷ []

  last_cells : has_cells last ≡ true
  last_cells = All-head (λ e. has_cells e ≡ true) last [] (All-back (λ e. has_cells e ≡ true) front (last ∷ []) filled.cells)

  front_cells : All (λ e. has_cells e ≡ true) front
  front_cells = All-front (λ e. has_cells e ≡ true) front (last ∷ []) filled.cells

  place_of : IsPlaceOf a place whole
  place_of = record { from = omega (arith, strip.after); to = omega (arith, strip.ends, runs_on last last_cells a) }

  -- it is the upper part
  is_upper : last ≡ upper a place whole
  is_upper = box_alike_on a last (upper a place whole) (sym (start-upper a place whole), strip.ends ∙ sym (end-upper a place whole place_of.to))
      (λ e other. let same = upper_other place whole a e other in ((strip.others e other).0 ∙ sym same.0, (strip.others e other).1 ∙ sym same.1))

  -- so the others fill the lower part, and end at the plane or before it
  tiles_below : Tiles front (lower a place whole)
  tiles_below = record {
    same = λ c. omega (
      arith,
      filled.tiles.same c,
      filled-append c front (last ∷ []),
      filled-parts c a place whole place_of,
      ap (λ b. times_filled c (b ∷ [])) is_upper,
    );
  }

  ended : All (λ b. end a b ≤ place) front
  ended = λ i d within.
      let inside = stays_in _ (lower a place whole) (boxes_inside (lower a place whole) front tiles_below i d within (front_cells i d within)) a in
      omega (arith, inside, end-lower a place whole place_of.from)

  is_open : IsOpenPlane a place whole boxes
  is_open =
      let Uncut : Cuboid → Type 0 = λ b. has_cells b ≡ true → IsUncut a place b in
      record {
        after_start = strip.after;
        before_end = omega (arith, strip.ends, runs_on last last_cells a);
        uncut = All-append Uncut front (last ∷ []) (All-weaker (λ b. end a b ≤ place) Uncut (λ b h cells. inl h) front ended)
            (All-cons Uncut last [] (λ cells. inr (omega arith)) (All-nil Uncut));
      }

  -- the other box leaves none open below it
  closed_below : IsClosedBelow a place whole boxes
  closed_below q lt =
      let cells = All-contains (λ e. has_cells e ≡ true) front before front_cells there in
      let none : IsClosedBelow a 0 whole boxes = λ q lt. absurd (omega (arith, lt)) in
      IsClosedBelow-more a whole boxes 0 before (Contains-append_left front (last ∷ []) before there) cells (inl from) none q
      (omega (arith, lt, up))

  -- and the last box none on another axis
  closed_on : (e : Axis) (q : ℕ) → a ≢ e → ¬ IsOpenPlane e q whole boxes
  closed_on e q other o =
      let is = strip.others e other in
      let uncut : IsUncut e q last =
      All-head (λ x. has_cells x ≡ true → IsUncut e q x) last [] (All-back (λ x. has_cells x ≡ true → IsUncut e q x) front (last ∷ []) o.uncut) last_cells in
      elim uncut [ inl ends ↦ omega (arith, o.before_end, is.1, ends) | inr starts ↦ omega (arith, o.after_start, is.0, starts) ]

  on_axis : IsFirstOpen a whole boxes place (length front)
  on_axis =
      let starts : place ≤ start a last = omega arith in
      let runs = runs_on last last_cells a in
      let below : Cuboid → Bool = λ b. nat_le (end a b) place in
      let above : Cuboid → Bool = λ b. nat_le place (start a b) in
      let front_runs : All (λ b. start a b < place) front = λ i d within. omega (arith, ended i d within, runs_on (get_or front i d) (front_cells i d within) a) in
      record {
        is_open = is_open;
        least = closed_below;
        some_below = omega (arith, there.1);
        some_above = omega (arith, length-append front (last ∷ []));
        front = take_at front (last ∷ []) (length front) refl ∙ sym (filter_front below front (last ∷ []) (λ i d within. le-leb _ _ (ended i d within))
            (All-cons (λ b. below b ≡ false) last [] (lt-leb _ _ runs) (All-nil (λ b. below b ≡ false))));
        back = drop_at front (last ∷ []) (length front) refl ∙ sym (filter_back above front (last ∷ []) (λ i d within. lt-leb _ _ (front_runs i d within))
            (All-cons (λ b. above b ≡ true) last [] (le-leb _ _ starts) (All-nil (λ b. above b ≡ true))));
      }

  strip_splits : (s : Split) → s.axis ≡ a → s.place ≡ place → s.below ≡ length front → s.ordered ≡ None → IsSplit whole boxes s
  strip_splits s axis at below order = record {
    on_axis = rw (axis, at, below) on_axis;
    ordered = rw order tt;
    first = rw axis (λ e lt q. elim (cases_axis a e) [
      | inl same ↦ absurd (omega (arith, lt, ap axis_rank same))
      | inr other ↦ closed_on e q other
    ]);
  }

-- the last two boxes of a list
module _ (boxes : List Cuboid) (i : ℕ) (before last : Cuboid) (many : i + 2 ≡ length boxes) (first : before ≡ get_or boxes i before)
    (second : last ≡ get_or boxes (i + 1) last) where
  abbrev front_boxes : List Cuboid
  front_boxes = take (i + 1) boxes

  parted : front_boxes ++ last ∷ [] ≡ boxes
  parted = ap (λ b. front_boxes ++ b ∷ []) second ∙ sym (take_more boxes (i + 1) last (omega (arith, many))) ∙ take_all (i + 1 + 1) boxes (omega (arith, many))

  long : length front_boxes ≡ i + 1
  long = omega (arith, length-take (i + 1) boxes, many)

  stands : Contains front_boxes before
  stands = (i, omega (arith, long), get_or-take (i + 1) boxes i before (omega arith) ∙ sym first)

  -- they are a strip, and the box before it
  pub IsSplit-strip : (a : Axis) (whole : Cuboid) (s : Split) → IsFilled whole boxes → IsStrip a whole last → start a before ≤ start a whole
      → start a last ≤ end a before → s.axis ≡ a → s.place ≡ start a last
      → s.below ≡ i + 1 → s.ordered ≡ None → IsSplit whole boxes s
  IsSplit-strip a whole s filled strip from up axis at below order =
      subst (λ l. IsSplit whole l s) parted (strip_splits a whole before last front_boxes (subst (IsFilled whole) (sym parted) filled) strip stands from up s axis at
      (below ∙ sym long) order)
