-- A list in order whose two ends are put in another order, and back.
use Rattle.rectangle_pack_sections.proofs.Std.{ℕ, ◌≡◌, ◌≤◌, true, List, [], ◌∷◌, ◌++◌, get_or, arith, inl, inr, Option, Some, None, All, AllPairs}
use Rattle.rectangle_pack_sections.proofs.Std.{IsPermutation, IsNonDecreasingBy, cases_lt, All-nil, All-cons, All-append, All-permutation, AllPairs-cons}
use Rattle.rectangle_pack_sections.proofs.Std.{IsPermutation-sym, IsPermutation-append, IsPermutation-append_right}
use Rattle.rectangle_pack_sections.specs.declared.axis.Axis.{Axis}
use Rattle.rectangle_pack_sections.specs.Boxes.{Cuboid, start, has_cells}
use Rattle.rectangle_pack_plans.specs.CutPlans.{IsUncut, IsOpenPlane}
use Rattle.rectangle_pack_plans.specs.private.CutPlans.{AreOrdered}
use Rattle.rectangle_pack_sections.proofs.lemmas.util.Lists.{AllPairs-head, AllPairs-tail, AllPairs-append, All-front, All-back}

-- the pairs of two lists, one after the other: those of either, and those across
AllPairs-split : {X : Type 0} (R : X → X → Type 0) (xs ys : List X) → AllPairs R (xs ++ ys) → AllPairs R xs × AllPairs R ys × All (λ x. All (R x) ys) xs
AllPairs-split R [] ys h = (λ i j d lt below. absurd (omega arith), h, All-nil (λ x. All (R x) ys))
AllPairs-split R (x ∷ xs) ys h =
    let r = AllPairs-split R xs ys (AllPairs-tail R x (xs ++ ys) h) in
    let here : All (R x) (xs ++ ys) = AllPairs-head R x (xs ++ ys) h in
    (AllPairs-cons R x xs (All-front (R x) xs ys here) r.0, r.1, All-cons (λ x. All (R x) ys) x xs (All-back (R x) xs ys here) r.2)

-- a list does not fall where no pair does
pairs_rise : {X : Type 0} (n : X → ℕ) (xs : List X) → IsNonDecreasingBy n xs → AllPairs (λ x y. n x ≤ n y) xs
pairs_rise n xs h i j d lt within = h i j d (omega arith) within

list_rises : {X : Type 0} (n : X → ℕ) (xs : List X) → AllPairs (λ x y. n x ≤ n y) xs → IsNonDecreasingBy n xs
list_rises n xs h i j d before within = elim (cases_lt i j) [ inl lt ↦ h i j d lt within | inr ge ↦ let same : i ≡ j = omega arith in rw same (omega arith) ]

module _ (front between back : List Cuboid) (first last : List Cuboid) (front_moved : IsPermutation front first) (back_moved : IsPermutation back last) where
  rest_moved : IsPermutation (between ++ back) (between ++ last)
  rest_moved = IsPermutation-append_right between back last back_moved

  pub ends_moved : IsPermutation (front ++ (between ++ back)) (first ++ (between ++ last))
  ends_moved = IsPermutation-append front first (between ++ back) (between ++ last) front_moved rest_moved

  -- both are in order again, and so is the whole
  pub ends_ordered : (ordered : Option Axis) → AreOrdered ordered (front ++ (between ++ back)) → AreOrdered ordered first → AreOrdered ordered last
      → AreOrdered ordered (first ++ (between ++ last))
  ends_ordered None all one other = tt
  ends_ordered (Some a) all one other =
      let R : Cuboid → Cuboid → Type 0 = λ x y. start a x ≤ start a y in
      let outer = AllPairs-split R front (between ++ back) (pairs_rise (start a) (front ++ (between ++ back)) all) in
      let inner = AllPairs-split R between back outer.1 in
      let below_last : All (λ x. All (R x) last) between = λ i d lt. All-permutation (R (get_or between i d)) back last back_moved (inner.2 i d lt) in
      let below_rest = All-permutation (λ x. All (R x) (between ++ last)) front first front_moved
      (λ i d lt. All-permutation (R (get_or front i d)) (between ++ back) (between ++ last) rest_moved (outer.2 i d lt)) in
      list_rises (start a) (first ++ (between ++ last)) (AllPairs-append R first (between ++ last) (pairs_rise (start a) first one)
      (AllPairs-append R between last inner.0 (pairs_rise (start a) last other) (λ j e j_within i d i_within. below_last i d i_within j e j_within))
      (λ j e j_within i d i_within. below_rest i d i_within j e j_within))

-- a plane that is open is open for the two ends alone, in any order
pub ends_open : (front between back first last : List Cuboid) → IsPermutation front first → IsPermutation back last → (a : Axis) (place : ℕ) (whole : Cuboid)
    → IsOpenPlane a place whole (first ++ (between ++ last)) → IsOpenPlane a place whole (front ++ back)
ends_open front between back first last front_moved back_moved a place whole h =
    let P : Cuboid → Type 0 = λ e. has_cells e ≡ true → IsUncut a place e in
    record {
      after_start = h.after_start;
      before_end = h.before_end;
      uncut = All-append P front back (All-permutation P first front (IsPermutation-sym front first front_moved) (All-front P first (between ++ last) h.uncut))
          (All-permutation P last back (IsPermutation-sym back last back_moved) (All-back P between last (All-back P first (between ++ last) h.uncut)));
    }
