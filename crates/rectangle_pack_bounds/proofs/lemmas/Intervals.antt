-- Weighted intervals: each counts the rises of the heights D over its places, and each place counts its rise for the
-- weights there.
use Rattle.rectangle_pack_bounds.proofs.Std.{arith, ◌≡◌, ℕ, zero, suc, ◌+◌, ◌-◌, ◌*◌, ◌<◌, ◌≤◌, true, cond, ap, ◌∙◌, List}
use Rattle.rectangle_pack_bounds.proofs.Std.{sum_by, inl, inr, All, All-weaker, cases_lt, cases_Bool, mul-le-mul_left}
use Rattle.rectangle_pack_bounds.proofs.Std.{nat_tests}
use Rattle.rectangle_pack_sections.specs.Boxes.{is_within}
use Rattle.rectangle_pack_bounds.specs.DualFeasible.{IsDualFeasible, Interval, IsStack}
use Rattle.rectangle_pack_bounds.proofs.lemmas.Sums.{sum_by-lesser, sum_by-added, sum_by-nothing}
use Rattle.rectangle_pack_bounds.proofs.lemmas.Raises.{Raises, heights}

module _ (along : ℕ) (rate D : ℕ → ℕ) (raises : Raises along rate D) where
  -- D never falls
  rises : (t : ℕ) → t < along → D t ≤ D (suc t)
  rises t lt = let e : suc t ≡ t + 1 = omega arith in rw e (omega (arith, raises.by_rate t 1 (omega arith)))

  -- the rises of D at the places of the span below t
  gained : ℕ → ℕ → ℕ → ℕ
  gained first long zero = 0
  gained first long (suc t) = gained first long t + cond (is_within first long t) (D (suc t) - D t) 0

  -- up to a place within, these are the height there over that at its start
  gained-within : (first long t : ℕ) → first + long ≤ along → first ≤ t → t ≤ first + long
      → D t ≤ D first + gained first long t
  unfolding gained
  gained-within first long zero in_it from to = let e : first ≡ 0 = omega arith in rw e (omega arith)
  gained-within first long (suc t) in_it from to = elim (cases_lt t first) [
    | inl before ↦ let e : first ≡ suc t = omega arith in rw e (omega arith)
    | inr after ↦
        let here : is_within first long t ≡ true = grind (arith, nat_tests) in
        rw here (omega (arith, gained-within first long t in_it after (omega arith)))
  ]

  -- and they never fall
  gained-later : (first long t more : ℕ) → gained first long t ≤ gained first long (t + more)
  unfolding gained
  gained-later first long t zero = let e : t + 0 ≡ t = omega arith in rw e (omega arith)
  gained-later first long t (suc more) =
      let e : t + suc more ≡ suc (t + more) = omega arith in
      rw e (omega (arith, gained-later first long t more))

  -- so a span gains its rate
  gained-rate : (first long : ℕ) → first + long ≤ along → rate long ≤ gained first long along
  gained-rate first long in_it =
      let e : (first + long) + (along - (first + long)) ≡ along = omega arith in
      let later = rw e at (gained-later first long (first + long) (along - (first + long))) in
      let within = gained-within first long (first + long) in_it (omega arith) (omega arith) in
      omega (arith, later, raises.by_rate first long in_it, within)

  module _ {X : Type 0} (first long weight : X → ℕ) (most : ℕ) (xs : List X)
      (low : (t : ℕ) → t < along → sum_by (λ x. cond (is_within (first x) (long x) t) (weight x) 0) xs ≤ most) where
    -- what all of them gain, times their weights
    total_gained : ℕ → ℕ
    total_gained t = sum_by (λ x. weight x * gained (first x) (long x) t) xs

    total_gained-le : (t : ℕ) → t ≤ along → total_gained t ≤ most * D t
    unfolding total_gained gained
    total_gained-le zero le = omega (arith, sum_by-nothing (λ x. weight x * 0) xs (λ x. omega arith))
    total_gained-le (suc t) le =
        let here : ℕ = sum_by (λ x. cond (is_within (first x) (long x) t) (weight x) 0) xs in
        let rise : ℕ = D (suc t) - D t in
        let bound : rise * here ≤ rise * most = mul-le-mul_left rise (low t le) in
        let up : D t ≤ D (suc t) = rises t le in
        let top : D (suc t) ≡ D t + rise = omega arith in
        let more = sum_by-added (λ x. weight x * gained (first x) (long x) (suc t))
        (λ x. weight x * gained (first x) (long x) t) (λ x. cond (is_within (first x) (long x) t) (weight x) 0) rise xs
        (λ x. elim (cases_Bool (is_within (first x) (long x) t)) [
          | inl on ↦ rw on (omega arith)
          | inr off ↦ rw off (omega arith)
        ]) in
        let same : most * D (suc t) ≡ most * D t + rise * most = ap (λ n. most * n) top ∙ omega arith in
        omega (arith, more, bound, total_gained-le t (omega arith), same)

    -- so their rates are, times their weights
    pub weights_bounded : All (λ x. first x + long x ≤ along) xs → sum_by (λ x. weight x * rate (long x)) xs ≤ most * D along
    unfolding total_gained
    weights_bounded inside =
        let rated = All-weaker (λ x. first x + long x ≤ along)
        (λ x. weight x * rate (long x) ≤ weight x * gained (first x) (long x) along)
        (λ x in_it. mul-le-mul_left (weight x) (gained-rate (first x) (long x) in_it)) xs inside in
        let each = sum_by-lesser (λ x. weight x * rate (long x)) (λ x. weight x * gained (first x) (long x) along) xs
        rated in
        omega (arith, each, total_gained-le along (omega arith))

-- the same of things with a first place, a length and a weight, for a dual feasible rate
pub spans_bounded : {X : Type 0} (first long weight : X → ℕ) (along scale most : ℕ) (rate : ℕ → ℕ) (xs : List X)
    → IsDualFeasible along rate scale
    → All (λ x. first x + long x ≤ along) xs
    → ((t : ℕ) → t < along → sum_by (λ x. cond (is_within (first x) (long x) t) (weight x) 0) xs ≤ most)
    → sum_by (λ x. weight x * rate (long x)) xs ≤ most * scale
spans_bounded first long weight along scale most rate xs f inside low =
    let d = heights along rate scale f in
    omega (arith, weights_bounded along rate d.0 d.1 first long weight most xs low inside, mul-le-mul_left most d.2)

-- and intervals
pub stack_bounded : (along scale most : ℕ) (rate : ℕ → ℕ) (intervals : List Interval) → IsDualFeasible along rate scale
    → IsStack along most intervals
    → sum_by (λ i. i.weight * rate i.long) intervals ≤ most * scale
stack_bounded along scale most rate intervals f s =
    spans_bounded (λ i. i.first) (λ i. i.long) (λ i. i.weight) along scale most rate intervals f s.inside s.low
