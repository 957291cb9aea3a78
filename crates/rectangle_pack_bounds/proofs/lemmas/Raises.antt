-- For a dual feasible rate there is a height D at each place, which each length raises by its rate at least.
use Rattle.rectangle_pack_bounds.proofs.Std.{arith, ◌≡◌, ℕ, zero, suc, ◌+◌, ◌-◌, ◌*◌, ◌<◌, ◌≤◌, cond, refl, List, [], ◌∷◌}
use Rattle.rectangle_pack_bounds.proofs.Std.{sum, sum_by, inl, inr, leb, le-leb, lt-leb, cases_lt, sum_by-cons}
use Rattle.rectangle_pack_bounds.proofs.Std.{mul-le-mul_left}
use Rattle.rectangle_pack_bounds.specs.DualFeasible.{IsDualFeasible}

-- from each place on a length raises D by its rate, as far as `along`
pub record Raises (along : ℕ) (rate D : ℕ → ℕ) : Type 0 where
  pub by_rate : (place long : ℕ) → place + long ≤ along → D place + rate long ≤ D (place + long)

-- the place of the greatest of h 0 .. h n
place_of_greatest : (h : ℕ → ℕ) (n : ℕ) → (k : ℕ) × (k ≤ n) × ((j : ℕ) → j ≤ n → h j ≤ h k)
place_of_greatest h zero = (zero, omega arith, λ j le. let e : j ≡ zero = omega arith in rw e (omega arith))
place_of_greatest h (suc n) =
    let before = place_of_greatest h n in
    elim (cases_lt (h before.0) (h (suc n))) [
      | inl above ↦ (
        suc n,
        omega arith,
        λ j le. elim (cases_lt j (suc n)) [
          | inl lt ↦ omega (arith, before.2 j (omega arith))
          | inr ge ↦ let e : j ≡ suc n = omega arith in rw e (omega arith)
        ],
      )
      | inr below ↦ (
        before.0,
        omega (arith, before.1),
        λ j le. elim (cases_lt j (suc n)) [
          | inl lt ↦ before.2 j (omega arith)
          | inr ge ↦ let e : j ≡ suc n = omega arith in rw e below
        ],
      )
    ]

module _ (rate : ℕ → ℕ) where
  -- D n is the rate of some lengths that fit into n
  pub record IsReached (n value : ℕ) : Type 0 where
    pub lengths : List ℕ
    pub fit : sum lengths ≤ n
    pub rated : sum_by rate lengths ≡ value

  -- D, as far as t
  record Table (t : ℕ) (D : ℕ → ℕ) : Type 0 where
    reached : (n : ℕ) → n ≤ t → IsReached n (D n)
    by_rate : (place long : ℕ) → 0 < long → place + long ≤ t → D place + rate long ≤ D (place + long)

  -- at the next place: the greatest that a length from some place before it reaches
  table_up_to : (t : ℕ) → (D : ℕ → ℕ) × Table t D
  table_up_to zero = (
    λ n. 0,
    record {
      reached = λ n le. record { lengths = []; fit = omega arith; rated = refl };
      by_rate = λ place long pos le. absurd (omega arith);
    },
  )
  table_up_to (suc t) =
      let before = table_up_to t in
      let D : ℕ → ℕ = before.0 in
      let best = place_of_greatest (λ s. D s + rate (suc t - s)) t in
      let k : ℕ = best.0 in
      let top : ℕ = D k + rate (suc t - k) in
      let E : ℕ → ℕ = λ n. cond (leb n t) (D n) top in
      let old : (n : ℕ) → n ≤ t → E n ≡ D n = λ n le. rw (le-leb n t le) refl in
      let new : E (suc t) ≡ top = rw (lt-leb (suc t) t (omega arith)) refl in
      let r = before.1.reached k best.1 in (
        E,
        record {
          reached = λ n le. elim (cases_lt n (suc t)) [
            | inl lt ↦ rw (old n (omega arith)) (before.1.reached n (omega arith))
            | inr ge ↦ let e : n ≡ suc t = omega arith in rw (e, new) (record {
              lengths = (suc t - k) ∷ r.lengths;
              fit = omega (arith, sum_by-cons (λ x. x) (suc t - k) r.lengths, r.fit, best.1);
              rated = omega (arith, sum_by-cons rate (suc t - k) r.lengths, r.rated);
            })
          ];
          by_rate = λ place long pos le. elim (cases_lt (place + long) (suc t)) [
            | inl lt ↦
                rw (old place (omega arith), old (place + long) (omega arith))
                (before.1.by_rate place long pos (omega arith))
            | inr ge ↦
                let e : place + long ≡ suc t = omega arith in
                let f : long ≡ suc t - place = omega arith in
                rw (old place (omega arith), e, new, f) (best.2 place (omega arith))
          ];
        },
      )

-- as many zeros
zeros : ℕ → List ℕ
zeros zero = []
zeros (suc n) = 0 ∷ zeros n

sum_by-zeros : (f : ℕ → ℕ) (n : ℕ) → sum_by f (zeros n) ≡ n * f 0
unfolding zeros
sum_by-zeros f zero = omega arith
sum_by-zeros f (suc n) = omega (arith, sum_by-cons f 0 (zeros n), sum_by-zeros f n)

-- a dual feasible rate of 0 is 0, since any number of empty lengths fits
pub rate_of_nothing : (along : ℕ) (rate : ℕ → ℕ) (scale : ℕ) → IsDualFeasible along rate scale → rate 0 ≡ 0
rate_of_nothing along rate scale f =
    let many = f.bounded (zeros (suc scale)) (omega (arith, sum_by-zeros (λ x. x) (suc scale))) in
    elim (cases_lt 0 (rate 0)) [
      | inl pos ↦ absurd (omega (arith, many, sum_by-zeros rate (suc scale), mul-le-mul_left (suc scale) pos))
      | inr none ↦ omega arith
    ]

-- the heights, of which the one at `along` is at most the scale
pub heights : (along : ℕ) (rate : ℕ → ℕ) (scale : ℕ) → IsDualFeasible along rate scale
    → (D : ℕ → ℕ) × Raises along rate D × (D along ≤ scale)
heights along rate scale f =
    let t = table_up_to rate along in
    let none = rate_of_nothing along rate scale f in
    let r = t.1.reached along (omega arith) in (
      t.0,
      record {
        by_rate = λ place long within. elim (cases_lt 0 long) [
          | inl pos ↦ t.1.by_rate place long pos within
          | inr empty ↦
              let e : long ≡ 0 = omega arith in
              let p : place + 0 ≡ place = omega arith in
              rw (e, p, none) (omega arith)
        ];
      },
      omega (arith, f.bounded r.lengths r.fit, r.rated),
    )
