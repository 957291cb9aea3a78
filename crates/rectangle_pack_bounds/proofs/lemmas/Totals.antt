-- The quotient of a capped total.
use Rattle.std.proofs.Common.{◌≡◌, ℕ, ◌+◌, ◌*◌, ◌/◌, ◌%◌, ◌<◌, ◌≤◌, min, ap, sym, ◌∙◌, arith, inl, inr}
use Rattle.std.specs.Int.{div_ceil}
use Rattle.std.proofs.Math.Nat.{mod_self, div_self, mul-zero, div-add-mod}
use Rattle.std.proofs.lemmas.Nat.{div_below}
use Rattle.std.proofs.lemmas.Bool.{cases_lt}

by_greatest : (total most : ℕ) → 0 < most → total ≤ most → div_ceil total most ≡ min 1 total
by_greatest total most pos le =
    elim (cases_lt total most) [
      | inl lt ↦
          let small : total / most ≡ 0 = omega (arith, div_below total most 1 pos (omega arith)) in
          let rest : total % most ≡ total = omega (arith, div-add-mod total most, ap (λ q. most * q) small ∙ mul-zero most) in
          ap (λ q. q + min 1 (total % most)) small ∙ ap (λ m. 0 + min 1 m) rest ∙ omega arith
      | inr whole ↦
          let same : total ≡ most = omega arith in
          let one : total / most ≡ 1 = ap (λ t. t / most) same ∙ div_self pos in
          let none : total % most ≡ 0 = ap (λ t. t % most) same ∙ mod_self most in
          ap (λ q. q + min 1 (total % most)) one ∙ ap (λ m. 1 + min 1 m) none ∙ omega arith
    ]

-- three equal arguments give equal values
pub three_equal : {Y Z : Type 0} (f : Y → Y → Y → Z) {a a' b b' d d' : Y} → a ≡ a' → b ≡ b' → d ≡ d' → f a b d ≡ f a' b' d'
three_equal f p q r = cc

-- a number that is no greater than `most`, divided by more than `most`: then it may as well be divided by `most`
pub div_ceil-capped : (total scale most : ℕ) → 0 < most → total ≤ most → div_ceil total (min scale most) ≡ div_ceil total scale
div_ceil-capped total scale most pos le =
    elim (cases_lt most scale) [
      | inl lt ↦
          let small : total / scale ≡ 0 = omega (arith, div_below total scale 1 (omega arith) (omega arith)) in
          let rest : total % scale ≡ total = omega (arith, div-add-mod total scale, ap (λ q. scale * q) small ∙ mul-zero scale) in
          let by_most : div_ceil total most ≡ min 1 total = by_greatest total most pos le in
          ap (div_ceil total) (omega arith) ∙ by_most ∙ sym (ap (λ q. q + min 1 (total % scale)) small ∙ ap (λ m. 0 + min 1 m) rest ∙ omega arith)
      | inr small ↦ ap (div_ceil total) (omega arith)
    ]
