-- Rates that are dual feasible.
use Rattle.rectangle_pack_bounds.proofs.Std.{arith, ◌≡◌, ℕ, ◌+◌, ◌-◌, ◌*◌, ◌/◌, ◌%◌, ◌<◌, ◌≤◌, cond, nat_eq, List, [], ◌∷◌}
use Rattle.rectangle_pack_bounds.proofs.Std.{sum, sum_by, sum_by-cons, refl, ap, ◌∙◌, inl, inr, cases_lt, nat_tests, le-div}
use Rattle.rectangle_pack_bounds.proofs.Std.{div-add-mod', zero-div, same_from_place, div-add-mod, mod_below}
use Rattle.rectangle_pack_bounds.specs.DualFeasible.{IsDualFeasible, rounded, in_parts, in_pieces}

-- two lengths that fit one after another are rated no more than both in one
pub record IsSuperadditive (along : ℕ) (rate : ℕ → ℕ) : Type 0 where
  pub adds : (a b : ℕ) → a + b ≤ along → rate a + rate b ≤ rate (a + b)

rate_of_sum : (along : ℕ) (rate : ℕ → ℕ) → IsSuperadditive along rate → (xs : List ℕ) → sum xs ≤ along
    → sum_by rate xs ≤ rate (sum xs)
rate_of_sum along rate h [] fit = omega arith
rate_of_sum along rate h (x ∷ xs) fit =
    let e : sum (x ∷ xs) ≡ x + sum xs = sum_by-cons (λ x. x) x xs in
    let rest = rate_of_sum along rate h xs (omega (arith, e)) in
    rw e (omega (arith, sum_by-cons rate x xs, rest, h.adds x (sum xs) (omega (arith, e))))

pub feasible_from_superadditive : (along : ℕ) (rate : ℕ → ℕ) → IsSuperadditive along rate
    → IsDualFeasible along rate (rate along)
feasible_from_superadditive along rate h = record {
  bounded = λ xs fit.
      let e : sum xs + (along - sum xs) ≡ along = omega arith in
      let more = rw e at (h.adds (sum xs) (along - sum xs) (omega arith)) in
      omega (arith, more, rate_of_sum along rate h xs fit);
}

rounded_adds : (along least : ℕ) → 2 * least ≤ along → IsSuperadditive along (rounded along least)
rounded_adds along least half = record { adds = λ a b fit. grind (arith, nat_tests) }

pub rounded_feasible : (along least : ℕ) → 2 * least ≤ along → IsDualFeasible along (rounded along least) along
rounded_feasible along least half =
    let e : rounded along least along ≡ along = grind (arith, nat_tests) in
    rw e at (feasible_from_superadditive along (rounded along least) (rounded_adds along least half))

-- what `in_parts` says of a quotient and a rest
part : ℕ → ℕ → ℕ → ℕ → ℕ → ℕ
part along parts x q r = cond (nat_eq r 0) (parts * x) (along * q)

part-adds : (along parts a b qa ra qb rb qc rc : ℕ) → 0 < along → a + b ≤ along
    → along * qa + ra ≡ (parts + 1) * a → ra < along
    → along * qb + rb ≡ (parts + 1) * b → rb < along
    → along * qc + rc ≡ (parts + 1) * (a + b) → rc < along
    → part along parts a qa ra + part along parts b qb rb ≤ part along parts (a + b) qc rc
unfolding part
part-adds along parts a b qa ra qb rb qc rc pos fit ea la eb lb ec lc = elim (cases_lt (ra + rb) along) [
  | inl low ↦
      let p = same_from_place qc rc (qa + qb) (ra + rb) along lc low (omega arith) in
      let same : along * qc ≡ along * qa + along * qb = ap (λ n. along * n) p.0 ∙ omega arith in
      grind (arith, nat_tests)
  | inr high ↦
      let p = same_from_place qc rc (qa + qb + 1) (ra + rb - along) along lc (omega arith) (omega arith) in
      let same : along * qc ≡ along * qa + along * qb + along = ap (λ n. along * n) p.0 ∙ omega arith in
      grind (arith, nat_tests)
]

in_parts_adds : (along parts : ℕ) → 0 < along → IsSuperadditive along (in_parts along parts)
unfolding part
in_parts_adds along parts pos = record {
  adds = λ a b fit.
      part-adds along parts a b ((parts + 1) * a / along) ((parts + 1) * a % along)
      ((parts + 1) * b / along) ((parts + 1) * b % along)
      ((parts + 1) * (a + b) / along) ((parts + 1) * (a + b) % along) pos fit
      (div-add-mod ((parts + 1) * a) along) (mod_below ((parts + 1) * a) along pos)
      (div-add-mod ((parts + 1) * b) along) (mod_below ((parts + 1) * b) along pos)
      (div-add-mod ((parts + 1) * (a + b)) along) (mod_below ((parts + 1) * (a + b)) along pos);
}

pub in_parts_feasible : (along parts : ℕ) → 0 < along → IsDualFeasible along (in_parts along parts) (parts * along)
in_parts_feasible along parts pos =
    let p = same_from_place ((parts + 1) * along / along) ((parts + 1) * along % along) (parts + 1) 0 along
    (mod_below ((parts + 1) * along) along pos) pos (omega (arith, div-add-mod ((parts + 1) * along) along)) in
    let e : in_parts along parts along ≡ parts * along = rw p.1 refl in
    rw e at (feasible_from_superadditive along (in_parts along parts) (in_parts_adds along parts pos))

-- quotients by one number add up to at most the quotient of the sum
div-adds : (piece a b c : ℕ) → 0 < piece → a + b ≡ c → a / piece + b / piece ≤ c / piece
div-adds piece a b c pos e =
    le-div (a / piece + b / piece) c piece pos (omega (arith, div-add-mod' a piece, div-add-mod' b piece))

in_pieces_adds : (along piece : ℕ) → 0 < piece → IsSuperadditive along (in_pieces along piece)
in_pieces_adds along piece pos = record {
  adds = λ a b fit.
      let rest : ℕ = along - (a + b) in
      let ab = div-adds piece a b (a + b) pos refl in
      let all = div-adds piece (a + b) rest along pos (omega arith) in
      let by_a = div-adds piece b rest (along - a) pos (omega arith) in
      let by_b = div-adds piece a rest (along - b) pos (omega arith) in
      let over_a = div-adds piece a (along - a) along pos (omega arith) in
      let over_b = div-adds piece b (along - b) along pos (omega arith) in
      let nothing : 0 / piece ≡ 0 = zero-div piece in
      let twice = div-adds piece (a + b) (a + b) (2 * (a + b)) pos (omega arith) in
      grind (arith, nat_tests);
}

pub in_pieces_feasible : (along piece : ℕ) → 0 < piece → IsDualFeasible along (in_pieces along piece) (2 * (along / piece))
in_pieces_feasible along piece pos =
    let over : (along - along) / piece ≡ 0 = let e : along - along ≡ 0 = omega arith in rw e (zero-div piece) in
    let nothing : 0 / piece ≡ 0 = zero-div piece in
    let e : in_pieces along piece along ≡ 2 * (along / piece) = grind (arith, nat_tests) in
    rw e at (feasible_from_superadditive along (in_pieces along piece) (in_pieces_adds along piece pos))
