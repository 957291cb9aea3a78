-- Rated pieces have one order.
use Rattle.rectangle_pack_sections.proofs.Std.{◌≡◌, ◌≢◌, ℕ, ◌<◌, ◌≤◌, ◌==◌, true, false, cond, List, [], ◌∷◌, refl, sym, ◌∙◌, ap, arith, inl, inr}
use Rattle.rectangle_pack_sections.proofs.Std.{AllPairs, filter, IsPermutation, cases_Bool, cases_eq, eq-eqb, ne_eqb, cases_lt, All-cons, All-nil}
use Rattle.rectangle_pack_sections.proofs.Std.{All-weaker, AllPairs-cons, IsPermutation-refl, IsPermutation-cons, IsPermutation-trans, IsPermutation-middle}
use Rattle.rectangle_pack_sections.specs.Boxes.{Cuboid}
use Rattle.rectangle_pack_lists.specs.Steps.{AreRanked}
use Rattle.rectangle_pack_sections.proofs.lemmas.util.Lists.{AllPairs-head, AllPairs-tail}
use Rattle.rectangle_pack_sections.proofs.lemmas.cuts.Counting.{filter_none}

abbrev Falls : List (ℕ × Cuboid) → Type 0
Falls ps = AllPairs (λ p q. q.0 ≤ p.0) ps

-- the pieces of one rate
abbrev of_rate : ℕ → List (ℕ × Cuboid) → List (ℕ × Cuboid)
of_rate rate ps = filter (λ p. p.0 == rate) ps

of_rate-cons : (rate : ℕ) (p : ℕ × Cuboid) (ps : List (ℕ × Cuboid)) → p.0 ≡ rate → of_rate rate (p ∷ ps) ≡ p ∷ of_rate rate ps
of_rate-cons rate p ps e = rw (eq-eqb p.0 rate e) refl

of_rate-other : (rate : ℕ) (p : ℕ × Cuboid) (ps : List (ℕ × Cuboid)) → p.0 ≢ rate → of_rate rate (p ∷ ps) ≡ of_rate rate ps
of_rate-other rate p ps n = rw (ne_eqb p.0 rate n) refl

-- two that differ in rate may stand in either order
of_rate-swap : (rate : ℕ) (p q : ℕ × Cuboid) (ps : List (ℕ × Cuboid)) → p.0 ≢ q.0 → of_rate rate (p ∷ q ∷ ps) ≡ of_rate rate (q ∷ p ∷ ps)
of_rate-swap rate p q ps n = elim (cases_eq p.0 rate) [
  | inl e ↦
      let other : q.0 ≢ rate = λ f. n (e ∙ sym f) in
      rw (eq-eqb p.0 rate e, ne_eqb q.0 rate other) refl
  | inr m ↦ rw (ne_eqb p.0 rate m) refl
]

of_rate-same : (rate : ℕ) (p : ℕ × Cuboid) (ps qs : List (ℕ × Cuboid)) → of_rate rate ps ≡ of_rate rate qs → of_rate rate (p ∷ ps) ≡ of_rate rate (p ∷ qs)
of_rate-same rate p ps qs h = ap (λ (xs : List (ℕ × Cuboid)). cond (p.0 == rate) (p ∷ xs) xs) h

below_first : (rate : ℕ) (p : ℕ × Cuboid) (ps : List (ℕ × Cuboid)) → Falls (p ∷ ps) → p.0 < rate → of_rate rate (p ∷ ps) ≡ []
below_first rate p ps h lt =
    let others =
    All-weaker (λ x. x.0 ≤ p.0) (λ x. (x.0 == rate) ≡ false) (λ x le. ne_eqb x.0 rate (λ e. omega arith)) ps (AllPairs-head (λ p q. q.0 ≤ p.0) p ps h) in
    filter_none (λ x. x.0 == rate) (p ∷ ps) (All-cons (λ x. (x.0 == rate) ≡ false) p ps (ne_eqb p.0 rate (λ e. omega arith)) others)

no_higher : (p q : ℕ × Cuboid) (ps qs : List (ℕ × Cuboid)) → Falls (q ∷ qs) → of_rate p.0 (p ∷ ps) ≡ of_rate p.0 (q ∷ qs) → p.0 ≤ q.0
no_higher p q ps qs g h = elim (cases_lt q.0 p.0) [
  | inl lt ↦ let none : p ∷ of_rate p.0 ps ≡ [] = sym (of_rate-cons p.0 p ps refl) ∙ h ∙ below_first p.0 q qs g lt in absurd cc
  | inr le ↦ le
]

-- lists in falling order, with the same pieces at each rate, are the same
falls_once : (ps qs : List (ℕ × Cuboid)) → Falls ps → Falls qs → ((rate : ℕ) → of_rate rate ps ≡ of_rate rate qs) → ps ≡ qs
falls_once [] [] f g h = refl
falls_once [] (q ∷ qs) f g h = let none : [] ≡ q ∷ of_rate q.0 qs = h q.0 ∙ of_rate-cons q.0 q qs refl in absurd cc
falls_once (p ∷ ps) [] f g h = let none : p ∷ of_rate p.0 ps ≡ [] = sym (of_rate-cons p.0 p ps refl) ∙ h p.0 in absurd cc
falls_once (p ∷ ps) (q ∷ qs) f g h =
    let level : q.0 ≡ p.0 = omega (arith, no_higher p q ps qs g (h p.0), no_higher q p qs ps f (sym (h q.0))) in
    let firsts : p ∷ of_rate p.0 ps ≡ q ∷ of_rate p.0 qs = sym (of_rate-cons p.0 p ps refl) ∙ h p.0 ∙ of_rate-cons p.0 q qs level in
    let same : p ≡ q = cc in
    let rest : ps ≡ qs = falls_once ps qs (AllPairs-tail (λ p q. q.0 ≤ p.0) p ps f) (AllPairs-tail (λ p q. q.0 ≤ p.0) q qs g)
    (λ rate. elim (cases_Bool (p.0 == rate)) [
      | inl t ↦ let u : (q.0 == rate) ≡ true = rw level t in let both : p ∷ of_rate rate ps ≡ q ∷ of_rate rate qs = rw (t, u) at (h rate) in cc
      | inr n ↦ let u : (q.0 == rate) ≡ false = rw level n in rw (n, u) at (h rate)
    ]) in
    cc

-- of one list there is one order
pub ranked_once : (listed ranked other : List (ℕ × Cuboid)) → AreRanked listed ranked → AreRanked listed other → ranked ≡ other
ranked_once listed ranked other p q = falls_once ranked other p.falling q.falling (λ rate. p.as_listed rate ∙ sym (q.as_listed rate))

-- a list in which a piece is the first of its rate is that piece and others, in some order
taken : (p : ℕ × Cuboid) (ps qs : List (ℕ × Cuboid)) → of_rate p.0 qs ≡ p ∷ ps
    → (others : List (ℕ × Cuboid)) × IsPermutation (p ∷ others) qs × ((rate : ℕ) → of_rate rate (p ∷ others) ≡ of_rate rate qs)
taken p ps [] h = absurd cc
taken p ps (q ∷ qs) h = elim (cases_eq q.0 p.0) [
  | inl e ↦
      let first : q ∷ of_rate p.0 qs ≡ p ∷ ps = sym (of_rate-cons p.0 q qs e) ∙ h in
      let same : p ≡ q = cc in
      (qs, rw same (IsPermutation-refl (q ∷ qs)), λ rate. rw same refl)
  | inr n ↦
      let (others, moved, alike) = taken p ps qs (sym (of_rate-other p.0 q qs n) ∙ h) in (
        q ∷ others,
        IsPermutation-trans (p ∷ q ∷ others) (q ∷ p ∷ others) (q ∷ qs) (IsPermutation-middle (p ∷ []) q others)
            (IsPermutation-cons q (p ∷ others) qs moved),
        λ rate. of_rate-swap rate p q others (λ e. n (sym e)) ∙ of_rate-same rate q (p ∷ others) qs (alike rate),
      )
]

of_rate-rest : (rate : ℕ) (p : ℕ × Cuboid) (ps qs : List (ℕ × Cuboid)) → of_rate rate (p ∷ ps) ≡ of_rate rate (p ∷ qs) → of_rate rate ps ≡ of_rate rate qs
of_rate-rest rate p ps qs h = elim (cases_Bool (p.0 == rate)) [
  | inl t ↦ let both : p ∷ of_rate rate ps ≡ p ∷ of_rate rate qs = rw t at h in cc
  | inr f ↦ rw f at h
]

-- lists with the same pieces at each rate have the same pieces
IsPermutation-of_rates : (ps qs : List (ℕ × Cuboid)) → ((rate : ℕ) → of_rate rate ps ≡ of_rate rate qs) → IsPermutation ps qs
IsPermutation-of_rates [] [] h = IsPermutation-refl []
IsPermutation-of_rates [] (q ∷ qs) h = let none : [] ≡ q ∷ of_rate q.0 qs = h q.0 ∙ of_rate-cons q.0 q qs refl in absurd cc
IsPermutation-of_rates (p ∷ ps) qs h =
    let (others, moved, alike) = taken p (of_rate p.0 ps) qs (sym (h p.0) ∙ of_rate-cons p.0 p ps refl) in
    let rest = IsPermutation-of_rates ps others (λ rate. of_rate-rest rate p ps others (h rate ∙ sym (alike rate))) in
    IsPermutation-trans (p ∷ ps) (p ∷ others) qs (IsPermutation-cons p ps others rest) moved

pub IsPermutation-ranked : (listed ranked : List (ℕ × Cuboid)) → AreRanked listed ranked → IsPermutation listed ranked
IsPermutation-ranked listed ranked h = IsPermutation-of_rates listed ranked (λ rate. sym (h.as_listed rate))

-- three whose rates fall are ranked, where those of each rate are as listed
pub AreRanked-three : (listed : List (ℕ × Cuboid)) (p q r : ℕ × Cuboid) → q.0 ≤ p.0 → r.0 ≤ q.0
    → ((rate : ℕ) → of_rate rate (p ∷ q ∷ r ∷ []) ≡ of_rate rate listed) → AreRanked listed (p ∷ q ∷ r ∷ [])
AreRanked-three listed p q r first second alike =
    let Below : ℕ × Cuboid → ℕ × Cuboid → Type 0 = λ p q. q.0 ≤ p.0 in
    record {
      falling = AllPairs-cons Below p (q ∷ r ∷ []) (All-cons (Below p) q (r ∷ []) first (All-cons (Below p) r [] (omega arith) (All-nil (Below p))))
          (AllPairs-cons Below q (r ∷ []) (All-cons (Below q) r [] second (All-nil (Below q)))
          (AllPairs-cons Below r [] (All-nil (Below r)) (λ i j d before within. absurd (omega arith))));
      as_listed = alike;
    }

-- and neighbours of two rates may be exchanged
pub first_swapped : (rate : ℕ) (p q r : ℕ × Cuboid) → q.0 < p.0 → of_rate rate (p ∷ q ∷ r ∷ []) ≡ of_rate rate (q ∷ p ∷ r ∷ [])
first_swapped rate p q r lt = of_rate-swap rate p q (r ∷ []) (λ e. omega arith)

pub last_swapped : (rate : ℕ) (p q r : ℕ × Cuboid) → r.0 < q.0 → of_rate rate (p ∷ q ∷ r ∷ []) ≡ of_rate rate (p ∷ r ∷ q ∷ [])
last_swapped rate p q r lt = of_rate-same rate p (q ∷ r ∷ []) (r ∷ q ∷ []) (of_rate-swap rate q r [] (λ e. omega arith))
