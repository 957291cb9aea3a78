-- Placements that are numbered.
use Rattle.rectangle_pack_sections.proofs.Std.{◌≡◌, ℕ, ◌+◌, ◌<◌, ◌≤◌, get_or, inl, inr, cases_lt, List, [], ◌∷◌, ◌++◌, refl, ap, sym, ◌∙◌, arith, length}
use Rattle.rectangle_pack_sections.proofs.Std.{append_assoc, All, AllPairs, IfSome, IfNone, Result, Ok, Err, ◌≢◌, IsSearchInRange, IsBinarySearchResult}
use Rattle.rectangle_pack_sections.proofs.Std.{IsNonDecreasingBy, nat_cmp, ordering_index, result_ok, ranked, nat_tests}
use Rattle.rectangle_pack_packing.specs.declared.answer.Placement.{Placement}
use Rattle.rectangle_pack.specs.declared.session.command.Outstanding.{Outstanding}
use Rattle.rectangle_pack.specs.Session.{numbered}

-- one more placement has the next number
pub numbered-push : {Id B : Type 0} (n : ℕ) (ps : List (Placement Id B)) (p : Placement Id B) (m : ℕ) → m ≡ n + length ps
    → numbered n (ps ++ p ∷ []) ≡ numbered n ps ++ record { number = m; id = p.id; bin = p.bin; location = p.location } ∷ []
numbered-push {Id} {B} n [] p m h = let same : m ≡ n = omega (arith, h) in rw same refl
numbered-push {Id} {B} n (q ∷ ps) p m h = ap (λ (l : List (Outstanding Id B)). record { number = n; id = q.id; bin = q.bin; location = q.location } ∷ l)
    (numbered-push (n + 1) ps p m (omega (arith, h)))

-- those of two lists, one after the other
pub numbered-append : {Id B : Type 0} (n : ℕ) (ps qs : List (Placement Id B)) → numbered n (ps ++ qs) ≡ numbered n ps ++ numbered (n + length ps) qs
numbered-append {Id} {B} n [] qs = let same : n ≡ n + length {0} {A = Placement Id B} [] = omega arith in ap (λ m. numbered m qs) same
numbered-append {Id} {B} n (p ∷ ps) qs =
    let count : n + 1 + length ps ≡ n + length (p ∷ ps) = omega arith in
    let r : Outstanding Id B = record { number = n; id = p.id; bin = p.bin; location = p.location } in
    ap (λ (l : List (Outstanding Id B)). r ∷ l) (numbered-append (n + 1) ps qs ∙ ap (λ m. numbered (n + 1) ps ++ numbered m qs) count)

-- one more placement
pub numbered-more : {Id B : Type 0} (before outstanding new : List (Outstanding Id B)) (n : ℕ) (ps : List (Placement Id B)) (p : Placement Id B) (m : ℕ)
    → m ≡ n + length ps
    → outstanding ≡ before ++ numbered n ps → new ≡ outstanding ++ record { number = m; id = p.id; bin = p.bin; location = p.location } ∷ []
    → new ≡ before ++ numbered n (ps ++ p ∷ [])
numbered-more {Id} {B} before outstanding new n ps p m h are more =
    let r : Outstanding Id B = record { number = m; id = p.id; bin = p.bin; location = p.location } in
    more ∙ ap (λ (rs : List (Outstanding Id B)). rs ++ r ∷ []) are ∙ append_assoc before (numbered n ps) (r ∷ [])
    ∙ ap (λ (rs : List (Outstanding Id B)). before ++ rs) (sym (numbered-push n ps p m h))

-- where numbers rise, so does how they compare with a number
comparisons_rise : {Id B : Type 0} (outstanding : List (Outstanding Id B)) (number : ℕ) → AllPairs (λ a b. a.number < b.number) outstanding
    → IsNonDecreasingBy (λ r. ordering_index (nat_cmp r.number number)) outstanding
comparisons_rise outstanding number rising i j d le within = grind
    (arith, nat_tests, rising i j d, λ (same : i ≡ j). ap (λ k. (get_or outstanding k d).number) same)

-- so a search ends at the number, or finds that it is not there
pub searched : {Id B : Type 0} (outstanding : List (Outstanding Id B)) (number : ℕ) (r : Result ℕ ℕ) → AllPairs (λ a b. a.number < b.number) outstanding
    → IsSearchInRange r (length outstanding) → IsBinarySearchResult (λ o. nat_cmp o.number number) outstanding r
    → IfSome (result_ok r) (λ i. (i < length outstanding) × ((d : Outstanding Id B) → (get_or outstanding i d).number ≡ number))
    × IfNone (result_ok r) (All (λ o. o.number ≢ number) outstanding)
searched {Id} {B} outstanding number (Ok at) rising within equal = ((within, λ d. ranked _ number _ (sym (equal d))), tt)
searched {Id} {B} outstanding number (Err at) rising within parted =
    let halves = parted (comparisons_rise outstanding number rising) in
    let less : (k : ℕ) (d : Outstanding Id B) → k < at → (get_or outstanding k d).number < number = λ k d lt. ranked _ number _
    (sym (halves.0 k d (omega arith) lt)) in
    let more : (k : ℕ) (d : Outstanding Id B) → at ≤ k → k < length outstanding
    → number < (get_or outstanding k d).number = λ k d le lt. ranked _ number _ (sym (halves.1 k d le lt)) in (
      tt,
      λ k d below same. elim (cases_lt k at) [
        | inl lt ↦ absurd (omega (arith, less k d lt, same))
        | inr le
            ↦ absurd (omega (arith, more k d le below, same))
      ],
    )
