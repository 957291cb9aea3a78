-- Numbers of which none stands twice, and how a sorted copy tells.
use Rattle.rectangle_pack_sections.proofs.Std.{◌≡◌, ℕ, zero, suc, ◌+◌, ◌<◌, ◌≤◌, List, [], ◌∷◌, length, take, get_or, refl, ap, sym, ◌∙◌, subst, arith}
use Rattle.rectangle_pack_sections.proofs.Std.{Bool, true, false, eqb, eq-eqb, eqb-true, ne_eqb, list_any, AllPairs}
use Rattle.rectangle_pack_sections.proofs.Std.{list_any_none, length-take, get_or_default, get_or-take, AllByRecursion, IsDistinct}
use Rattle.rectangle_pack_sections.proofs.Std.{IsDistinct-head, IsDistinct-tail, IsDistinct-cons}
use Rattle.rectangle_pack_sections.proofs.Std.{IsPermutation, IsPermutation-sym, IsDistinct-IsPermutation, IsSorted, nat_cmp, IsTrue, ◌↔◌, OnTrue, recursion_from_All}
use Rattle.std.proofs.Common.{ltb, ltb-true, ltb-false}
use Rattle.std.specs.List.{IsAllAdjacentAnswer}
use Rattle.std.specs.List.Sorted.{IsStrictlyIncreasing}
use Rattle.std.proofs.lemmas.List.Kept.{AllPairs-from_increasing}
use Rattle.std.proofs.lemmas.List.Sorted.{IsNonDecreasingBy-from_sort, searched}
use Rattle.rectangle_pack_sections.proofs.Std.{Result, Ok, Err, inl, inr, cases_lt, list_any_at, IsBinarySearchResult}
use Rattle.std.specs.Prelude.{MatchResult, is_ok}
use Rattle.std.proofs.lemmas.Map.Made.{IsDistinct-from_count}
use Rattle.std.proofs.lemmas.Map.Keys.{apart_from_distinct, IsStrictlyIncreasing-from_distinct}
use Rattle.rectangle_pack_sections.proofs.lemmas.util.Lists.{AllPairs-head}

-- a lesser number is another one, and a greater one too
pub apart_from_less : (a b : ℕ) → a < b → eqb a b ≡ false
apart_from_less a b lt = ne_eqb a b (λ e. absurd (omega (arith, lt, e)))

pub apart_from_more : (a b : ℕ) → b < a → eqb a b ≡ false
apart_from_more a b lt = ne_eqb a b (λ e. absurd (omega (arith, lt, e)))

-- what is another number is so from either side
pub apart-back : (a b : ℕ) → eqb a b ≡ false → eqb b a ≡ false
apart-back a b h = ne_eqb b a (λ e. let same : eqb a b ≡ true = eq-eqb a b (sym e) in absurd cc)

eqb-flips : (a b : ℕ) → eqb a b ≡ eqb b a
eqb-flips a b = at (eqb a b) refl
  where
    at : (r : Bool) → eqb a b ≡ r → eqb a b ≡ eqb b a
    at true e = e ∙ sym (eq-eqb b a (sym (eqb-true a b e)))
    at false e = e ∙ sym (apart-back a b e)

IsDistinct-nil : IsDistinct eqb []
IsDistinct-nil = IsDistinct-from_count {eq = eqb} (record {
  refl = λ x. eq-eqb x x refl;
  symm = eqb-flips;
  congr = λ x y z e. ap (λ k. eqb k z) (eqb-true x y e);
}) [] refl

-- no number stands twice among the first ones
pub IsDistinct-take : (numbers : List ℕ) (i : ℕ) → IsDistinct eqb numbers → IsDistinct eqb (take i numbers)
IsDistinct-take numbers zero h = IsDistinct-nil
IsDistinct-take [] (suc i) h = h
IsDistinct-take (n ∷ ns) (suc i) h = IsDistinct-cons eqb n (take i ns) (at ns i (IsDistinct-head eqb n ns h)) (IsDistinct-take ns i (IsDistinct-tail eqb n ns h))
  where
    at : (ms : List ℕ) (k : ℕ) → AllByRecursion (λ y. eqb n y ≡ false) ms → AllByRecursion (λ y. eqb n y ≡ false) (take k ms)
    at ms zero all = tt
    at [] (suc k) all = all
    at (m ∷ ms) (suc k) all = (all.0, at ms k all.1)

-- and a number behind them is none of them
pub none_before : (numbers : List ℕ) (i n : ℕ) → IsDistinct eqb numbers → i < length numbers → n ≡ get_or numbers i n
    → list_any (eqb n) (take i numbers) ≡ false
none_before numbers i n distinct within is = list_any_none (eqb n) (take i numbers) (λ k d below.
    let short : length (take i numbers) ≤ i = omega (arith, length-take i numbers) in
    let earlier : k < i = omega (arith, short, below) in
    ap (eqb n) (get_or-take i numbers k d earlier) ∙ apart-back _ n
    (subst (λ m. eqb (get_or numbers k d) m ≡ false) (get_or_default numbers i d n within ∙ sym is)
    (apart_from_distinct eqb numbers k i d distinct earlier within)))

-- of numbers that rise none stands twice
IsDistinct-rising : (xs : List ℕ) → AllPairs (λ a b. a < b) xs → IsDistinct eqb xs
IsDistinct-rising [] rise = IsDistinct-nil
IsDistinct-rising (x ∷ xs) rise = IsDistinct-cons eqb x xs
    (recursion_from_All (λ y. eqb x y ≡ false) xs (λ k d within. apart_from_less x (get_or xs k d) (AllPairs-head (λ a b. a < b) x xs rise k d within)))
    (IsDistinct-rising xs (λ i j d lt within. rise (suc i) (suc j) d (omega (arith, lt)) (omega (arith, within))))

-- what a sort of numbers and a test of neighbours say of a list
pub sorted-apart : (old new : List ℕ) (answer : Bool) → IsPermutation old new → IsSorted nat_cmp new
    → IsAllAdjacentAnswer (λ a b r. r ≡ ltb a b) new answer → (IsTrue answer ↔ IsDistinct eqb old) × OnTrue answer (AllPairs (λ a b. a < b) new)
sorted-apart old new true same sorted rises =
    let each : IsStrictlyIncreasing new = λ k within. ltb-true _ _ (sym (rises k 0 within)) in
    let rise = AllPairs-from_increasing new each in (
      (λ yes. IsDistinct-IsPermutation eqb eqb-flips new old (IsPermutation-sym old new same) (IsDistinct-rising new rise), λ distinct. refl),
      rise,
    )
sorted-apart old new false same sorted (k, within, fails) =
    let falls = ltb-false (get_or new k 0) (get_or new (k + 1) 0) (sym (fails 0)) in
    let not_so : IsDistinct eqb old → ⊥ = λ distinct.
    let each = IsStrictlyIncreasing-from_distinct new (IsNonDecreasingBy-from_sort (λ x. x) new sorted) (IsDistinct-IsPermutation eqb eqb-flips old new same distinct) in
    omega (arith, falls, each k within) in
    ((λ yes. absurd cc, λ distinct. absurd (not_so distinct)), tt)

-- a search among numbers that rise says whether a number is one of them
pub listed-searched : (xs : List ℕ) (n : ℕ) (r : Result ℕ ℕ) → AllPairs (λ a b. a < b) xs → IsBinarySearchResult (λ y. nat_cmp y n) xs r
    → is_ok r ≡ list_any (eqb n) xs
listed-searched xs n r rise found = at r (searched xs n r found (λ i j le within. not_above i j le within))
  where
    not_above : (i j : ℕ) → i ≤ j → j < length xs → get_or xs i 0 ≤ get_or xs j 0
    not_above i j le within = grind (arith, rise i j 0, λ (same : i ≡ j). ap (λ k. get_or xs k 0) same)

    at : (s : Result ℕ ℕ) → MatchResult s (λ i. (i < length xs) × (get_or xs i 0 ≡ n))
        (λ i. (i ≤ length xs) × ((k : ℕ) → k < i → get_or xs k 0 < n) × ((k : ℕ) → i ≤ k → k < length xs → n < get_or xs k 0))
        → is_ok s ≡ list_any (eqb n) xs
    at (Ok i) (within, is) = sym (list_any_at (eqb n) xs i 0 within (eq-eqb n (get_or xs i 0) (sym is)))
    at (Err i) (place, less, more) = sym (list_any_none (eqb n) xs (λ k d within.
        let here : get_or xs k d ≡ get_or xs k 0 = get_or_default xs k d 0 within in
        elim (cases_lt k i) [
          | inl lt ↦ apart_from_more n (get_or xs k d) (omega (arith, here, less k lt))
          | inr le ↦ apart_from_less n (get_or xs k d) (omega (arith, here, more k le within))
        ]))
