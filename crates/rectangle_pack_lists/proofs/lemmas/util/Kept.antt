-- The elements of a list that pass a test, and where an element stands among them.
use Rattle.rectangle_pack_sections.proofs.Std.{arith, ℕ, zero, suc, ◌≡◌, ◌+◌, ◌-◌, ◌<◌, ◌≤◌, inl, inr, Bool, true, false, cond, List, [], ◌∷◌, ◌++◌, length}
use Rattle.rectangle_pack_sections.proofs.Std.{take, drop, get_or, set, remove, filter, refl, sym, ap, ◌∙◌, cases_Bool, filter-append, length-append}
use Rattle.rectangle_pack_sections.proofs.Std.{length-set, length-take, set-get_or, take-set-le, take-take, get_or-take, length-remove, remove-append_right}
use Rattle.rectangle_pack_sections.proofs.Std.{get_or-append_seam, set-append_seam}
use Rattle.std.proofs.lemmas.List.{set_split}
use Rattle.std.proofs.lemmas.Bool.{cond-true, cond-false}

remove_seam : {X : Type 0} (before : List X) (x : X) (after : List X) → remove (before ++ x ∷ after) (length before) ≡ before ++ after
remove_seam before x after =
    let none : length before - length before ≡ 0 = omega arith in
    remove-append_right before (x ∷ after) (length before) (length before) refl (omega arith) ∙ ap (λ k. before ++ remove (x ∷ after) k) none

taken-set : {X : Type 0} (xs : List X) (n i : ℕ) (y : X) → take n (set xs i y) ≡ set (take n xs) i y
taken-set xs zero i y = refl
taken-set [] (suc n) i y = refl
taken-set (x ∷ xs) (suc n) zero y = refl
taken-set (x ∷ xs) (suc n) (suc i) y = ap (λ l. x ∷ l) (taken-set xs n i y)

module _ {X : Type 0} (p : X → Bool) where
  -- how many of the elements before an index pass
  abbrev pub rank : List X → ℕ → ℕ
  rank xs i = length (filter p (take i xs))

  kept-set : (xs : List X) (i : ℕ) (y : X) → i < length xs
      → filter p (set xs i y) ≡ filter p (take i xs) ++ cond (p y) (y ∷ filter p (drop (suc i) xs)) (filter p (drop (suc i) xs))
  kept-set xs i y at = ap (filter p) (set_split xs i y at) ∙ filter-append p (take i xs) (y ∷ drop (suc i) xs)

  kept-yes : (xs : List X) (i : ℕ) (y : X) → i < length xs → p y ≡ true
      → filter p (set xs i y) ≡ filter p (take i xs) ++ y ∷ filter p (drop (suc i) xs)
  kept-yes xs i y at passes = kept-set xs i y at ∙ ap (λ l. filter p (take i xs) ++ l) (cond-true (p y) _ _ passes)

  kept-no : (xs : List X) (i : ℕ) (y : X) → i < length xs → p y ≡ false → filter p (set xs i y) ≡ filter p (take i xs) ++ filter p (drop (suc i) xs)
  kept-no xs i y at fails = kept-set xs i y at ∙ ap (λ l. filter p (take i xs) ++ l) (cond-false (p y) _ _ fails)

  kept-at : (xs : List X) (i : ℕ) (d : X) → i < length xs → p (get_or xs i d) ≡ true
      → filter p xs ≡ filter p (take i xs) ++ get_or xs i d ∷ filter p (drop (suc i) xs)
  kept-at xs i d at passes = ap (filter p) (sym (set-get_or xs i d)) ∙ kept-yes xs i (get_or xs i d) at passes

  -- an element that passes is at its rank among those that do
  pub rank-within : (xs : List X) (i : ℕ) (d : X) → i < length xs → p (get_or xs i d) ≡ true → rank xs i < length (filter p xs)
  rank-within xs i d at passes = omega (arith, ap length (kept-at xs i d at passes), length-append (filter p (take i xs)) (get_or xs i d ∷ filter p (drop (suc i) xs)))

  pub kept-rank : (xs : List X) (i : ℕ) (d : X) → i < length xs → p (get_or xs i d) ≡ true → get_or (filter p xs) (rank xs i) d ≡ get_or xs i d
  kept-rank xs i d at passes =
      ap (λ l. get_or l (rank xs i) d) (kept-at xs i d at passes) ∙ get_or-append_seam (filter p (take i xs)) (get_or xs i d) (filter p (drop (suc i) xs)) d

  -- a write of one that passes, over one that does
  pub kept-written : (xs : List X) (i : ℕ) (d y : X) → i < length xs → p (get_or xs i d) ≡ true → p y ≡ true
      → filter p (set xs i y) ≡ set (filter p xs) (rank xs i) y
  kept-written xs i d y at passes also =
      kept-yes xs i y at also ∙ sym (ap (λ l. set l (rank xs i) y) (kept-at xs i d at passes)
      ∙ set-append_seam (filter p (take i xs)) (get_or xs i d) (filter p (drop (suc i) xs)) y)

  -- a write of one that does not pass, over one that does
  pub kept-emptied : (xs : List X) (i : ℕ) (d y : X) → i < length xs → p (get_or xs i d) ≡ true → p y ≡ false
      → filter p (set xs i y) ≡ remove (filter p xs) (rank xs i)
  kept-emptied xs i d y at passes fails =
      kept-no xs i y at fails ∙ sym (ap (λ l. remove l (rank xs i)) (kept-at xs i d at passes)
      ∙ remove_seam (filter p (take i xs)) (get_or xs i d) (filter p (drop (suc i) xs)))

  -- ranks after such writes
  pub rank-before : (xs : List X) (i n : ℕ) (y : X) → n ≤ i → rank (set xs i y) n ≡ rank xs n
  rank-before xs i n y le = ap (λ l. length (filter p l)) (take-set-le n xs i y le)

  pub rank-written : (xs : List X) (i n : ℕ) (d y : X) → i < length xs → i < n → p (get_or xs i d) ≡ true → p y ≡ true → rank (set xs i y) n ≡ rank xs n
  rank-written xs i n d y at lt passes also =
      let within : i < length (take n xs) = omega (arith, length-take n xs) in
      let here : p (get_or (take n xs) i d) ≡ true = ap p (get_or-take n xs i d lt) ∙ passes in
      ap (λ l. length (filter p l)) (taken-set xs n i y) ∙ ap length (kept-written (take n xs) i d y within here also)
      ∙ length-set (filter p (take n xs)) (rank (take n xs) i) y

  pub rank-emptied : (xs : List X) (i n : ℕ) (d y : X) → i < length xs → i < n → p (get_or xs i d) ≡ true → p y ≡ false → rank (set xs i y) n + 1 ≡ rank xs n
  rank-emptied xs i n d y at lt passes fails =
      let within : i < length (take n xs) = omega (arith, length-take n xs) in
      let here : p (get_or (take n xs) i d) ≡ true = ap p (get_or-take n xs i d lt) ∙ passes in
      let shorter = length-remove (filter p (take n xs)) (rank (take n xs) i) (rank-within (take n xs) i d within here) in
      let same : rank (set xs i y) n ≡ length (remove (filter p (take n xs)) (rank (take n xs) i)) =
      ap (λ l. length (filter p l)) (taken-set xs n i y) ∙ ap length (kept-emptied (take n xs) i d y within here fails) in
      omega (arith, same, shorter)

  -- of two that pass, the later has the higher rank
  pub rank-rises : (xs : List X) (i n : ℕ) (d : X) → i < length xs → i < n → p (get_or xs i d) ≡ true → rank xs i < rank xs n
  rank-rises xs i n d at lt passes =
      let within : i < length (take n xs) = omega (arith, length-take n xs) in
      let here : p (get_or (take n xs) i d) ≡ true = ap p (get_or-take n xs i d lt) ∙ passes in
      let same : rank (take n xs) i ≡ rank xs i = ap (λ l. length (filter p l)) (take-take i n xs (omega arith)) in
      omega (arith, same, rank-within (take n xs) i d within here)

  -- each of those that pass stands somewhere
  pub ranked_at : (xs : List X) (d : X) (k : ℕ) → k < length (filter p xs) → (i : ℕ) × (i < length xs) × (p (get_or xs i d) ≡ true) × (rank xs i ≡ k)
  ranked_at [] d k below = absurd (omega arith)
  ranked_at (x ∷ xs) d zero below = elim (cases_Bool (p x)) [
    | inl passes ↦ (0, omega arith, passes, refl)
    | inr fails ↦
        let (i, at, here, is) = ranked_at xs d zero (rw fails at below) in
        (suc i, omega arith, here, ap length (cond-false (p x) (x ∷ filter p (take i xs)) (filter p (take i xs)) fails) ∙ is)
  ]
  ranked_at (x ∷ xs) d (suc k) below = elim (cases_Bool (p x)) [
    | inl passes ↦
        let less : suc k < suc (length (filter p xs)) = rw passes at below in
        let (i, at, here, is) = ranked_at xs d k (omega arith) in
        (suc i, omega arith, here, ap length (cond-true (p x) (x ∷ filter p (take i xs)) (filter p (take i xs)) passes) ∙ ap suc is)
    | inr fails ↦
        let (i, at, here, is) = ranked_at xs d (suc k) (rw fails at below) in
        (suc i, omega arith, here, ap length (cond-false (p x) (x ∷ filter p (take i xs)) (filter p (take i xs)) fails) ∙ is)
  ]
