-- The boxes that are left of a part, in lists that have others too.
use Rattle.rectangle_pack_sections.proofs.Std.{ℕ, suc, ◌+◌, ◌<◌, ◌≤◌, ◌≡◌, Bool, true, List, [], ◌∷◌, ◌++◌, length, take, drop, get_or, filter, refl, ap, sym, ◌∙◌}
use Rattle.rectangle_pack_sections.proofs.Std.{arith, take-append-drop, filter-append, drop-cons, get_or-append_seam, length-append, take_at, drop_at, ◌-◌}
use Rattle.rectangle_pack_sections.proofs.Std.{take_all, length-drop, length-take, length-filter, count_by-le-length}
use Rattle.std.proofs.lemmas.List.Elements.{filter_more}
use Rattle.rectangle_pack_sections.specs.Boxes.{Cuboid}
use Rattle.rectangle_pack_plans.specs.private.CutPlans.{is_left, left_in, IsLeftIn}

module _ {X : Type 0} (p : X → Bool) where
  -- what passes stands in two parts, as the list does
  pub filter-parts : (xs : List X) (i : ℕ) → filter p xs ≡ filter p (take i xs) ++ filter p (drop i xs)
  filter-parts xs i = ap (filter p) (sym (take-append-drop i xs)) ∙ filter-append p (take i xs) (drop i xs)

  -- an element that passes stands behind those before it that pass
  pub passing_at : (xs : List X) (i : ℕ) (x : X) → i < length xs → x ≡ get_or xs i x → p x ≡ true
      → (length (filter p (take i xs)) < length (filter p xs)) × (x ≡ get_or (filter p xs) (length (filter p (take i xs))) x)
  passing_at xs i x within at passes =
      let front = filter p (take i xs) in
      let back = filter p (drop (suc i) xs) in
      let rest : drop i xs ≡ x ∷ drop (suc i) xs = drop-cons xs i x within ∙ ap (λ y. y ∷ drop (suc i) xs) (sym at) in
      let kept : filter p (drop i xs) ≡ x ∷ back = ap (filter p) rest ∙ rw passes refl in
      let all : filter p xs ≡ front ++ (x ∷ back) = filter-parts xs i ∙ ap (λ l. front ++ l) kept in
      (omega (arith, ap length all, length-append front (x ∷ back)), rw all (sym (get_or-append_seam front x back x)))

  -- one more that passes, or does not
  pub passing_more : (xs : List X) (i : ℕ) (x : X) → i < length xs → x ≡ get_or xs i x → p x ≡ true
      → filter p (take (i + 1) xs) ≡ filter p (take i xs) ++ x ∷ []
  passing_more xs i x within at passes = filter_more p xs i x within ∙ rw (← at, passes) refl

  -- the first of those that pass, and the others
  pub passing_front : (xs : List X) (i n : ℕ) → length (filter p (take i xs)) ≡ n → filter p (take i xs) ≡ take n (filter p xs)
  passing_front xs i n long = sym (ap (take n) (filter-parts xs i) ∙ take_at (filter p (take i xs)) (filter p (drop i xs)) n long)

  pub passing_back : (xs : List X) (i n : ℕ) → length (filter p (take i xs)) ≡ n → filter p (drop i xs) ≡ drop n (filter p xs)
  passing_back xs i n long = sym (ap (drop n) (filter-parts xs i) ∙ drop_at (filter p (take i xs)) (filter p (drop i xs)) n long)

module _ (part : Cuboid) (order : List Cuboid) where
  -- what is behind the first n boxes that are left
  pub left_behind : (i n : ℕ) → length (left_in part (take i order)) ≡ n → IsLeftIn part n order (take (length order - i) (drop i order))
  left_behind i n long =
      let same : take (length order - i) (drop i order) ≡ drop i order = take_all (length order - i) (drop i order) (omega (arith, length-drop i order)) in
      record { gone = i; is = same; left = ap (left_in part) same ∙ passing_back (is_left part) order i n long }

  -- those that were put into a list, which is full now
  pub taken_off : (to : List Cuboid) (i count n : ℕ) → count ≡ length to → length to ≡ n → take count to ≡ left_in part (take i order)
      → (length (left_in part (take i order)) ≡ n) × (to ≡ take n (left_in part order))
  taken_off to i count n full long taken =
      let all : take count to ≡ to = take_all count to (omega arith) in
      let same : to ≡ left_in part (take i order) = sym all ∙ taken in
      let counted : length (left_in part (take i order)) ≡ n = omega (arith, ap length same) in
      (counted, same ∙ passing_front (is_left part) order i n counted)

  -- the next box that is left, by how many are left before it
  pub at_left : (i below : ℕ) (e : Cuboid) → below ≡ length (left_in part (take i order)) → i < length order → e ≡ get_or order i e → is_left part e ≡ true
      → (below < length (left_in part order)) × (e ≡ get_or (left_in part order) below e)
  at_left i below e same within at passes = rw same (passing_at (is_left part) order i e within at passes)

  pub left_within : (i : ℕ) → length (left_in part (take i order)) ≤ i
  left_within i = omega (arith, length-filter (is_left part) (take i order), count_by-le-length (is_left part) (take i order), length-take i order)
