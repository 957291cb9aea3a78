-- Sums over a list.
use Rattle.rectangle_pack_bounds.proofs.Std.{arith, ◌≡◌, ℕ, ◌+◌, ◌*◌, ◌≤◌, refl, ap, ◌∙◌, List, [], ◌∷◌, map, length, sum_by}
use Rattle.rectangle_pack_bounds.proofs.Std.{All, All-head, All-tail, sum_by-cons}

module _ {X : Type 0} where
  -- a sum of terms that are no greater is no greater
  pub sum_by-lesser : (f g : X → ℕ) (xs : List X) → All (λ x. f x ≤ g x) xs → sum_by f xs ≤ sum_by g xs
  sum_by-lesser f g [] h = omega arith
  sum_by-lesser f g (x ∷ xs) h =
      let first = All-head (λ x. f x ≤ g x) x xs h in
      let rest = sum_by-lesser f g xs (All-tail (λ x. f x ≤ g x) x xs h) in
      omega (arith, sum_by-cons f x xs, sum_by-cons g x xs, first, rest)

  pub sum_by-same : (f g : X → ℕ) (xs : List X) → ((x : X) → f x ≡ g x) → sum_by f xs ≡ sum_by g xs
  sum_by-same f g [] h = refl
  sum_by-same f g (x ∷ xs) h = omega (arith, sum_by-cons f x xs, sum_by-cons g x xs, h x, sum_by-same f g xs h)

  -- a sum of terms f x + y * h x
  pub sum_by-added : (e f h : X → ℕ) (y : ℕ) (xs : List X) → ((x : X) → e x ≡ f x + y * h x)
      → sum_by e xs ≡ sum_by f xs + y * sum_by h xs
  sum_by-added e f h y [] same = omega arith
  sum_by-added e f h y (x ∷ xs) same =
      let times : y * sum_by h (x ∷ xs) ≡ y * h x + y * sum_by h xs = ap (λ n. y * n) (sum_by-cons h x xs) ∙ omega arith in
      omega (arith, sum_by-cons e x xs, sum_by-cons f x xs, times, same x, sum_by-added e f h y xs same)

  pub sum_by-nothing : (f : X → ℕ) (xs : List X) → ((x : X) → f x ≡ 0) → sum_by f xs ≡ 0
  sum_by-nothing f [] h = refl
  sum_by-nothing f (x ∷ xs) h = omega (arith, sum_by-cons f x xs, h x, sum_by-nothing f xs h)

  pub sum_by-mapped : {Y : Type 0} (f : Y → ℕ) (g : X → Y) (xs : List X) → sum_by f (map g xs) ≡ sum_by (λ x. f (g x)) xs
  sum_by-mapped f g [] = refl
  sum_by-mapped f g (x ∷ xs) =
      omega (arith, sum_by-cons f (g x) (map g xs), sum_by-cons (λ x. f (g x)) x xs, sum_by-mapped f g xs)

  pub length-sum : (xs : List X) → sum_by (λ x. 1) xs ≡ length xs
  length-sum [] = refl
  length-sum (x ∷ xs) = omega (arith, sum_by-cons (λ x. 1) x xs, length-sum xs)
