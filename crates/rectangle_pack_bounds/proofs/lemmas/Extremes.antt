-- The greatest and the least of numbers.
use Rattle.rectangle_pack_bounds.proofs.Std.{arith, ℕ, ◌≤◌, List, [], ◌∷◌, min, max, All, All-head, All-tail, All-cons}
use Rattle.rectangle_pack_bounds.proofs.Std.{All-nil, All-weaker}
use Rattle.rectangle_pack_bounds.specs.Ratings.{greatest_by, least_of}

module _ {X : Type 0} where
  -- the greatest of values is at most what all of them are
  pub greatest_by-le : (f : X → ℕ) (xs : List X) (most : ℕ) → All (λ x. f x ≤ most) xs → greatest_by f xs ≤ most
  greatest_by-le f [] most h = omega arith
  greatest_by-le f (x ∷ xs) most h =
      omega (arith, All-head (λ x. f x ≤ most) x xs h, greatest_by-le f xs most (All-tail (λ x. f x ≤ most) x xs h))

  -- and at least each
  pub le-greatest_by : (f : X → ℕ) (xs : List X) → All (λ x. f x ≤ greatest_by f xs) xs
  le-greatest_by f [] = All-nil (λ x. f x ≤ 0)
  le-greatest_by f (x ∷ xs) =
      All-cons (λ y. f y ≤ max (f x) (greatest_by f xs)) x xs (omega arith)
      (All-weaker (λ y. f y ≤ greatest_by f xs) (λ y. f y ≤ max (f x) (greatest_by f xs)) (λ y le. omega arith) xs
      (le-greatest_by f xs))

-- the least of numbers is at most each
pub least_of-le : (ns : List ℕ) → All (λ n. least_of ns ≤ n) ns
least_of-le [] = All-nil (λ n. 0 ≤ n)
least_of-le (n ∷ []) = All-cons (λ m. n ≤ m) n [] (omega arith) (All-nil (λ m. n ≤ m))
least_of-le (n ∷ m ∷ ns) =
    All-cons (λ k. min n (least_of (m ∷ ns)) ≤ k) n (m ∷ ns) (omega arith)
    (All-weaker (λ k. least_of (m ∷ ns) ≤ k) (λ k. min n (least_of (m ∷ ns)) ≤ k) (λ k le. omega arith) (m ∷ ns)
    (least_of-le (m ∷ ns)))
