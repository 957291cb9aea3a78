-- How many cells the groups have that are left.
use Rattle.rectangle_pack_sections.proofs.Std.{◌≡◌, ℕ, ◌+◌, ◌<◌, List, [], ◌∷◌, take, length, get_or, map, refl, sym, ap, ◌∙◌, arith, sum_by, sum_by-cons, sum_by_push, take_more}
use Rattle.rectangle_pack_lists.specs.Numbers.{saturated}

-- what is counted of one element more; a count that is past the greatest one stays
pub counted-more : {X : Type 0} (f : X → ℕ) (xs : List X) (i : ℕ) (x : X) (before one after : ℕ) → i < length xs → x ≡ get_or xs i x
    → before ≡ saturated (sum_by f (take i xs)) → saturated one ≡ saturated (f x) → after ≡ saturated (before + one)
    → after ≡ saturated (sum_by f (take (i + 1) xs))
counted-more f xs i x before one after within is so_far next added =
    let more : sum_by f (take (i + 1) xs) ≡ sum_by f (take i xs) + f x =
    ap (sum_by f) (take_more xs i x within) ∙ sum_by_push f (take i xs) (get_or xs i x) ∙ ap (λ y. sum_by f (take i xs) + f y) (sym is) in
    (added-up (sum_by f (take i xs)) (f x) before one after (sum_by f (take (i + 1) xs)) so_far next added more)
  where
    added-up : (s n before one after all : ℕ) → before ≡ saturated s → saturated one ≡ saturated n → after ≡ saturated (before + one) → all ≡ s + n
        → after ≡ saturated all
    added-up s n before one after all so_far next added more = omega arith

-- a count is as great as it is, or the greatest
pub saturated-twice : (n : ℕ) → saturated (saturated n) ≡ saturated n
saturated-twice n = omega arith

-- what is counted of a list that is mapped
pub sum_by-mapped : {X Y : Type 0} (f : Y → ℕ) (g : X → Y) (xs : List X) → sum_by (λ x. f (g x)) xs ≡ sum_by f (map g xs)
sum_by-mapped f g [] = refl
sum_by-mapped f g (x ∷ xs) = omega (arith, sum_by-mapped f g xs, sum_by-cons f (g x) (map g xs), sum_by-cons (λ x. f (g x)) x xs)
