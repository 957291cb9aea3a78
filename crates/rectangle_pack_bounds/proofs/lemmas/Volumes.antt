-- Sums of the last elements of a list.
use Rattle.std.proofs.Common.{ℕ, ◌+◌, ◌-◌, ◌<◌, ◌≤◌, ◌≡◌, List, length, drop, sum, ap, ◌∙◌, arith}
use Rattle.std.proofs.lemmas.List.{drop-drop}
use Rattle.std.proofs.lemmas.List.Sums.{sum_by-take-drop}
use Rattle.rectangle_pack_bounds.specs.Ratings.{capped, last_of}

-- fewer of the last numbers add up to no more
pub sum-drop-le : (xs : List ℕ) (first later : ℕ) → first ≤ later → sum (drop later xs) ≤ sum (drop first xs)
sum-drop-le xs first later le =
    let on : first + (later - first) ≡ later = omega arith in
    let rest = drop-drop (later - first) first xs ∙ ap (λ k. drop k xs) on in
    let parts = rw rest at (sum_by-take-drop (λ x. x) (drop first xs) (later - first)) in
    omega (arith, parts)

-- so the last n are too few where all from `first` on are, and these are n or more
pub too_few_last : (xs : List ℕ) (first n cells : ℕ) → n + first ≤ length xs → capped (sum (drop first xs)) < cells
    → capped (sum (last_of n xs)) < cells
too_few_last xs first n cells within low =
    let less = sum-drop-le xs first (length xs - n) (omega arith) in
    omega (arith, less, low)
