-- What `contains_smallest_box` answers: it prefers the cut whose smallest piece is smallest.
use Rattle.std.specs.Prelude.{◌≡◌, ℕ, List, [], ◌∷◌, min, max}
use Rattle.std.specs.Ordering.{nat_cmp, ordering_then}
use Rattle.std.specs.List.{AllZip}
use Rattle.std.specs.declared.cmp.Ordering.{Ordering}
use Rattle.rectangle_pack_sections.specs.Boxes.{Size}

-- what a heuristic answers on the three sizes of a cut: the rates of right, above and behind
-- Example: 12500, 750000, 225000
pub record Rates : Type 0 where
  pub right : ℕ
  pub above : ℕ
  pub behind : ℕ

-- the least of the three rates
-- Example: of 12500, 750000 and 225000: 12500
abbrev pub smallest : Rates → ℕ
smallest r = min (min r.right r.above) r.behind

-- the one in the middle, when the three are put in rising order
-- Example: of 12500, 750000 and 225000: the greater of 12500 and (the lesser of 750000 and 225000) = 225000
abbrev pub second_smallest : Rates → ℕ
second_smallest r = max (min r.right r.above) (min (max r.right r.above) r.behind)

-- how b's smallest compares to a's, and at a tie b's second smallest to a's; the third never decides
-- Example: a = 12500, 75000, 900000 and b = 12500, 750000, 225000: a tie, then 225000 to 75000: `Greater`, a is better
abbrev pub smallest_order : Rates → Rates → Ordering
smallest_order a b = ordering_then (nat_cmp (smallest b) (smallest a)) (nat_cmp (second_smallest b) (second_smallest a))

-- each of the three is a rate that may be answered on its size
abbrev pub AreRates : (Size → ℕ → Type 0) → List Size → Rates → Type 0
AreRates MayRate sizes r = AllZip MayRate sizes (r.right ∷ r.above ∷ r.behind ∷ [])

-- the answer is that order (`smallest_order`), for three rates of the first three sizes and three of the second: one
-- rate of each size
pub record IsSmallestOrder (MayRate : Size → ℕ → Type 0) (first second : List Size) (answer : Ordering) : Type 0 where
  pub rates_first : Rates
  pub rates_second : Rates
  pub rated_first : AreRates MayRate first rates_first
  pub rated_second : AreRates MayRate second rates_second
  pub answer_is : answer ≡ smallest_order rates_first rates_second
