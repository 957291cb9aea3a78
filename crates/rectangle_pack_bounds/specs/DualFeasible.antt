-- Rates of lengths, such that no lengths that fit along an axis are rated above a scale, and weighted intervals. All numbers
-- are whole numbers without a bound.
use Rattle.std.specs.Prelude.{ℕ, ◌+◌, ◌-◌, ◌*◌, ◌/◌, ◌%◌, ◌<◌, ◌≤◌, cond, nat_eq, nat_lt, List, All, sum, sum_by}
use Rattle.rectangle_pack_sections.specs.Boxes.{Size, is_within}

-- lengths that fit one after another into `along` are rated `scale` at most, together
-- Example: along 10, the rate 1 of a length above 5, and 0 of any other, with scale 1: no two lengths above 5 fit
pub record IsDualFeasible (along : ℕ) (rate : ℕ → ℕ) (scale : ℕ) : Type 0 where
  pub bounded : (lengths : List ℕ) → sum lengths ≤ along → sum_by rate lengths ≤ scale

-- a span on an axis, with a weight
-- Example: from 2, 3 long, weight 7: it has the places 2, 3 and 4
pub record Interval : Type 0 where
  pub first : ℕ
  pub long : ℕ
  pub weight : ℕ

-- the weights of the intervals that have the place, added up
abbrev pub weight_at : ℕ → List Interval → ℕ
weight_at place intervals = sum_by (λ i. cond (is_within i.first i.long place) i.weight 0) intervals

-- each interval ends at `along` or before, and at each place the weights add up to `most` at most
pub record IsStack (along most : ℕ) (intervals : List Interval) : Type 0 where
  pub inside : All (λ i. i.first + i.long ≤ along) intervals
  pub low : (place : ℕ) → place < along → weight_at place intervals ≤ most

-- a length below `least` counts 0, one that leaves less than `least` counts as all of `along`, any other as it is
-- Example: along 10, least 3: 2 counts 0, 4 counts 4, 8 counts 10. With least 0 each counts as it is
abbrev pub rounded : ℕ → ℕ → ℕ → ℕ
rounded along least x = cond (nat_lt x least) 0 (cond (nat_lt (along - least) x) along x)

-- a length in whole parts, where `along` is cut into parts + 1: each whole part counts `along`; a length of whole parts
-- and nothing over counts `parts` times its length
-- Example: along 10, 1 part: 5 counts 5, 6 counts 10, 4 counts 0
abbrev pub in_parts : ℕ → ℕ → ℕ → ℕ
in_parts along parts x = cond (nat_eq ((parts + 1) * x % along) 0) (parts * x) (along * ((parts + 1) * x / along))

-- twice how many pieces so long a length holds, below the half; above it, twice how many it takes away from `along`; at
-- the half as many as `along` holds
-- Example: along 10, piece 3: 2 counts 0, 4 counts 2, 5 counts 3, 6 counts 4, 8 counts 6
abbrev pub in_pieces : ℕ → ℕ → ℕ → ℕ
in_pieces along piece x = cond (nat_lt along (2 * x)) (2 * (along / piece - (along - x) / piece))
    (cond (nat_lt (2 * x) along) (2 * (x / piece)) (along / piece))

-- a rate of lengths for each axis
pub record Rates : Type 0 where
  pub of_width : ℕ → ℕ
  pub of_height : ℕ → ℕ
  pub of_depth : ℕ → ℕ

-- each rate is dual feasible along its axis of the bin, with the scale of that axis
pub record AreDualFeasible (bin : Size) (rates : Rates) (scales : Size) : Type 0 where
  pub width : IsDualFeasible bin.width rates.of_width scales.width
  pub height : IsDualFeasible bin.height rates.of_height scales.height
  pub depth : IsDualFeasible bin.depth rates.of_depth scales.depth

-- the rate of a size: the product of the rates of its numbers
abbrev pub rate_of : Rates → Size → ℕ
rate_of rates s = rates.of_width s.width * rates.of_height s.height * rates.of_depth s.depth
