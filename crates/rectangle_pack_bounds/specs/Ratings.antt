-- Ratings that have a name, which of them are tried along an axis, and what they show.
use Rattle.std.specs.Prelude.{◌≡◌, ◌↔◌, ℕ, ◌-◌, ◌*◌, ◌/◌, ◌^◌, ◌<◌, ◌≤◌, cond, min, max, Bool, ◌||◌, nat_le, List, [], ◌∷◌, ◌++◌, Contains, drop, flat_map, length, map, sum_by}
use Rattle.std.specs.Int.{div_ceil}
use Rattle.std.specs.List.{list_all}
use Rattle.std.specs.List.Sorted.{IsStrictlyIncreasing}
use Rattle.rectangle_pack_sections.specs.declared.axis.Axis.{Axis}
use Rattle.rectangle_pack_sections.specs.declared.axis.Axis.TheVariants.{X, Y, Z}
use Rattle.rectangle_pack_sections.specs.Boxes.{Size, extent, volume_of}
use Rattle.rectangle_pack_bounds.specs.declared.rating.Rating.{Rating}
use Rattle.rectangle_pack_bounds.specs.declared.rating.Rating.TheVariants.{Rounded, InParts, InPieces}
use Rattle.rectangle_pack_bounds.specs.declared.turning.TurningBox.{TurningBox}
use Rattle.rectangle_pack_bounds.specs.DualFeasible.{Rates, rate_of, rounded, in_parts, in_pieces}
use Rattle.rectangle_pack_bounds.specs.Turning.{ways, ways_in}

-- what the rating asks of its number, along an axis so long
abbrev pub IsUsable : Rating → ℕ → Type 0
IsUsable (Rounded least) along = 2 * least ≤ along
IsUsable (InParts parts) along = 0 < along
IsUsable (InPieces piece) along = 0 < piece

-- the rate of a length, along an axis so long
abbrev pub rate_by : Rating → ℕ → ℕ → ℕ
rate_by (Rounded least) along x = rounded along least x
rate_by (InParts parts) along x = in_parts along parts x
rate_by (InPieces piece) along x = in_pieces along piece x

-- the most that lengths that fit into `along` are rated, together
abbrev pub scale_by : Rating → ℕ → ℕ
scale_by (Rounded least) along = along
scale_by (InParts parts) along = parts * along
scale_by (InPieces piece) along = 2 * (along / piece)

-- a rating for each axis
pub record Ratings : Type 0 where
  pub of_width : Rating
  pub of_height : Rating
  pub of_depth : Rating

-- the rates of the ratings, in a bin of this size
abbrev pub rates_by : Ratings → Size → Rates
rates_by r bin = record {
  of_width = rate_by r.of_width bin.width;
  of_height = rate_by r.of_height bin.height;
  of_depth = rate_by r.of_depth bin.depth;
}

-- and their scales
abbrev pub scales_by : Ratings → Size → Size
scales_by r bin = record { width = scale_by r.of_width bin.width; height = scale_by r.of_height bin.height; depth = scale_by r.of_depth bin.depth }

-- the least of the numbers; 0 where there is none
abbrev pub least_of : List ℕ → ℕ
least_of [] = 0
least_of (n ∷ []) = n
least_of (n ∷ m ∷ ns) = min n (least_of (m ∷ ns))

-- the rate of a box that may be turned: the least of the rates of the sizes in which it may stand in the bin
abbrev pub least_rate : Ratings → Size → TurningBox → ℕ
least_rate r bin b = least_of (map (rate_of (rates_by r bin)) (ways_in bin b))

-- a number, but at most the greatest one of 128 bits
abbrev pub capped : ℕ → ℕ
capped n = min n (2 ^ 128 - 1)

-- how many bins the boxes need by these ratings: the rates of the boxes, added up, divided by the product of the scales,
-- and rounded up. No more than one for each box
-- Example: five boxes 6x6x6 in bins of 10x10x10, by one part on each axis: each box counts 10 · 10 · 10, which is the
-- product of the scales, so they need 5
abbrev pub bound_by : Size → List TurningBox → Ratings → ℕ
bound_by bin boxes r = min (div_ceil (capped (sum_by (least_rate r bin) boxes)) (volume_of (scales_by r bin))) (length boxes)

-- the greatest value on the list; 0 where it is empty
abbrev pub greatest_by : {X : Type 0} → (X → ℕ) → List X → ℕ
greatest_by f [] = 0
greatest_by f (x ∷ xs) = max (f x) (greatest_by f xs)

-- the lengths that the boxes may have along an axis
abbrev pub lengths_along : Axis → List TurningBox → List ℕ
lengths_along axis boxes = flat_map (λ b. map (extent axis) (ways b)) boxes

-- the last elements of a list, at most so many
abbrev pub last_of : {X : Type 0} → ℕ → List X → List X
last_of most xs = drop (length xs - most) xs

-- whether each length is as long as the axis, or longer: then ratings do not tell them apart
abbrev pub are_full : ℕ → List ℕ → Bool
are_full along lengths = list_all (nat_le along) lengths

-- which parts are tried along an axis, how many lengths to round at, and how many pieces
pub record Effort : Type 0 where
  pub parts : List ℕ
  pub rounded : ℕ
  pub pieces : ℕ

-- with lengths as they are, 64 ratings where along one of the three axes all lengths are full; else 16
abbrev pub effort_by : Bool → Effort
effort_by is_flat = cond is_flat (record { parts = 1 ∷ 2 ∷ 3 ∷ 4 ∷ []; rounded = 39; pieces = 20 })
    (record { parts = 1 ∷ 2 ∷ []; rounded = 8; pieces = 5 })

-- the ratings that are tried along an axis for boxes that have these lengths. Lengths as they are, alone where they are all
-- full. Else also: cut into parts, 2, 3 and so on; rounded at the greatest of the lengths up to the half, and in pieces of the
-- greatest of them
-- Example: along 10, with the lengths 3, 4, 4 and 8: as they are; in 2, 3, 4 and 5 parts; rounded at 3 and at 4; in pieces of 3
-- and of 4
pub record AreTried (effort : Effort) (along : ℕ) (lengths : List ℕ) (ratings : List Rating) : Type 0 where
  pub rising : List ℕ
  pub once : IsStrictlyIncreasing rising
  pub listed : (l : ℕ) → Contains rising l ↔ (Contains lengths l × (0 < l) × (2 * l ≤ along))
  pub are : ratings ≡ cond (are_full along lengths) (Rounded 0 ∷ [])
      (Rounded 0 ∷ map InParts effort.parts ++ map Rounded (last_of effort.rounded rising) ++ map InPieces (last_of effort.pieces rising))

-- in bins of this size the ratings that are tried show that the boxes need so many: the greatest number that some three of
-- them show, one of widths, one of heights and one of depths
pub record AreShownByRatings (bin : Size) (boxes : List TurningBox) (bins : ℕ) : Type 0 where
  pub widths : List Rating
  pub heights : List Rating
  pub depths : List Rating
  pub effort : Effort
  pub effort_is : effort ≡ effort_by (are_full bin.width (lengths_along X boxes) || are_full bin.height (lengths_along Y boxes) || are_full bin.depth (lengths_along Z boxes))
  pub of_width : AreTried effort bin.width (lengths_along X boxes) widths
  pub of_height : AreTried effort bin.height (lengths_along Y boxes) heights
  pub of_depth : AreTried effort bin.depth (lengths_along Z boxes) depths
  pub greatest : bins ≡ greatest_by (λ w. greatest_by (λ h. greatest_by (λ d. bound_by bin boxes (record { of_width = w; of_height = h; of_depth = d })) depths) heights) widths
