-- How many bins a list of boxes needs, as far as it is shown.
use Rattle.std.specs.Prelude.{◌≡◌, ℕ, ◌<◌, ◌≤◌, cond, max, Bool, ◌&&◌, nat_le, List, ◌+◌, length, map, sum, sum_by, IsPermutation, IsSorted, Option, Some, None}
use Rattle.std.specs.List.{list_all, list_any}
use Rattle.std.specs.Ordering.{nat_cmp}
use Rattle.rectangle_pack_sections.specs.Boxes.{Size, volume_of}
use Rattle.rectangle_pack_bounds.specs.declared.turning.TurningBox.{TurningBox}
use Rattle.rectangle_pack_bounds.specs.Turning.{ways, fits_in}
use Rattle.rectangle_pack_bounds.specs.Ratings.{AreShownByRatings, capped, greatest_by, last_of}

-- the least size in which each of the sizes fits: the greatest width, the greatest height and the greatest depth
-- Example: of 10x2x1 and 3x8x1: 10x8x1
abbrev pub enclosing : List Size → Size
enclosing sizes = record {
  width = greatest_by (λ s. s.width) sizes;
  height = greatest_by (λ s. s.height) sizes;
  depth = greatest_by (λ s. s.depth) sizes;
}

-- whether some bin is large enough for the box, in one of its ways
abbrev pub has_bin : List Size → TurningBox → Bool
has_bin bins b = list_any (λ bin. list_any (fits_in bin) (ways b)) bins

-- the cells of the boxes, added up and capped
abbrev pub cells_of_boxes : List TurningBox → ℕ
cells_of_boxes boxes = capped (sum_by (λ b. volume_of b.whd) boxes)

-- the fewest bins whose cells add up to those of the boxes, the largest bins taken first. One more than there are bins where
-- all of them do not suffice
-- Example: boxes of 250 cells in bins of 100, 200 and 100 cells: 2
pub record AreShownByVolumes (bins : List Size) (boxes : List TurningBox) (fewest : ℕ) : Type 0 where
  pub rising : List ℕ
  pub each_once : IsPermutation (map volume_of bins) rising
  pub ordered : IsSorted nat_cmp rising
  pub too_few : (n : ℕ) → n < fewest → capped (sum (last_of n rising)) < cells_of_boxes boxes
  pub enough : fewest ≤ length bins → cells_of_boxes boxes ≤ capped (sum (last_of fewest rising))
  pub most : fewest ≤ length bins + 1

-- how many bins the boxes need at least, as far as this is shown: what ratings and volumes show, and `apart` where more is
-- known otherwise. No number where some box is too large for each bin, or where more bins are needed than there are
pub record IsShown (bins : List Size) (boxes : List TurningBox) (apart : ℕ) (least : Option ℕ) : Type 0 where
  pub by_ratings : ℕ
  pub by_volumes : ℕ
  pub ratings_show : AreShownByRatings (enclosing bins) boxes by_ratings
  pub volumes_show : AreShownByVolumes bins boxes by_volumes
  pub least_is : let most = max (max by_ratings by_volumes) apart in
      least ≡ cond (list_all (has_bin bins) boxes && nat_le most (length bins)) (Some most) None
