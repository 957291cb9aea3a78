-- Rows of rates, and the least rates of boxes.
use Rattle.std.specs.Prelude.{◌≡◌, ℕ, ◌+◌, ◌*◌, min, cond, Bool, List, [], ◌∷◌, map}
use Rattle.rectangle_pack_sections.specs.declared.axis.Axis.{Axis}
use Rattle.rectangle_pack_sections.specs.Boxes.{Size, extent}
use Rattle.rectangle_pack_bounds.specs.declared.rows.Row.{Row}
use Rattle.rectangle_pack_bounds.specs.Ratings.{Ratings, rate_by, scale_by}

-- the row has the scale of its rating along an axis of the bin, and the rates of the sizes
pub record IsRow {A : Type 0} (axis : Axis) (bin : Size) (sizes : List Size) (row : Row A) : Type 0 where
  pub scale_is : row.scale ≡ scale_by row.rating (extent axis bin)
  pub rates_are : row.rates.items ≡ map (λ s. rate_by row.rating (extent axis bin) (extent axis s)) sizes

-- the ratings of three rows, one of widths, one of heights and one of depths
abbrev pub ratings_of : {A : Type 0} → Row A → Row A → Row A → Ratings
ratings_of width height depth = record { of_width = width.rating; of_height = height.rating; of_depth = depth.rating }

-- the products of three numbers each, one of each list
-- Example: of (2, 3), (5, 7) and (1, 4): 10 and 84
abbrev pub products : List ℕ → List ℕ → List ℕ → List ℕ
products [] hs ds = []
products (w ∷ ws) [] ds = []
products (w ∷ ws) (h ∷ hs) [] = []
products (w ∷ ws) (h ∷ hs) (d ∷ ds) = w * h * d ∷ products ws hs ds

-- numbers in groups, each of which begins where a flag says so: the least number of each group, added up. Numbers before the first
-- flag belong to a group whose least number so far is `least`
-- Example: 4, 7, 3 and 5, of which 7 and 5 begin a group, with 2 as the least so far: 2 + 3 + 5
abbrev pub least_added : ℕ → List Bool → List ℕ → ℕ
least_added least [] ns = least
least_added least (begins ∷ more) [] = least
least_added least (begins ∷ more) (n ∷ ns) = cond begins (least + least_added n more ns) (least_added (min least n) more ns)
