-- Sections by their index in a list.
use Rattle.std.specs.Prelude.{◌≡◌, ℕ, ◌+◌, ◌≤◌, ◌<◌, Option, Some, None, List, length}
use Rattle.std.specs.List.{HoldsAt, AllWithin}
use Rattle.rectangle_pack_sections.specs.Boxes.{Size, Cuboid, Holds}
use Rattle.rectangle_pack_sections.specs.LeastSides.{least_rest}
use Rattle.rectangle_pack_bins.specs.PlacedAt.{IsFirstAround}
use Rattle.rectangle_pack_bins.specs.BestFit.{IsBestFit}

-- the first of the sections that the box is a part of stands at this index
abbrev pub IsFirstAroundAt : List Cuboid → Cuboid → ℕ → Type 0
IsFirstAroundAt sections box index = (first : Cuboid) × (at : IsFirstAround sections box first) × (length at.before ≡ index)

-- the section that the box fits best, in a bin of this size, stands at this index, and the box leaves so much of it on its
-- tightest side
abbrev pub IsBestFitAt : Size → List Cuboid → Size → ℕ → ℕ → Type 0
IsBestFitAt bin_size sections box index rest =
    (best : Cuboid) × (at : IsBestFit bin_size sections box best) × (length at.before ≡ index)
    × (rest ≡ least_rest bin_size best box)

-- what is known of the sections from an index on: none holds the box; or the box fits the one at an index best, and leaves
-- so much of it
abbrev pub IsBestFrom : Size → List Cuboid → Size → ℕ → Option (ℕ × ℕ) → Type 0
IsBestFrom bin_size sections box from None = AllWithin (λ s. ¬ Holds s box) sections from (length sections)
IsBestFrom bin_size sections box from (Some found) =
    (found.0 < length sections)
    × HoldsAt (λ s. Holds s box × (found.1 ≡ least_rest bin_size s box)) sections found.0
    × AllWithin (λ s. Holds s box → found.1 ≤ least_rest bin_size s box) sections from found.0
    × AllWithin (λ s. Holds s box → found.1 < least_rest bin_size s box) sections (found.0 + 1) (length sections)
