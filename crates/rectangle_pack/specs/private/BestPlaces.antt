-- Where a box fits best, by the index of the section.
use Rattle.std.specs.Prelude.{◌≡◌, ℕ, Option, Some, List, length}
use Rattle.std.specs.declared.cmp.Ordering.{Ordering}
use Rattle.std.specs.Map.{lookup}
use Rattle.std.specs.BTreeMap.{is_at}
use Rattle.rectangle_pack_sections.specs.Boxes.{Size, Cuboid}
use Rattle.rectangle_pack_sections.specs.Bins.{Bin}
use Rattle.rectangle_pack_bins.specs.private.Indices.{IsBestFitAt}
use Rattle.rectangle_pack.specs.PlacingBest.{IsFirstBest, IsBestBin}

module _ {B : Type 0} (bin_cmp : B → B → Ordering) where
  -- the box goes into the bin of this id, and the section that it fits best there stands at this index
  abbrev pub IsBestPlace : Option B → Size → List (B × Bin) → B → ℕ → Type 0
  IsBestPlace named box bins id index =
      (bin : Bin) × (best : Cuboid) × (at : IsBestBin bin_cmp named box bins id bin best) × (length at.fits.before ≡ index)

  -- the bin of this id is the first one, of those that were looked at, in which the box leaves the least. The section that it
  -- fits best there stands at this index, and `rest` is what the box leaves of it
  abbrev pub IsBestSeen : Size → List (B × Bin) → List (B × Bin) → B → ℕ → ℕ → Type 0
  IsBestSeen box all seen id index rest =
      (bin : Bin) × (lookup (is_at (bin_cmp id)) all ≡ Some bin) × IsFirstBest bin_cmp box rest seen id bin
      × IsBestFitAt bin.size bin.sections box index rest
