-- A box that is placed at a corner of the caller's choice, in a bin of a session.
use Rattle.std.specs.Prelude.{◌≡◌, ℕ, ◌+◌, ◌<◌, ◌≤◌, ◌^◌, List, [], ◌∷◌, ◌++◌, Some, None, IsSome, Result, Ok, Err, true, false}
use Rattle.std.specs.declared.cmp.Ordering.{Ordering}
use Rattle.std.specs.Map.{lookup, set_value}
use Rattle.std.specs.BTreeMap.{is_at}
use Rattle.rectangle_pack.specs.declared.session.command.SessionError.{SessionError}
use Rattle.rectangle_pack.specs.declared.session.command.SessionError.TheVariants.{UnknownBin, NumbersUsedUp, NotFree, OutOfMemory}
use Rattle.rectangle_pack_sections.specs.Boxes.{Cuboid}
use Rattle.rectangle_pack_sections.specs.Bins.{Bin}
use Rattle.rectangle_pack_bins.specs.PlacedAt.{IsFirstAround, IsPlacedAt}
use Rattle.rectangle_pack.specs.Session.{State}

module _ {B : Type 0} (bin_cmp : B → B → Ordering) where
  -- a box is placed at a corner in the bin of this id, which then has the list that `IsPlacedAt` says; the other bins stay
  abbrev pub PlacesIn : B → Cuboid → List (B × Bin) → List (B × Bin) → Type 0
  PlacesIn bin_id location old new =
      (bin : Bin) × (lookup (is_at (bin_cmp bin_id)) old ≡ Some bin)
      × (after : Bin) × IsPlacedAt bin location true after × (new ≡ set_value (is_at (bin_cmp bin_id)) old after)

  -- what a placing at a corner is answered, by cases. A number: the box is placed in the bin (`PlacesIn`). The answer is the
  -- old next number; under it the box stands last among the outstanding placements, and the next number is greater by 1.
  -- Else one of these, the first that is so: there is no such bin; the next number and 1 add up to 2^64 or more; the box is a
  -- part of no free section of the bin; memory is refused. What is refused changes nothing
  -- Example: in a new bin 10x10x1 the box (4,3,0) 2x2x1 gets the number 0, and the bin has [(0,0,0) 4x10x1, (6,0,0) 4x10x1,
  -- (4,0,0) 2x3x1, (4,5,0) 2x5x1]. Then (5,3,0) 2x2x1 is `NotFree`; so is (0,0,0) 10x3x1, whose cells are free in three
  -- sections
  abbrev pub PlacesAt : {Id : Type 0} → B → Id → Cuboid → State Id B → Result ℕ SessionError → State Id B → Type 0
  PlacesAt bin_id id location old (Ok number) new =
      (old.next + 1 < 2 ^ 64) × (number ≡ old.next) × PlacesIn bin_id location old.bins new.bins
      × (new.outstanding ≡ old.outstanding ++ record { number = number; id = id; bin = bin_id; location = location } ∷ [])
      × (new.next ≡ old.next + 1)
  PlacesAt bin_id id location old (Err UnknownBin) new = (lookup (is_at (bin_cmp bin_id)) old.bins ≡ None) × (new ≡ old)
  PlacesAt bin_id id location old (Err NumbersUsedUp) new =
      IsSome (lookup (is_at (bin_cmp bin_id)) old.bins) × (2 ^ 64 ≤ old.next + 1) × (new ≡ old)
  PlacesAt bin_id id location old (Err NotFree) new =
      (old.next + 1 < 2 ^ 64)
      × (bin : Bin) × (lookup (is_at (bin_cmp bin_id)) old.bins ≡ Some bin) × IsPlacedAt bin location false bin × (new ≡ old)
  PlacesAt bin_id id location old (Err OutOfMemory) new =
      (old.next + 1 < 2 ^ 64)
      × (bin : Bin) × (lookup (is_at (bin_cmp bin_id)) old.bins ≡ Some bin)
      × (first : Cuboid) × IsFirstAround bin.sections location first × (new ≡ old)
  PlacesAt bin_id id location old _ new = ⊥
