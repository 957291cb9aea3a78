-- The bins of a packing, of which some are checked out of their map: those stand in a list, each at the index of its id in the order.
use Rattle.std.specs.Prelude.{◌≡◌, ◌<◌, ◌≤◌, ℕ, List, [], ◌∷◌, length, map, sum, All, Option, Some, None, IsSome, IfSome, slice_index_or}
use Rattle.std.specs.declared.cmp.Ordering.{Ordering}
use Rattle.std.specs.List.{IsDistinct, AllZip}
use Rattle.std.specs.Map.{lookup, set_value}
use Rattle.std.specs.Ordering.{eq_by_cmp}
use Rattle.std.specs.BTreeMap.{is_at}
use Rattle.rectangle_pack_sections.specs.Boxes.{Size, Holds}
use Rattle.rectangle_pack_sections.specs.Bins.{Bin}
use Rattle.rectangle_pack_lists.specs.declared.free_list.End.{End}
use Rattle.rectangle_pack_lists.specs.declared.free_list.End.TheVariants.{Keep, Undo}
use Rattle.rectangle_pack_lists.specs.declared.gap_list.summary.Summary.{Summary}
use Rattle.rectangle_pack_lists.specs.private.Summaries.{Bounds}

-- a bin that is checked out while a packing lasts: as it was at the start, and as the packing has it
pub record AtWork : Type 0 where
  pub start : Bin
  pub now : Bin

-- the bin at the end: where the packing is kept, as the packing has it, and else as it was at the start
abbrev pub left_at : End → AtWork → Bin
left_at Keep bin = bin.now
left_at Undo bin = bin.start

-- the map with this bin checked in under its id, as it is left by this end; without a bin the map stays
abbrev pub put_back : {B : Type 0} → (B → B → Ordering) → End → B → Option AtWork → List (B × Bin) → List (B × Bin)
put_back cmp end id None bins = bins
put_back cmp end id (Some bin) bins = set_value (is_at (cmp id)) bins (left_at end bin)

-- the map with all bins checked in, as they are left by this end: what stands first in the list at the first id of the
-- order, and so on
abbrev pub checked_in : {B : Type 0} → (B → B → Ordering) → End → List (ℕ × B) → List (Option AtWork) → List (B × Bin) → List (B × Bin)
checked_in cmp end [] out bins = bins
checked_in cmp end (o ∷ order) [] bins = bins
checked_in cmp end (o ∷ order) (held ∷ out) bins = put_back cmp end o.1 held (checked_in cmp end order out bins)

-- what is seen of the bins of a packing, wherever they are: the map with all bins checked in, as the packing has them
-- (`now`) and as they were at the start (`start`), the order in which they are tried, and those that are checked out
pub record BinsInUse (B : Type 0) : Type 0 where
  pub now : List (B × Bin)
  pub start : List (B × Bin)
  pub order : List (ℕ × B)
  pub out : List (Option AtWork)

-- the bins of a packing that has these bins checked out of this map
-- Example: the bins A, B and C have the ids a, b and c, and the order is c, a, b. C and A are checked out. In the map a
-- bin without sections, -, stands for each: a: -, b: B, c: -. Boxes were placed in C, which is now C'. `out` has C at
-- the start and C' now, then A at the start and A now. So the field `now` is a: A, b: B, c: C', and the field `start`
-- is a: A, b: B, c: C
abbrev pub in_use : {B : Type 0} → (B → B → Ordering) → List (ℕ × B) → List (Option AtWork) → List (B × Bin) → BinsInUse B
in_use cmp order out bins =
    record { now = checked_in cmp Keep order out bins; start = checked_in cmp Undo order out bins; order = order; out = out }

-- what is left of them at the end
abbrev pub left_of : {B : Type 0} → End → BinsInUse B → List (B × Bin)
left_of Keep bins = bins.now
left_of Undo bins = bins.start

-- each id of the order is in the map, the ids differ, and what is out stands at indices of the order
pub record CanCheckIn {B : Type 0} (cmp : B → B → Ordering) (order : List (ℕ × B)) (out : List (Option AtWork)) (bins : List (B × Bin)) : Type 0 where
  pub found : All (λ o. IsSome (lookup (is_at (cmp o.1)) bins)) order
  pub distinct : IsDistinct (eq_by_cmp cmp) (map (λ o. o.1) order)
  pub within : length out ≤ length order

-- the bin whose id stands at this index of the order
pub record IsBinAt {B : Type 0} (cmp : B → B → Ordering) (order : List (ℕ × B)) (bins : List (B × Bin)) (index : ℕ) (bin : Bin) : Type 0 where
  pub within : index < length order
  pub found : (o : ℕ × B) → o ≡ slice_index_or order index o → lookup (is_at (cmp o.1)) bins ≡ Some bin

-- each summary that is known bounds the sections of the bin whose id stands at its index of the order, and says how
-- many they are (`Bounds`)
abbrev pub AreSummed : {B : Type 0} → (B → B → Ordering) → List (ℕ × B) → List (B × Bin) → List (Option Summary) → Type 0
AreSummed cmp order bins summaries =
    (i : ℕ) → IfSome (slice_index_or summaries i None) (λ s. (bin : Bin) × IsBinAt cmp order bins i bin × Bounds s bin.sections)

-- the bin of this id was tried: in `old` it is `before`; in `new` it is `after`, the same but for its list; all others are
-- as they were
pub record IsTriedIn {B : Type 0} (cmp : B → B → Ordering) (id : B) (old : List (B × Bin)) (before after : Bin) (new : List (B × Bin)) : Type 0 where
  pub found : lookup (is_at (cmp id)) old ≡ Some before
  pub rest : after ≡ record before { sections = after.sections }
  pub written : new ≡ set_value (is_at (cmp id)) old after

-- the bin of this id has no section that holds the size; so many sections stand in it
pub record BinHoldsNone {B : Type 0} (cmp : B → B → Ordering) (bins : List (B × Bin)) (size : Size) (id : B) (tests : ℕ) : Type 0 where
  pub bin : Bin
  pub found : lookup (is_at (cmp id)) bins ≡ Some bin
  pub none : All (λ s. ¬ Holds s size) bin.sections
  pub tests_are : tests ≡ length bin.sections

-- nor has any bin of these ids; so many sections stand in all of them
pub record BinsHoldNone {B : Type 0} (cmp : B → B → Ordering) (bins : List (B × Bin)) (size : Size) (ids : List B) (tests : ℕ) : Type 0 where
  pub counts : List ℕ
  pub each : AllZip (BinHoldsNone cmp bins size) ids counts
  pub tests_are : tests ≡ sum counts
