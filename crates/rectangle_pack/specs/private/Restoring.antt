-- What is found on the way to a session that is restored.
use Rattle.std.specs.Prelude.{ℕ, ◌≡◌, ◌≤◌, Any, List, [], All, Option, Some, None, unwrap_or}
use Rattle.std.specs.Borrow.{Bor}
use Rattle.std.specs.BTreeMap.{is_at}
use Rattle.std.specs.Map.{lookup}
use Rattle.std.specs.Option.{option_map}
use Rattle.std.specs.declared.vec.Vec.{Vec}
use Rattle.rectangle_pack_sections.specs.Boxes.{Cuboid}
use Rattle.std.specs.declared.cmp.Ordering.{Ordering}
use Rattle.rectangle_pack_sections.specs.Bins.{Bin}
use Rattle.rectangle_pack.specs.declared.session.command.Outstanding.{Outstanding}
use Rattle.rectangle_pack.specs.declared.session.restoring.RestoreError.{RestoreError}
use Rattle.rectangle_pack.specs.Restoring.{AreRecorded, IsRecordFault, IsWholeBin, IsBinFault}

module _ {Id B : Type 0} (bin_cmp : B → B → Ordering) where
  -- what is wrong with placements first, or that nothing is
  abbrev pub IsRecordAnswer : List (B × Bin) → ℕ → List (Outstanding Id B) → Option RestoreError → Type 0
  IsRecordAnswer bins next outstanding None = AreRecorded bin_cmp bins next outstanding
  IsRecordAnswer bins next outstanding (Some error) = IsRecordFault bin_cmp bins next outstanding error

  -- what is wrong with bins first, or that nothing is
  abbrev pub IsWholeAnswer : List (B × Bin) → List (Outstanding Id B) → Option RestoreError → Type 0
  IsWholeAnswer bins outstanding None = All (IsWholeBin bin_cmp bins outstanding) bins
  IsWholeAnswer bins outstanding (Some error) = IsBinFault bin_cmp bins outstanding error

-- the boxes that are listed at this id; none where it is not there
abbrev pub boxes_at : {B A : Type 0} → (B → B → Ordering) → List (Bor B × Vec Cuboid A) → B → List Cuboid
boxes_at bin_cmp piles id = unwrap_or (option_map (λ v. v.items) (lookup (λ key. is_at (bin_cmp id) key.now) piles)) []

-- the greatest number of these placements; there is none where there are no placements
abbrev pub IsGreatest : {Id B : Type 0} → Option ℕ → List (Outstanding Id B) → Type 0
IsGreatest None outstanding = outstanding ≡ []
IsGreatest (Some n) outstanding = All (λ r. r.number ≤ n) outstanding × Any (λ r. n ≤ r.number) outstanding
