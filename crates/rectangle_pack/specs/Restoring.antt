-- Sessions that are made of their parts, and what may be wrong with these.
use Rattle.std.specs.Prelude.{ℕ, ⊤, Bool, ◌≡◌, ◌<◌, ◌≤◌, not, List, All, AllPairs, Any, Some, None, IsSome, Result, Ok, Err}
use Rattle.std.specs.declared.cmp.Ordering.{Ordering}
use Rattle.std.specs.BTreeMap.{is_at}
use Rattle.std.specs.Map.{lookup}
use Rattle.rectangle_pack_sections.specs.Bins.{Bin, Held, IsSound, bins_of}
use Rattle.rectangle_pack_sections.specs.Boxes.{Size, Cuboid}
use Rattle.rectangle_pack_overlaps.specs.Places.{At}
use Rattle.rectangle_pack_covers.specs.Covers.{IsBinAnswer, IsSectionsAnswer}
use Rattle.rectangle_pack.specs.declared.session.command.Outstanding.{Outstanding}
use Rattle.rectangle_pack.specs.declared.session.restoring.SessionParts.{SessionParts}
use Rattle.rectangle_pack.specs.declared.session.restoring.RestoreError.{RestoreError}
use Rattle.rectangle_pack.specs.declared.session.restoring.RestoreError.TheVariants.{NotRising, NotBelowNext, UnknownBin, WrongBin, OutOfMemory}
use Rattle.rectangle_pack_covers.specs.declared.sections.SectionsError.{SectionsError}
use Rattle.rectangle_pack.specs.Session.{State, IsSession, boxes_of}

module _ {Id B : Type 0} (bin_cmp : B → B → Ordering) where
  -- placements as a session may have them: their numbers rise, each below the next one, and their bins are there
  pub record AreRecorded (bins : List (B × Bin)) (next : ℕ) (outstanding : List (Outstanding Id B)) : Type 0 where
    pub rising : AllPairs (λ a b. a.number < b.number) outstanding
    pub below : All (λ r. r.number < next) outstanding
    pub known : All (λ r. IsSome (lookup (is_at (bin_cmp r.bin)) bins)) outstanding

  -- what is wrong with the first placement that a session may not have: its number is not above that of an earlier one; or it is, but
  -- not below the next number; or it is below it, but the bin is not there
  abbrev pub IsRecordFault : List (B × Bin) → ℕ → List (Outstanding Id B) → RestoreError → Type 0
  IsRecordFault bins next outstanding (NotRising place) =
      (at : At outstanding place) × AreRecorded bins next at.before × Any (λ r. at.one.number ≤ r.number) at.before
  IsRecordFault bins next outstanding (NotBelowNext place) =
      (at : At outstanding place) × AreRecorded bins next at.before × All (λ r. r.number < at.one.number) at.before
      × (next ≤ at.one.number)
  IsRecordFault bins next outstanding (UnknownBin place) =
      (at : At outstanding place) × AreRecorded bins next at.before × All (λ r. r.number < at.one.number) at.before
      × (at.one.number < next) × (lookup (is_at (bin_cmp at.one.bin)) bins ≡ None)
  IsRecordFault bins next outstanding _ = ⊥

module _ {Id B : Type 0} (bin_cmp : B → B → Ordering) (bins : List (B × Bin)) (outstanding : List (Outstanding Id B)) where
  -- the free sections and placements of a bin are all of it: they cover it, and are from straight cuts of it, unless it counts as
  -- coalesced
  abbrev pub IsWholeBin : B × Bin → Type 0
  IsWholeBin entry = IsBinAnswer entry.1.size (not entry.1.coalesced) (boxes_of bin_cmp outstanding entry.0 entry.1) None

  -- what is wrong with the first bin that is not whole, in the order of ids, by the boxes of it: its free sections, and then its
  -- placements
  abbrev pub IsBinFault : RestoreError → Type 0
  IsBinFault (WrongBin place fault) =
      (at : At bins place) × All IsWholeBin at.before × (lookup (is_at (bin_cmp at.one.0)) bins ≡ Some at.one.1)
      × IsBinAnswer at.one.1.size (not at.one.1.coalesced) (boxes_of bin_cmp outstanding at.one.0 at.one.1) (Some fault)
  IsBinFault _ = ⊥

-- the state that parts say
abbrev pub state_of_parts : {Id B A : Type 0} → SessionParts Id B A → State Id B
state_of_parts parts = record { bins = bins_of parts.bins.entries; outstanding = parts.outstanding.items; next = parts.next }

-- what is made of the parts of a session: the session of this state; or what is wrong first: with a placement, or, where all
-- placements are as a session may have them, with a bin; or memory was refused
abbrev pub IsRestored : {Id B : Type 0} → (B → B → Ordering) → State Id B → Result (State Id B) RestoreError → Type 0
IsRestored bin_cmp state (Ok session) = session ≡ state
IsRestored bin_cmp state (Err OutOfMemory) = ⊤
IsRestored bin_cmp state (Err (WrongBin place fault)) =
    AreRecorded bin_cmp state.bins state.next state.outstanding × IsBinFault bin_cmp state.bins state.outstanding (WrongBin place fault)
IsRestored bin_cmp state (Err error) = IsRecordFault bin_cmp state.bins state.next state.outstanding error

-- an error other than want of memory: the state is that of no session
abbrev pub IsNoSession : {Id B : Type 0} → (B → B → Ordering) → State Id B → RestoreError → Type 0
IsNoSession bin_cmp state OutOfMemory = ⊤
IsNoSession bin_cmp state _ = ¬ IsSession bin_cmp state

-- what is made of free sections: a bin of this size that has them; or what is wrong with them, as `IsSectionsAnswer` says it
abbrev pub IsBinOfSections : Size → List Cuboid → Bool → Result Held SectionsError → Type 0
IsBinOfSections size sections coalesced (Ok held) =
    IsSound size sections × (held.bin ≡ record { size = size; sections = sections; coalesced = coalesced })
IsBinOfSections size sections coalesced (Err error) = IsSectionsAnswer size sections (Err error)
