-- Packing as it is told, for C: the steps, which of them is refused, and what is written of the boxes.
use Rattle.std.specs.Prelude.{◌≡◌, ◌==◌, ◌⊎◌, ◌||◌, ⊤, ℕ, ◌+◌, ◌<◌, ◌≤◌, ◌^◌, Bool, not, if◌then◌else◌, nat_lt, nat_le, List, length, filter, count_by}
use Rattle.std.specs.Prelude.{Contains, Option, Some, slice_get, Result, Ok, Err}
use Rattle.std.specs.List.{AllZip, list_any}
use Rattle.std.specs.Map.{keys_of}
use Rattle.std.specs.Ordering.{nat_cmp}
use Rattle.rectangle_pack_packing.specs.declared.pack.told.Step.{Step}
use Rattle.rectangle_pack_packing.specs.declared.pack.told.StepFault.{StepFault}
use Rattle.rectangle_pack_packing.specs.declared.pack.told.StepFault.TheVariants.{UnknownGroup, UnknownBin, NamedTwice, Excluded, NoRoom}
use Rattle.rectangle_pack_packing.specs.declared.pack.told.ToldError.{ToldError}
use Rattle.rectangle_pack_packing.specs.declared.pack.told.ToldError.TheVariants.{StepRefused, NumbersUsedUp, OutOfMemory}
use Rattle.rectangle_pack_packing.specs.Told.{ToldRefused, entries_in_steps}
use Rattle.rectangle_pack.specs.declared.grouped_rects_to_place.Group.{Group}
use Rattle.rectangle_pack.specs.declared.session.command.Packed.{Packed}
use Rattle.rectangle_pack.specs.Bins.{Bin}
use Rattle.rectangle_pack.specs.Groups.{Collection}
use Rattle.rectangle_pack.specs.Searched.{is_named}
use Rattle.rectangle_pack.specs.Session.{State, IsSession}
use Rattle.rectangle_pack.specs.SessionTold.{PacksAsTold, ToldAsPromised}
use Rattle.rectangle_pack_c.specs.declared.RpBin.{RpBin}
use Rattle.rectangle_pack_c.specs.declared.RpBox.{RpBox}
use Rattle.rectangle_pack_c.specs.declared.RpPlacement.{RpPlacement}
use Rattle.rectangle_pack_c.specs.declared.collection.RpCollection.{RpCollection}
use Rattle.rectangle_pack_c.specs.declared.collection.RpExclusion.{RpExclusion}
use Rattle.rectangle_pack_c.specs.declared.session.RpOutstanding.{RpOutstanding}
use Rattle.rectangle_pack_c.specs.declared.telling.RpRefused.{RpRefused}
use Rattle.rectangle_pack_c.specs.declared.telling.RpStep.{RpStep}
use Rattle.rectangle_pack_c.specs.Answers.{Stands}
use Rattle.rectangle_pack_c.specs.Collections.{IsCollected, are_as_many, group_of, group_order}
use Rattle.rectangle_pack_c.specs.Fitting.{AreFittedNow, IsPlaced, left_placement, number_says_left, session_with}
use Rattle.rectangle_pack_c.specs.Heuristics.{all_heuristics, heuristic_number}

-- whether a heuristic has this number. `RP_BEST` is the number of none
abbrev pub is_heuristic : ℕ → Bool
is_heuristic number = list_any (λ h. heuristic_number h == number) all_heuristics

-- the first thing that is wrong with the arguments of a packing as it is told, as a status, or 0: there are more or fewer
-- placements than boxes and members, or 2^32 or more (`RP_BAD_LENGTHS`); the heuristic of a step is unknown
-- (`RP_UNKNOWN_HEURISTIC`); a member names no box, or a step's index is not below the number of boxes and members
-- (`RP_UNKNOWN_BOX`); a group is excluded with itself (`RP_EQUAL_GROUPS`)
-- Example: of two boxes, one member and three placements: 0 for a step of index 2 with `RP_HEIGHT`; `RP_UNKNOWN_HEURISTIC`
-- for one with `RP_BEST`; `RP_UNKNOWN_BOX` for one of index 3
abbrev pub told_fault_of : RpCollection → List RpStep → (placement_count : ℕ) → ℕ
told_fault_of c steps placement_count =
    if not (are_as_many c placement_count) then 3 else (
    if list_any (λ s. not (is_heuristic s.heuristic)) steps then 10 else (
    if list_any (λ m. nat_le (length c.boxes.now) m.index) c.members.now || list_any (λ s. nat_le placement_count s.index) steps then 11 else (
    if list_any (λ e. e.one == e.other) c.exclusions.now then 12 else 0)))

-- the same where they are packed into these bins: it is looked at first whether there are fewer than 2^32 of them
abbrev pub told_fault_in : List RpBin → RpCollection → List RpStep → (placement_count : ℕ) → ℕ
told_fault_in bins c steps placement_count = if nat_lt (length bins) (2 ^ 32) then told_fault_of c steps placement_count else 3

-- the step that a C caller gives so: its group is that of the box, or of the member, at its index; its bin has this number
-- as its id; its heuristic is the one of this number
-- Example: of three boxes, the last one in group 4: the index 2, the bin 7 and `RP_WIDTH` are (Grouped 4, 7, `Width`)
pub record IsStep (boxes : List RpBox) (told : RpStep) (step : Step ℕ ℕ ℕ) : Type 0 where
  pub box : RpBox
  pub at : slice_get boxes told.index ≡ Some box
  pub group : step.group ≡ group_of told.index box
  pub bin : step.bin ≡ told.bin
  pub heuristic : told.heuristic ≡ heuristic_number step.heuristic

-- the steps that a C caller gives so, one by one
abbrev pub AreSteps : List RpBox → List RpStep → List (Step ℕ ℕ ℕ) → Type 0
AreSteps boxes told steps = AllZip (IsStep boxes) told steps

-- the groups of a collection that no step names
abbrev pub not_named : Collection ℕ ℕ → List (Step ℕ ℕ ℕ) → List (Group ℕ ℕ)
not_named all steps = filter (λ group. not (is_named group_order steps group)) (keys_of all.groups)

-- why a step is refused, by its number in the header. `UnknownGroup` has none
abbrev pub step_fault : StepFault → ℕ
step_fault UnknownGroup = 0
step_fault UnknownBin = 1
step_fault NamedTwice = 2
step_fault Excluded = 3
step_fault NoRoom = 4

-- these steps are packed into the session, with the collection of the boxes, as `PacksAsTold` and `ToldAsPromised` say it.
-- `not_named all named` are the groups that are left
pub record TellsCollection (boxes : List RpBox) (exclusions : List RpExclusion) (steps : List RpStep) (old new : State ℕ ℕ) : Type 0 where
  pub all : Collection ℕ ℕ
  pub collected : IsCollected boxes exclusions all
  pub named : List (Step ℕ ℕ ℕ)
  pub are : AreSteps boxes steps named
  pub numbers : Packed
  pub packed : PacksAsTold group_order nat_cmp nat_cmp all named old (Ok numbers) new
  pub promised : ToldAsPromised group_order nat_cmp nat_cmp all named old (Ok numbers) new

-- of these steps the one at the index that is written is the first that is refused in these bins, for the reason whose
-- number is written (`ToldRefused`). The number is that of a reason in the header
-- Example: the boxes 6x6x1 and 5x5x1, each alone, are both told into the bin 0, 10x10x1: the step 1, `RP_STEP_NO_ROOM`
pub record RefusesStep (boxes : List RpBox) (exclusions : List RpExclusion) (steps : List RpStep) (bins : List (ℕ × Bin)) (refused : RpRefused) : Type 0 where
  pub all : Collection ℕ ℕ
  pub collected : IsCollected boxes exclusions all
  pub named : List (Step ℕ ℕ ℕ)
  pub are : AreSteps boxes steps named
  pub fault : StepFault
  pub number : refused.fault ≡ step_fault fault
  pub has_number : 0 < refused.fault
  pub first : ToldRefused group_order nat_cmp nat_cmp all named bins refused.step fault

-- the next number of the session, and the entries of the groups that these steps name, add up to 2^64 or more
pub record UsesNumbersUp (boxes : List RpBox) (exclusions : List RpExclusion) (steps : List RpStep) (old : State ℕ ℕ) : Type 0 where
  pub all : Collection ℕ ℕ
  pub collected : IsCollected boxes exclusions all
  pub named : List (Step ℕ ℕ ℕ)
  pub are : AreSteps boxes steps named
  pub many : 2 ^ 64 ≤ old.next + entries_in_steps group_order all named

-- what is written of a step that is refused
abbrev pub refused_as : ℕ → StepFault → RpRefused
refused_as index fault = record { step = index; fault = step_fault fault }

-- a packing as it is told that is refused leaves the session as it was. `StepRefused`: the step at this index is the first
-- that is refused (`RefusesStep`). `NumbersUsedUp`: `UsesNumbersUp`
abbrev pub RefusesTelling : List RpBox → List RpExclusion → List RpStep → State ℕ ℕ → ToldError → State ℕ ℕ → Type 0
RefusesTelling boxes exclusions steps old (StepRefused index fault) new =
    RefusesStep boxes exclusions steps old.bins (refused_as index fault) × (new ≡ old)
RefusesTelling boxes exclusions steps old NumbersUsedUp new = UsesNumbersUp boxes exclusions steps old × (new ≡ old)
RefusesTelling boxes exclusions steps old OutOfMemory new = new ≡ old

-- the status of a refusal
abbrev pub error_status : ToldError → ℕ
error_status (StepRefused index fault) = 20
error_status NumbersUsedUp = 7
error_status OutOfMemory = 2

-- where a step is refused, it is written, and why
abbrev pub IsRefusalWritten : ToldError → RpRefused → Type 0
IsRefusalWritten (StepRefused index fault) refused = refused ≡ refused_as index fault
IsRefusalWritten error refused = ⊤

-- the status of an answer
abbrev pub told_status : Result Packed ToldError → ℕ
told_status (Ok numbers) = 0
told_status (Err error) = error_status error

-- the collection is packed into the session as it is told, or nothing is, by cases. Numbers: it is packed
-- (`TellsCollection`), and what is written says where each box is, or that it is left (`AreFittedNow`). Refused:
-- `RefusesTelling`, and a step that is refused is written (`IsRefusalWritten`)
abbrev pub TellsInto : List RpBox → List RpExclusion → List RpStep → List RpOutstanding → RpRefused → State ℕ ℕ → Result Packed ToldError → State ℕ ℕ → Type 0
TellsInto boxes exclusions steps placements refused old (Ok numbers) new =
    (tells : TellsCollection boxes exclusions steps old new)
    × AreFittedNow boxes placements (not_named tells.all tells.named) (count_by number_says_left placements) old new
TellsInto boxes exclusions steps placements refused old (Err error) new =
    RefusesTelling boxes exclusions steps old error new × IsRefusalWritten error refused

-- the handle has a session before the call and after it. There is an answer with which it may have been changed so
-- (`TellsInto`), and the status is that of this answer. Of the session after the call holds what always holds
-- (`IsSession`)
pub record TellsSession (boxes : List RpBox) (exclusions : List RpExclusion) (steps : List RpStep) (placements : List RpOutstanding) (refused : RpRefused)
    (old : Option (State ℕ ℕ)) (status : ℕ) (new : Option (State ℕ ℕ)) : Type 0 where
  pub before : State ℕ ℕ
  pub after : State ℕ ℕ
  pub answer : Result Packed ToldError
  pub had : old ≡ Some before
  pub has : new ≡ Some after
  pub status_is : status ≡ told_status answer
  pub changed : TellsInto boxes exclusions steps placements refused before answer after
  pub always : IsSession nat_cmp after

-- these steps are packed into a new session with these bins (`TellsCollection`). Each box is placed there (`IsPlaced`), or
-- no step names its group and its placement says that it is left
-- Example: the boxes 6x6x1 and 4x4x1, each alone, and the step (0, 1, `RP_VOLUME`): the first is in bin 1, the second left
pub record TellsNewBins (bins : List RpBin) (boxes : List RpBox) (exclusions : List RpExclusion) (steps : List RpStep)
    (placements : List RpPlacement) : Type 0 where
  pub after : State ℕ ℕ
  pub tells : TellsCollection boxes exclusions steps (session_with bins) after
  pub each : (i : ℕ) (b : RpBox) (p : RpPlacement) → Stands boxes placements i b p
      → IsPlaced (not_named tells.all tells.named) after i b p ⊎ (Contains (not_named tells.all tells.named) (group_of i b) × (p ≡ left_placement))
