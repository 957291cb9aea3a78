-- What a session makes of a packing as it is told.
use Rattle.std.specs.Prelude.{◌≡◌, ◌+◌, ◌<◌, ◌≤◌, ◌^◌, List, ◌++◌, length, map, AllPairs, false, Result, Ok, Err, ⊤}
use Rattle.std.specs.declared.cmp.Ordering.{Ordering}
use Rattle.std.specs.BTreeMap.{is_at}
use Rattle.rectangle_pack_sections.specs.declared.group.Group.{Group}
use Rattle.rectangle_pack_sections.specs.Groups.{Collection}
use Rattle.rectangle_pack_packing.specs.declared.answer.Placement.{Placement}
use Rattle.rectangle_pack_packing.specs.declared.pack.told.Step.{Step}
use Rattle.rectangle_pack_packing.specs.declared.pack.told.ToldError.{ToldError}
use Rattle.rectangle_pack_packing.specs.declared.pack.told.ToldError.TheVariants.{StepRefused, NumbersUsedUp, OutOfMemory}
use Rattle.rectangle_pack_packing.specs.Packing.{AreKeptApart}
use Rattle.rectangle_pack_packing.specs.Placed.{ArePlacedWhole}
use Rattle.rectangle_pack_packing.specs.Told.{ToldDone, ToldRefused, entries_in_steps}
use Rattle.rectangle_pack_packing.specs.ToldLaws.{home_of}
use Rattle.rectangle_pack.specs.declared.session.command.Packed.{Packed}
use Rattle.rectangle_pack.specs.Session.{State, numbered}

module _ {Id B G : Type 0} (group_cmp : Group G Id → Group G Id → Ordering) (cmp : Id → Id → Ordering) (bin_cmp : B → B → Ordering) where
  -- a packing as it is told is done and kept. The bins are as its steps left them. Its placements stand behind the
  -- outstanding ones, under the next numbers. There is one for each entry of the groups that the steps name, and the
  -- next number is greater by as many. The answer has the old next number, and how many placements there are
  pub record IsToldKept (all : Collection Id G) (steps : List (Step Id G B)) (old : State Id B) (numbers : Packed) (new : State Id B) : Type 0 where
    pub placements : List (Placement Id B)
    pub done : ToldDone group_cmp cmp bin_cmp all steps old.bins placements new.bins
    pub counted : length placements ≡ entries_in_steps group_cmp all steps
    pub first : numbers.first ≡ old.next
    pub count : numbers.count ≡ entries_in_steps group_cmp all steps
    pub outstanding : new.outstanding ≡ old.outstanding ++ numbered old.next placements
    pub next : new.next ≡ old.next + entries_in_steps group_cmp all steps

  -- what a session makes of a packing as it is told, by cases on the answer. Numbers: it is done and kept
  -- (`IsToldKept`). `NumbersUsedUp`: the next number and the entries of the groups that the steps name add up to 2^64 or
  -- more; of all other answers they add up to less. `StepRefused`: the step at this index is the first that is refused,
  -- for this reason (`ToldRefused`). `OutOfMemory`: there is a step. On each error the state is as it was
  -- Example: a session with the bins P and Q, 10x10x1, and the next number 7, is told (A, Q, `Volume`), (B, Q, `Volume`)
  -- of the groups A of a 4x10x1 and B of b 6x10x1: a gets 7 and b gets 8, both in Q, and the next number is 9
  abbrev pub PacksAsTold : Collection Id G → List (Step Id G B) → State Id B → Result Packed ToldError → State Id B → Type 0
  PacksAsTold all steps old (Ok numbers) new =
      (old.next + entries_in_steps group_cmp all steps < 2 ^ 64) × IsToldKept all steps old numbers new
  PacksAsTold all steps old (Err NumbersUsedUp) new =
      (2 ^ 64 ≤ old.next + entries_in_steps group_cmp all steps) × (new ≡ old)
  PacksAsTold all steps old (Err (StepRefused index fault)) new =
      (old.next + entries_in_steps group_cmp all steps < 2 ^ 64)
      × ToldRefused group_cmp cmp bin_cmp all steps old.bins index fault × (new ≡ old)
  PacksAsTold all steps old (Err OutOfMemory) new =
      (old.next + entries_in_steps group_cmp all steps < 2 ^ 64) × (0 < length steps) × (new ≡ old)

  -- the new placements place every entry of each group that a step names, once, in its size, all in the bin of the step:
  -- they are those of one step after another (`ArePlacedWhole`). No two steps name one group, and groups that are
  -- excluded are in different bins (`AreKeptApart`). The placements stand behind the outstanding ones, under the next
  -- numbers
  pub record PlacesAsTold (all : Collection Id G) (steps : List (Step Id G B)) (old new : State Id B) : Type 0 where
    pub placements : List (Placement Id B)
    pub outstanding : new.outstanding ≡ old.outstanding ++ numbered old.next placements
    pub whole : ArePlacedWhole cmp bin_cmp group_cmp all.sizes all.groups (map home_of steps) placements
    pub once : AllPairs (λ one later. is_at (group_cmp later.group) one.group ≡ false) steps
    pub apart : AreKeptApart group_cmp bin_cmp all.partners (map home_of steps)

  -- of a packing as it is told: where it answers numbers, `PlacesAsTold`. Of errors nothing is said here
  abbrev pub ToldAsPromised : Collection Id G → List (Step Id G B) → State Id B → Result Packed ToldError → State Id B → Type 0
  ToldAsPromised all steps old (Ok numbers) new = PlacesAsTold all steps old new
  ToldAsPromised all steps old (Err error) new = ⊤
