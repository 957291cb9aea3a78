-- What a session makes of a packing that is searched for.
use Rattle.std.specs.Prelude.{◌≡◌, ℕ, ◌+◌, ◌<◌, ◌≤◌, ◌^◌, Bool, false, List, ◌++◌, length, Result, Ok, Err, ⊤}
use Rattle.std.specs.declared.cmp.Ordering.{Ordering}
use Rattle.rectangle_pack_sections.specs.declared.box_size_heuristics.named.Heuristic.{Heuristic}
use Rattle.rectangle_pack_sections.specs.declared.group.Group.{Group}
use Rattle.rectangle_pack_sections.specs.Boxes.{Size}
use Rattle.rectangle_pack_sections.specs.Groups.{Collection, entries_of}
use Rattle.rectangle_pack_bounds.specs.declared.turning.Turns.{Turns}
use Rattle.rectangle_pack_packing.specs.declared.answer.Placement.{Placement}
use Rattle.rectangle_pack_packing.specs.declared.pack.told.Step.{Step}
use Rattle.rectangle_pack_packing.specs.Best.{IsRefusedWith, named_rules}
use Rattle.rectangle_pack_packing.specs.Fitting.{names_left}
use Rattle.rectangle_pack_packing.specs.Told.{in_sizes}
use Rattle.rectangle_pack.specs.declared.searching.answer.Searched.{Searched}
use Rattle.rectangle_pack.specs.declared.session.command.Packed.{Packed}
use Rattle.rectangle_pack.specs.declared.session.command.SessionError.{SessionError}
use Rattle.rectangle_pack.specs.declared.session.command.SessionError.TheVariants.{NumbersUsedUp, NotEnoughBinSpace, OutOfMemory}
use Rattle.rectangle_pack.specs.NeededLaws.{AreWaysOf}
use Rattle.rectangle_pack.specs.Promise.{NoBinTakes}
use Rattle.rectangle_pack.specs.Searched.{AreCounted, AreNotNamed, IsFound}
use Rattle.rectangle_pack.specs.Session.{State, numbered}
use Rattle.rectangle_pack.specs.SessionTold.{PlacesAsTold}

module _ {Id B G : Type 0} (group_cmp : Group G Id → Group G Id → Ordering) (cmp : Id → Id → Ordering) (bin_cmp : B → B → Ordering)
    (all : Collection Id G) (turns : List (Id × Turns)) (may_leave : Bool) (costs : List (B × ℕ)) where
  -- what was searched for is kept. The bins are as it left them (`IsFound`), and so many are used and needed (`AreCounted`).
  -- Its placements stand behind the outstanding ones, under the next numbers. The answer has the old next number, and how
  -- many placements there are; the next number is greater by as many
  pub record IsSearchKept {A : Type 0} (old : State Id B) (found : Searched Packed (Group G Id) A) (new : State Id B) : Type 0 where
    pub placements : List (Placement Id B)
    pub done : IsFound group_cmp cmp bin_cmp all turns may_leave costs old.bins placements (names_left found.left) new.bins
    pub counted : AreCounted group_cmp cmp bin_cmp all turns may_leave costs old.bins placements (names_left found.left) found.used found.least found.is_optimal
    pub first : found.packed.first ≡ old.next
    pub count : found.packed.count ≡ length placements
    pub outstanding : new.outstanding ≡ old.outstanding ++ numbered old.next placements
    pub next : new.next ≡ old.next + length placements

  -- what a session makes of it, by cases on the answer. A packing: it is kept (`IsSearchKept`). `NumbersUsedUp`: the next
  -- number and the entries of all groups, also of those that would be left, add up to 2^64 or more; of all other answers they
  -- add up to less. `NotEnoughBinSpace`: nothing may be left, and with each heuristic that has a name the packing is refused
  -- (`IsRefusedWith`). `OutOfMemory`: nothing more is said. On each error the state is as it was. No other error comes
  abbrev pub PacksSearched : {A : Type 0} → State Id B → Result (Searched Packed (Group G Id) A) SessionError → State Id B → Type 0
  PacksSearched old (Ok found) new = (old.next + entries_of all < 2 ^ 64) × IsSearchKept old found new
  PacksSearched old (Err NumbersUsedUp) new = (2 ^ 64 ≤ old.next + entries_of all) × (new ≡ old)
  PacksSearched old (Err NotEnoughBinSpace) new =
      (old.next + entries_of all < 2 ^ 64) × (may_leave ≡ false)
      × ((heuristic : Heuristic) → IsRefusedWith group_cmp cmp bin_cmp all old.bins heuristic) × (new ≡ old)
  PacksSearched old (Err OutOfMemory) new = (old.next + entries_of all < 2 ^ 64) × (new ≡ old)
  PacksSearched old (Err _) new = ⊥

  -- the boxes stand in sizes in which they may (`AreWaysOf`), and the placements are those of steps, in these sizes
  -- (`PlacesAsTold`). The groups that are left are those that no step names (`AreNotNamed`)
  pub record PlacesSearched (old : State Id B) (left : List (Group G Id)) (new : State Id B) : Type 0 where
    pub sizes : List (Id × Size)
    pub ways : AreWaysOf cmp all turns sizes
    pub steps : List (Step Id G B)
    pub places : PlacesAsTold group_cmp cmp bin_cmp (in_sizes all sizes) steps old new
    pub not_named : AreNotNamed group_cmp all steps left

  -- what the promise says of it. A packing: `PlacesSearched`. `NotEnoughBinSpace`: `NoBinTakes` with each heuristic that has a
  -- name. Of other errors nothing is said here
  abbrev pub SearchedAsPromised : {A : Type 0} → State Id B → Result (Searched Packed (Group G Id) A) SessionError → State Id B → Type 0
  SearchedAsPromised old (Ok found) new = PlacesSearched old (names_left found.left) new
  SearchedAsPromised old (Err NotEnoughBinSpace) new =
      (heuristic : Heuristic) → NoBinTakes group_cmp (named_rules cmp bin_cmp heuristic) all old.bins
  SearchedAsPromised old (Err _) new = ⊤
