-- Sessions: the state of one, what holds of it always, and what each command makes of it. A reply for which `AddsBin`,
-- `Packs`, `Releases` or `Coalesces` has no case never comes.
use Rattle.std.specs.Prelude.{◌≡◌, ◌≢◌, ℕ, ◌+◌, ◌<◌, ◌≤◌, ◌^◌, List, [], ◌∷◌, ◌++◌, length, map, filter, All, AllPairs, Some, None, IsSome, MatchBool, Result}
use Rattle.std.specs.Prelude.{Ok, Err, true, false}
use Rattle.std.specs.declared.cmp.Ordering.{Ordering}
use Rattle.std.specs.declared.cmp.Ordering.TheVariants.{Equal}
use Rattle.std.specs.Map.{lookup, set_value}
use Rattle.std.specs.BTreeMap.{is_at, insert_entry}
use Rattle.rectangle_pack_sections.specs.declared.group.Group.{Group}
use Rattle.rectangle_pack_packing.specs.declared.answer.Placement.{Placement}
use Rattle.rectangle_pack.specs.declared.session.command.Outstanding.{Outstanding}
use Rattle.rectangle_pack.specs.declared.session.command.Packed.{Packed as PackedNumbers}
use Rattle.rectangle_pack.specs.declared.session.command.SessionError.{SessionError}
use Rattle.rectangle_pack.specs.declared.session.command.SessionError.TheVariants.{DuplicateBin, UnknownBin, UnknownPlacement, NumbersUsedUp, NotEnoughBinSpace}
use Rattle.rectangle_pack.specs.declared.session.command.SessionError.TheVariants.{OutOfMemory}
use Rattle.rectangle_pack.specs.declared.session.command.Reply.{Reply}
use Rattle.rectangle_pack.specs.declared.session.command.Reply.TheVariants.{Done, Packed, Refused}
use Rattle.rectangle_pack.specs.declared.session.command.Command.{Command}
use Rattle.rectangle_pack.specs.declared.session.command.Command.TheVariants.{AddBin, Pack, Release, Coalesce, CoalesceAll}
use Rattle.rectangle_pack_sections.specs.Boxes.{Size, Cuboid, has_cells}
use Rattle.rectangle_pack_sections.specs.Bins.{Bin, new_bin, whole}
use Rattle.rectangle_pack_sections.specs.Covering.{CoverBin}
use Rattle.rectangle_pack_sections.specs.CutTrees.{IsFromCuts}
use Rattle.rectangle_pack_lists.specs.Joining.{IsJoined, IsSwept}
use Rattle.rectangle_pack_sections.specs.Groups.{Collection, entries_of}
use Rattle.rectangle_pack_packing.specs.Packing.{Rules, PackingDone, PackingRefused}

-- a session: its bins by id, the outstanding placements in the order of numbers, and the number of the next placement
pub record State (Id B : Type 0) : Type 0 where
  pub bins : List (B × Bin)
  pub outstanding : List (Outstanding Id B)
  pub next : ℕ

-- the boxes that stand in the bin of this id
abbrev pub outstanding_in : {Id B : Type 0} → (B → B → Ordering) → List (Outstanding Id B) → B → List Cuboid
outstanding_in bin_cmp outstanding id = map (λ r. r.location) (filter (λ r. is_at (bin_cmp r.bin) id) outstanding)

-- the boxes of a bin: its free sections, and the boxes that stand in it
abbrev pub boxes_of : {Id B : Type 0} → (B → B → Ordering) → List (Outstanding Id B) → B → Bin → List Cuboid
boxes_of bin_cmp outstanding id bin = bin.sections ++ outstanding_in bin_cmp outstanding id

-- what holds of a session always: the boxes of each bin cover it, so that each cell is in exactly one free section or
-- outstanding placement (`covered`), and while a bin does not count as coalesced, they are from cuts of it
-- (`from_cuts`). The bin of each outstanding placement is there (`known`). The numbers of the outstanding placements
-- rise (`rising`), and each is below the next one (`below`)
pub record IsSession {Id B : Type 0} (bin_cmp : B → B → Ordering) (state : State Id B) : Type 0 where
  pub covered : (id : B) (bin : Bin) → lookup (is_at (bin_cmp id)) state.bins ≡ Some bin
      → CoverBin (boxes_of bin_cmp state.outstanding id bin) bin.size
  pub from_cuts : (id : B) (bin : Bin) → lookup (is_at (bin_cmp id)) state.bins ≡ Some bin → bin.coalesced ≡ false
      → IsFromCuts (boxes_of bin_cmp state.outstanding id bin) (whole bin.size)
  pub known : All (λ r. IsSome (lookup (is_at (bin_cmp r.bin)) state.bins)) state.outstanding
  pub rising : AllPairs (λ a b. a.number < b.number) state.outstanding
  pub below : All (λ r. r.number < state.next) state.outstanding

-- placements, with the numbers n, n + 1, and so on
abbrev pub numbered : {Id B : Type 0} → ℕ → List (Placement Id B) → List (Outstanding Id B)
numbered n [] = []
numbered n (p ∷ ps) = record { number = n; id = p.id; bin = p.bin; location = p.location } ∷ numbered (n + 1) ps

-- a placement of this number is outstanding; the definition names it, and those before and after it
pub record IsOutstanding {Id B : Type 0} (outstanding : List (Outstanding Id B)) (number : ℕ) : Type 0 where
  pub before : List (Outstanding Id B)
  pub found : Outstanding Id B
  pub after : List (Outstanding Id B)
  pub splits : outstanding ≡ before ++ found ∷ after
  pub number_is : found.number ≡ number

-- a box is given back: it stands at the end of the list of its bin. A box without cells changes nothing
abbrev pub GivesBack : {B : Type 0} → (B → B → Ordering) → List (B × Bin) → B → Cuboid → List (B × Bin) → Type 0
GivesBack bin_cmp old id box new =
    MatchBool (has_cells box)
    ((bin : Bin) × (lookup (is_at (bin_cmp id)) old ≡ Some bin)
    × (new ≡ set_value (is_at (bin_cmp id)) old (record bin { sections = bin.sections ++ box ∷ [] })))
    (new ≡ old)

-- a packing that is done and kept. The bins have its lists. Its placements stand behind the outstanding ones, under the
-- next numbers. There is one for each entry, and the next number is greater by as many. The answer has the old next
-- number, and how many placements there are
pub record IsKept {Id B G : Type 0} (group_cmp : Group G Id → Group G Id → Ordering) (rules : Rules Id B)
    (all : Collection Id G) (old : State Id B) (numbers : PackedNumbers) (new : State Id B) : Type 0 where
  pub placements : List (Placement Id B)
  pub done : PackingDone group_cmp rules all old.bins placements new.bins
  pub counted : length placements ≡ entries_of all
  pub first : numbers.first ≡ old.next
  pub count : numbers.count ≡ entries_of all
  pub outstanding : new.outstanding ≡ old.outstanding ++ numbered old.next placements
  pub next : new.next ≡ old.next + entries_of all

module _ {Id B : Type 0} (bin_cmp : B → B → Ordering) where
  -- a bin is added: the id is new, and under a key that equals it stands a new bin; or the id is there; or the reply is
  -- want of memory, and the id is new. What is refused changes nothing
  abbrev pub AddsBin : B → Size → State Id B → Reply → State Id B → Type 0
  AddsBin id size old Done new =
      (lookup (is_at (bin_cmp id)) old.bins ≡ None)
      × (key : B) × (bin_cmp id key ≡ Equal) × (new ≡ record old { bins = insert_entry bin_cmp old.bins key (new_bin size) })
  AddsBin id size old (Refused DuplicateBin) new = IsSome (lookup (is_at (bin_cmp id)) old.bins) × (new ≡ old)
  AddsBin id size old (Refused OutOfMemory) new = (lookup (is_at (bin_cmp id)) old.bins ≡ None) × (new ≡ old)
  AddsBin id size old _ new = ⊥

  -- a placement is released: it is no longer outstanding, and its box is given back; or the number is not outstanding;
  -- or the reply is want of memory, which comes only where the box has cells. What is refused changes nothing
  abbrev pub Releases : ℕ → State Id B → Reply → State Id B → Type 0
  Releases number old Done new =
      (at : IsOutstanding old.outstanding number) × GivesBack bin_cmp old.bins at.found.bin at.found.location new.bins
      × (new.outstanding ≡ at.before ++ at.after) × (new.next ≡ old.next)
  Releases number old (Refused UnknownPlacement) new = All (λ r. r.number ≢ number) old.outstanding × (new ≡ old)
  Releases number old (Refused OutOfMemory) new =
      (at : IsOutstanding old.outstanding number) × (has_cells at.found.location ≡ true) × (new ≡ old)
  Releases number old _ new = ⊥

  -- the free sections of a bin become a list that `MayLeave` allows, and the bin counts as coalesced, also where
  -- nothing was joined; or the id is not there, and nothing changes
  abbrev pub Coalesces : (List Cuboid → List Cuboid → Type 0) → B → State Id B → Reply → State Id B → Type 0
  Coalesces MayLeave id old Done new =
      (bin : Bin) × (lookup (is_at (bin_cmp id)) old.bins ≡ Some bin) × (joined : List Cuboid) × MayLeave bin.sections joined
      × (new ≡ record old { bins = set_value (is_at (bin_cmp id)) old.bins (record bin { sections = joined; coalesced = true }) })
  Coalesces MayLeave id old (Refused UnknownBin) new = (lookup (is_at (bin_cmp id)) old.bins ≡ None) × (new ≡ old)
  Coalesces MayLeave id old _ new = ⊥

module _ {Id B G : Type 0} (group_cmp : Group G Id → Group G Id → Ordering) (rules : Rules Id B) where
  -- a collection is packed: the packing is done and kept, or refused for space, or the reply is want of memory, which
  -- comes only where there is a group. Where the next number and the entries add up to 2^64 or more it is refused
  -- first, so that the greatest number is never given. What is refused changes nothing
  -- Example: from the number 18446744073709551614 a packing of one box is done, and the next number is then
  -- 18446744073709551615. One box more is `NumbersUsedUp`, since 18446744073709551615 + 1 is 2^64
  abbrev pub Packs : Collection Id G → State Id B → Reply → State Id B → Type 0
  Packs all old (Packed numbers) new = (old.next + entries_of all < 2 ^ 64) × IsKept group_cmp rules all old numbers new
  Packs all old (Refused NumbersUsedUp) new = (2 ^ 64 ≤ old.next + entries_of all) × (new ≡ old)
  Packs all old (Refused NotEnoughBinSpace) new =
      (old.next + entries_of all < 2 ^ 64)
      × (left : List (B × Bin)) × PackingRefused group_cmp rules all old.bins left × (new ≡ old)
  Packs all old (Refused OutOfMemory) new = (old.next + entries_of all < 2 ^ 64) × (0 < length all.groups) × (new ≡ old)
  Packs all old _ new = ⊥

  -- a transition of the session: a command in a state, its reply, and the state after it, as `AddsBin`, `Packs`,
  -- `Releases` or `Coalesces` says it of this command. What coalescing leaves of the list is `IsJoined idx lo hi` or
  -- `IsSwept`
  abbrev pub IsTransition : {A : Type 0} → Command Id B G A → State Id B → Reply → State Id B → Type 0
  IsTransition (AddBin id width height depth) old reply new =
      AddsBin rules.bin_cmp id (record { width = width; height = height; depth = depth }) old reply new
  IsTransition (Pack all) old reply new = Packs all old reply new
  IsTransition (Release number) old reply new = Releases rules.bin_cmp number old reply new
  IsTransition (Coalesce id idx lo hi) old reply new = Coalesces rules.bin_cmp (IsJoined idx lo hi) id old reply new
  IsTransition (CoalesceAll id) old reply new = Coalesces rules.bin_cmp IsSwept id old reply new

-- the answer of a call that answers nothing else, as a reply
abbrev pub reply_of : Result (Unit {0}) SessionError → Reply
reply_of (Ok u) = Done
reply_of (Err error) = Refused error

-- the answer of a packing as a reply
abbrev pub packed_reply : Result PackedNumbers SessionError → Reply
packed_reply (Ok numbers) = Packed numbers
packed_reply (Err error) = Refused error

module _ {C R S : Type 0} (Keeps : C → S → R → S → Type 0) where
  -- a run: one reply for each command, and a state after each. `Keeps` holds of each command, the state before it, its
  -- reply and the state after it; `old` is the state before the first, `new` the one after the last. For a run of
  -- transitions `Keeps` is `IsTransition`; for what `run` answers it is `KeepsPromise`
  -- Example: a run from a state without bins. The next number is 0 at first, 1 after Pack p, and 2 after Pack q:
  -- AddBin a 10x10x1: `Done`; a has the list [(0,0,0) 10x10x1].
  -- Pack p 4x10x1: `Packed`, first 0, count 1; p stands at (0,0,0), and a has [(4,0,0) 6x10x1].
  -- Pack q 6x10x1: `Packed`, first 1, count 1; q stands at (4,0,0), and a has [].
  -- Release 0: `Done`; a has [(0,0,0) 4x10x1]. Release 0: `Refused`, `UnknownPlacement`; nothing changes.
  -- Release 1: `Done`; a has [(0,0,0) 4x10x1, (4,0,0) 6x10x1]. Since Pack p its boxes are leaves of Cut x 4 Leaf Leaf.
  -- Coalesce a, 1 over 0..2: `Done`; a has [(0,0,0) 10x10x1], and counts as coalesced
  abbrev pub IsRun : List C → S → List R → S → Type 0
  IsRun [] old [] new = new ≡ old
  IsRun [] old (reply ∷ replies) new = ⊥
  IsRun (command ∷ commands) old [] new = ⊥
  IsRun (command ∷ commands) old (reply ∷ replies) new = (next : S) × Keeps command old reply next × IsRun commands next replies new
