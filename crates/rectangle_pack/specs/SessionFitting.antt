-- What a session makes of a packing of what fits.
use Rattle.std.specs.Prelude.{◌≡◌, ℕ, ◌+◌, ◌<◌, ◌≤◌, ◌^◌, List, ◌∷◌, ◌++◌, length, map, All, IsSome, Result, Ok, Err, ⊤}
use Rattle.std.specs.declared.cmp.Ordering.{Ordering}
use Rattle.std.specs.List.Sorted.{IsPermutation}
use Rattle.std.specs.Map.{lookup, keys_of}
use Rattle.std.specs.BTreeMap.{is_at}
use Rattle.rectangle_pack_sections.specs.declared.box_size_heuristics.named.Heuristic.{Heuristic}
use Rattle.rectangle_pack_sections.specs.declared.group.Group.{Group}
use Rattle.rectangle_pack_sections.specs.Bins.{Bin}
use Rattle.rectangle_pack_sections.specs.Groups.{Collection, entries_of}
use Rattle.rectangle_pack_packing.specs.declared.answer.Fitted.{Fitted}
use Rattle.rectangle_pack_packing.specs.declared.answer.Placement.{Placement}
use Rattle.rectangle_pack_packing.specs.Best.{named_rules}
use Rattle.rectangle_pack_packing.specs.Fitting.{AreTaken, PackingFits, IsBestFit, fit_use_of, names_left}
use Rattle.rectangle_pack_packing.specs.Packing.{Rules, Members, Stage, at_start, excludes_by, DoesNotTake, AreKeptApart}
use Rattle.rectangle_pack_packing.specs.Placed.{ArePlacedWhole}
use Rattle.rectangle_pack.specs.declared.session.command.Packed.{Packed}
use Rattle.rectangle_pack.specs.declared.session.command.SessionError.{SessionError}
use Rattle.rectangle_pack.specs.declared.session.command.SessionError.TheVariants.{NumbersUsedUp, OutOfMemory}
use Rattle.rectangle_pack.specs.Session.{State, numbered}

module _ {Id B G : Type 0} (group_cmp : Group G Id → Group G Id → Ordering) (rules : Rules Id B) where
  -- what fits is kept, and these groups are left. The bins are as the packing left them. Its placements stand behind
  -- the outstanding ones, under the next numbers. The answer has the old next number, and how many placements there
  -- are; the next number is greater by as many
  pub record IsFittingKept (all : Collection Id G) (old : State Id B) (numbers : Packed) (left : List (Group G Id)) (new : State Id B) : Type 0 where
    pub placements : List (Placement Id B)
    pub fits : PackingFits group_cmp rules all old.bins placements left new.bins
    pub first : numbers.first ≡ old.next
    pub count : numbers.count ≡ length placements
    pub outstanding : new.outstanding ≡ old.outstanding ++ numbered old.next placements
    pub next : new.next ≡ old.next + length placements

  -- what a session makes of a packing of what fits, by cases on the answer. Numbers, and groups that are left: what fits
  -- is kept (`IsFittingKept`). `NumbersUsedUp`: the next number and the entries of all groups, also of those that would
  -- be left, add up to 2^64 or more; of all other answers they add up to less. `OutOfMemory`: there is a group. On each
  -- error the state is as it was. No other error comes
  -- Example: a 3x3x1, b 2x2x1 and c 1x1x1 into a new bin 4x4x1, from number 5: a gets 5 and c gets 6, b is left, and the
  -- next number is 7
  abbrev pub PacksFitting : {A : Type 0} → Collection Id G → State Id B → Result (Fitted Packed (Group G Id) A) SessionError → State Id B → Type 0
  PacksFitting all old (Ok fitted) new =
      (old.next + entries_of all < 2 ^ 64) × IsFittingKept all old fitted.packed (names_left fitted.left) new
  PacksFitting all old (Err NumbersUsedUp) new = (2 ^ 64 ≤ old.next + entries_of all) × (new ≡ old)
  PacksFitting all old (Err OutOfMemory) new = (old.next + entries_of all < 2 ^ 64) × (0 < length all.groups) × (new ≡ old)
  PacksFitting all old (Err _) new = ⊥

  -- a group that is left is taken by no bin, at its turn: the groups before it were placed or left (`AreTaken`), and in
  -- the bins as they left them (`turn`) each bin of the session is excluded for it, or its trial is stuck there
  -- (`DoesNotTake`)
  pub record IsTakenNowhere {all : Collection Id G} {old : List (B × Bin)} {placements : List (Placement Id B)} {left : List (Group G Id)}
      {new : List (B × Bin)} (fits : PackingFits group_cmp rules all old placements left new) (group : Group G Id) : Type 0 where
    pub before : List (Group G Id × Members Id)
    pub members : Members Id
    pub after : List (Group G Id × Members Id)
    pub groups_are : fits.groups ≡ before ++ (group, members) ∷ after
    pub placed : List (Placement Id B)
    pub passed : List (Group G Id)
    pub turn : Stage (Group G Id) B
    pub tests : ℕ
    pub taken : AreTaken rules (excludes_by group_cmp rules.bin_cmp all.partners) (map (λ o. o.1) fits.bin_order) before (at_start old) placed passed turn tests
    pub each : (id : B) → IsSome (lookup (is_at (rules.bin_cmp id)) old)
        → (count : ℕ) × DoesNotTake rules (excludes_by group_cmp rules.bin_cmp all.partners turn.homes group) turn.bins members id count

  -- the new placements place every entry of each group that is placed, once, in its size, each group in one bin. The
  -- groups that have homes and those that are left are together the groups of the collection, each once. The placements
  -- are those of one group after another, all of a group in its home (`ArePlacedWhole`). Groups that are excluded have
  -- different homes (`AreKeptApart`). The placements stand behind the outstanding ones, under the next numbers. They are
  -- what fits (`PackingFits`), and each group that is left is taken by no bin (`IsTakenNowhere`)
  -- Example: the boxes a 2x1x1 and b 1x1x1 into a bin 2x1x1: the one home is that bin, for Ungrouped(a), and Ungrouped(b)
  -- is left
  pub record PlacesWhatFits (all : Collection Id G) (old : State Id B) (left : List (Group G Id)) (new : State Id B) : Type 0 where
    pub placements : List (Placement Id B)
    pub outstanding : new.outstanding ≡ old.outstanding ++ numbered old.next placements
    pub homes : List (Group G Id × B)
    pub groups : IsPermutation (keys_of all.groups) (map (λ home. home.0) homes ++ left)
    pub whole : ArePlacedWhole rules.id_cmp rules.bin_cmp group_cmp all.sizes all.groups homes placements
    pub apart : AreKeptApart group_cmp rules.bin_cmp all.partners homes
    pub fits : PackingFits group_cmp rules all old.bins placements left new.bins
    pub nowhere : All (IsTakenNowhere fits) left

  -- of a packing of what fits: where it answers numbers and groups that are left, `PlacesWhatFits`. Of errors nothing is
  -- said here
  abbrev pub FitsAsPromised : {A : Type 0} → Collection Id G → State Id B → Result (Fitted Packed (Group G Id) A) SessionError → State Id B → Type 0
  FitsAsPromised all old (Ok fitted) new = PlacesWhatFits all old (names_left fitted.left) new
  FitsAsPromised all old (Err error) new = ⊤

module _ {Id B G : Type 0} (group_cmp : Group G Id → Group G Id → Ordering) (cmp : Id → Id → Ordering) (bin_cmp : B → B → Ordering) where
  -- what a session makes of a packing of what fits with the best of several heuristics, by cases on the answer. A
  -- heuristic, numbers, and groups that are left: what fits with this heuristic is kept (`IsFittingKept`), and this is the
  -- best of the list (`IsBestFit`); what stood in the bins before does not count. Errors come as in `PacksFitting`
  -- Example: a 6x6x1 and b 10x5x1 into a new bin 10x10x1 by the best of [`Volume`, `Height`]: `Volume`, with which a is
  -- left, 36 cells. With `Height` b would be left, 50 cells
  abbrev pub PacksFittingBest : {A : Type 0} → List Heuristic → Collection Id G → State Id B
      → Result (Heuristic × Fitted Packed (Group G Id) A) SessionError → State Id B → Type 0
  PacksFittingBest heuristics all old (Ok (best, fitted)) new =
      (old.next + entries_of all < 2 ^ 64)
      × (kept : IsFittingKept group_cmp (named_rules cmp bin_cmp best) all old fitted.packed (names_left fitted.left) new)
      × IsBestFit group_cmp cmp bin_cmp all old.bins heuristics best
      (fit_use_of group_cmp cmp bin_cmp all old.bins kept.placements (names_left fitted.left))
  PacksFittingBest heuristics all old (Err NumbersUsedUp) new = (2 ^ 64 ≤ old.next + entries_of all) × (new ≡ old)
  PacksFittingBest heuristics all old (Err OutOfMemory) new = (old.next + entries_of all < 2 ^ 64) × (0 < length all.groups) × (new ≡ old)
  PacksFittingBest heuristics all old (Err _) new = ⊥

  -- what the promise says of it. A heuristic, numbers, and groups that are left: `PlacesWhatFits`. Of errors nothing is
  -- said here
  abbrev pub FitsBestAsPromised : {A : Type 0} → Collection Id G → State Id B → Result (Heuristic × Fitted Packed (Group G Id) A) SessionError
      → State Id B → Type 0
  FitsBestAsPromised all old (Ok (best, fitted)) new =
      PlacesWhatFits group_cmp (named_rules cmp bin_cmp best) all old (names_left fitted.left) new
  FitsBestAsPromised all old (Err error) new = ⊤
