-- One packing: each group whole into the first bin that takes it, of the bins that are not excluded for it.
use Rattle.std.specs.Prelude.{◌≡◌, ℕ, ◌+◌, ◌<◌, Bool, false, ◌&&◌, List, [], ◌∷◌, ◌++◌, length, map, sum, Some, IsSomeAnd, MatchBool, AllPairs, true}
use Rattle.std.specs.declared.cmp.Ordering.{Ordering}
use Rattle.std.specs.List.{AllZip, list_any}
use Rattle.std.specs.Map.{lookup, set_value}
use Rattle.std.specs.BTreeMap.{is_at}
use Rattle.rectangle_pack_sections.specs.declared.group.Group.{Group}
use Rattle.rectangle_pack_packing.specs.declared.answer.Placement.{Placement}
use Rattle.rectangle_pack_sections.specs.Boxes.{Size, Cuboid}
use Rattle.rectangle_pack_sections.specs.Bins.{Bin}
use Rattle.rectangle_pack_sections.specs.Closures.{Answers}
use Rattle.rectangle_pack_sections.specs.Exclusions.{are_excluded}
use Rattle.rectangle_pack_sections.specs.Groups.{Collection}
use Rattle.rectangle_pack_packing.specs.Orders.{IsGroupOrder, IsBinOrder}
use Rattle.rectangle_pack_packing.specs.Placed.{AreNamed}
use Rattle.rectangle_pack_lists.specs.Steps.{IsDone, IsStuck}

-- a group as a trial sees it: its ids in order, and their sizes
pub record Members (Id : Type 0) : Type 0 where
  pub ids : List Id
  pub sizes : List Size

-- what a packing goes by: the orders of ids and of bins, and what the closures may answer (`Answers`)
pub record Rules (Id B : Type 0) : Type 1 where
  pub id_cmp : Id → Id → Ordering
  pub bin_cmp : B → B → Ordering
  pub may : Answers

-- the rules of these orders and answers
abbrev pub rules_by : {Id B : Type 0} → (Id → Id → Ordering) → (B → B → Ordering) → Answers → Rules Id B
rules_by cmp bin_cmp may = record { id_cmp = cmp; bin_cmp = bin_cmp; may = may }

-- how far a packing is: `bins`, as they are now, and `homes`, the bin of each group that it placed, the last group
-- first
pub record Stage (K B : Type 0) : Type 0 where
  pub bins : List (B × Bin)
  pub homes : List (K × B)

-- a packing before its first group: no group has a bin yet
abbrev pub at_start : {K B : Type 0} → List (B × Bin) → Stage K B
at_start bins = record { bins = bins; homes = [] }

-- whether the bin of this id is excluded for the group: a group that is excluded with it went there earlier in the same
-- packing
-- Example: A and B are excluded, and A went to P: P is excluded for B
abbrev pub excludes_by : {K B : Type 0} → (K → K → Ordering) → (B → B → Ordering) → List (K × List K) → List (K × B) → K → B → Bool
excludes_by group_cmp bin_cmp partners homes group id =
    list_any (λ home. are_excluded group_cmp partners group home.0 && is_at (bin_cmp id) home.1) homes

-- where two groups of `homes` are excluded, their bins differ
abbrev pub AreKeptApart : {K B : Type 0} → (K → K → Ordering) → (B → B → Ordering) → List (K × List K) → List (K × B) → Type 0
AreKeptApart group_cmp bin_cmp partners homes =
    AllPairs (λ a b. are_excluded group_cmp partners a.0 b.0 ≡ true → is_at (bin_cmp a.1) b.1 ≡ false) homes

-- no bin is excluded for any group
abbrev pub excludes_none : {K B : Type 0} → List (K × B) → K → B → Bool
excludes_none homes group id = false

-- the groups that an order names: of each its name, the ids of its list, and their sizes
pub record AreGroups {Id K : Type 0} (cmp : Id → Id → Ordering) (group_cmp : K → K → Ordering)
    (sizes : List (Id × Size)) (lists : List (K × List Id)) (order : List (ℕ × K)) (groups : List (K × Members Id)) : Type 0 where
  pub each : AllZip (λ entry group. (group.0 ≡ entry.1) × (lookup (is_at (group_cmp entry.1)) lists ≡ Some group.1.ids)
      × AllZip (λ id size. lookup (is_at (cmp id)) sizes ≡ Some size) group.1.ids group.1.sizes) order groups

module _ {Id B : Type 0} (rules : Rules Id B) where
  -- the bin of this id is in the map, and the group's trial is stuck in its list, with `tests` fit tests
  abbrev pub IsStuckIn : List (B × Bin) → Members Id → B → ℕ → Type 0
  IsStuckIn bins group id tests =
      IsSomeAnd (lookup (is_at (rules.bin_cmp id)) bins) (λ (bin : Bin). IsStuck rules.may bin.sections group.sizes tests)

  -- the bin does not take the group: it is excluded, and then nothing is tested, or the group's trial is stuck in it
  abbrev pub DoesNotTake : (B → Bool) → List (B × Bin) → Members Id → B → ℕ → Type 0
  DoesNotTake excluded bins group id tests = MatchBool (excluded id) (tests ≡ 0) (IsStuckIn bins group id tests)

  -- the group is placed: some bin of the order, `here`, is not excluded, and the group's trial is done in it
  -- (`IsDone`); no bin before it in the order takes the group (`DoesNotTake`). The bin `here` gets the trial's list;
  -- the other bins, and all ids and sizes, stay. The tests are those of the trials in the bins before that are not
  -- excluded, and of the one in `here`
  pub record IsPlaced (excluded : B → Bool) (order : List B) (group : Members Id)
      (old : List (B × Bin)) (placements : List (Placement Id B)) (new : List (B × Bin)) (tests : ℕ) : Type 0 where
    pub before : List B
    pub here : B
    pub after : List B
    pub order_is : order ≡ before ++ here ∷ after
    pub counts : List ℕ
    pub passed : AllZip (DoesNotTake excluded old group) before counts
    pub allowed : excluded here ≡ false
    pub bin : Bin
    pub found : lookup (is_at (rules.bin_cmp here)) old ≡ Some bin
    pub last : List Cuboid
    pub locations : List Cuboid
    pub count : ℕ
    pub done : IsDone rules.may bin.sections group.sizes locations last count
    pub named : AreNamed rules.id_cmp rules.bin_cmp group.ids here locations placements
    pub new_is : new ≡ set_value (is_at (rules.bin_cmp here)) old (record bin { sections = last })
    pub tests_are : tests ≡ sum counts + count

  -- the group is refused: no bin of the order takes it (`DoesNotTake`). The tests are those of the trials in the bins
  -- that are not excluded
  pub record IsRefused (excluded : B → Bool) (order : List B) (group : Members Id) (bins : List (B × Bin)) (tests : ℕ) : Type 0 where
    pub counts : List ℕ
    pub passed : AllZip (DoesNotTake excluded bins group) order counts
    pub tests_are : tests ≡ sum counts

  module _ {K : Type 0} (excludes : List (K × B) → K → B → Bool) where
    -- each group in turn is placed (`IsPlaced`), in the bins as the groups before it left them. The placements are
    -- those of the first group, then those of the second, and so on; the tests are the sum of theirs
    abbrev pub AreAllPlaced : List B → List (K × Members Id) → Stage K B → List (Placement Id B) → Stage K B → ℕ → Type 0
    AreAllPlaced order [] old placements new tests = (placements ≡ []) × (new ≡ old) × (tests ≡ 0)
    AreAllPlaced order (g ∷ gs) old placements new tests =
        (first : List (Placement Id B)) × (next : List (B × Bin)) × (one : ℕ) × (later : List (Placement Id B)) × (others : ℕ)
        × (placed : IsPlaced (excludes old.homes g.0) order g.1 old.bins first next one)
        × AreAllPlaced order gs (record { bins = next; homes = (g.0, placed.here) ∷ old.homes }) later new others
        × (placements ≡ first ++ later) × (tests ≡ one + others)

    -- the groups at the beginning are placed (`AreAllPlaced`), and the next group is refused in the bins as these left
    -- them (`IsRefused`). The tests are those of all these groups
    pub record StopsAfter (order : List B) (groups : List (K × Members Id)) (old new : List (B × Bin)) (tests : ℕ) : Type 0 where
      pub beginning : List (K × Members Id)
      pub next : K × Members Id
      pub later : List (K × Members Id)
      pub groups_are : groups ≡ beginning ++ next ∷ later
      pub placements : List (Placement Id B)
      pub homes : List (K × B)
      pub first : ℕ
      pub placed : AreAllPlaced order beginning (at_start old) placements (record { bins = new; homes = homes }) first
      pub count : ℕ
      pub refused : IsRefused (excludes homes next.0) order next.1 new count
      pub tests_are : tests ≡ first + count

module _ {Id B G : Type 0} (group_cmp : Group G Id → Group G Id → Ordering) (rules : Rules Id B) where
  -- a packing that is done: by one group order and one bin order each group is placed. `excludes` says which bins are
  -- excluded for a group, by the homes of the groups before it. Without groups no bin is asked for a rate, nothing is
  -- placed and nothing changes
  pub record PackingDoneBy (excludes : List (Group G Id × B) → Group G Id → B → Bool)
      (all : Collection Id G) (old : List (B × Bin)) (placements : List (Placement Id B)) (new : List (B × Bin)) : Type 0 where
    pub group_order : List (ℕ × Group G Id)
    pub bin_order : List (ℕ × B)
    pub groups : List (Group G Id × Members Id)
    pub by_groups : IsGroupOrder rules.may.rate group_cmp rules.id_cmp all.sizes all.groups group_order
    pub by_bins : 0 < length groups → IsBinOrder rules.may.rate rules.bin_cmp old bin_order
    pub listed : AreGroups rules.id_cmp group_cmp all.sizes all.groups group_order groups
    pub homes : List (Group G Id × B)
    pub tests : ℕ
    pub placed : AreAllPlaced rules excludes (map (λ o. o.1) bin_order) groups (at_start old) placements (record { bins = new; homes = homes }) tests

  -- a packing that is refused: by one group order and one bin order some groups are placed and the next one is refused
  -- (`StopsAfter`). The bins are as the placed groups left them
  pub record PackingRefusedBy (excludes : List (Group G Id × B) → Group G Id → B → Bool)
      (all : Collection Id G) (old new : List (B × Bin)) : Type 0 where
    pub group_order : List (ℕ × Group G Id)
    pub bin_order : List (ℕ × B)
    pub groups : List (Group G Id × Members Id)
    pub by_groups : IsGroupOrder rules.may.rate group_cmp rules.id_cmp all.sizes all.groups group_order
    pub by_bins : IsBinOrder rules.may.rate rules.bin_cmp old bin_order
    pub listed : AreGroups rules.id_cmp group_cmp all.sizes all.groups group_order groups
    pub tests : ℕ
    pub stops : StopsAfter rules excludes (map (λ o. o.1) bin_order) groups old new tests

  -- a packing is done (`PackingDoneBy`), where the collection's excluded pairs exclude bins (`excludes_by`)
  -- Example: into the bins P and Q, 10x10x1, the groups A of p 4x4x1 and B of q 4x4x1, which are excluded. Keys are
  -- equal, so A goes before B and P before Q. A is done in P, and B in Q, each at (0,0,0) with 1 test
  abbrev pub PackingDone : Collection Id G → List (B × Bin) → List (Placement Id B) → List (B × Bin) → Type 0
  PackingDone all old placements new = PackingDoneBy (excludes_by group_cmp rules.bin_cmp all.partners) all old placements new

  -- a packing is refused (`PackingRefusedBy`): no bin takes some group, where the collection's excluded pairs exclude
  -- bins (`excludes_by`)
  -- Example: the same groups into P alone: A is done there, and then every bin is excluded for B. The one test is A's
  abbrev pub PackingRefused : Collection Id G → List (B × Bin) → List (B × Bin) → Type 0
  PackingRefused all old new = PackingRefusedBy (excludes_by group_cmp rules.bin_cmp all.partners) all old new
