-- A packing as it is told, on its way: what is seen of it, and what the methods say that make its steps.
use Rattle.std.specs.Prelude.{◌≡◌, ◌<◌, ℕ, Bool, true, false, ◌||◌, List, [], ◌∷◌, ◌++◌, length, All, Option, Some, None, is_some, Result, Ok, Err, slice_index_or}
use Rattle.std.specs.declared.cmp.Ordering.{Ordering}
use Rattle.std.specs.declared.cmp.Ordering.TheVariants.{Equal}
use Rattle.std.specs.declared.vec.Vec.{Vec}
use Rattle.std.specs.Borrow.{Bor}
use Rattle.std.specs.List.{AllZip, list_any}
use Rattle.std.specs.Map.{lookup}
use Rattle.std.specs.BTreeMap.{is_at}
use Rattle.rectangle_pack_sections.specs.declared.group.Group.{Group}
use Rattle.rectangle_pack_sections.specs.declared.box_size_heuristics.named.Heuristic.{Heuristic}
use Rattle.rectangle_pack_sections.specs.Boxes.{Size}
use Rattle.rectangle_pack_sections.specs.Bins.{Bin}
use Rattle.rectangle_pack_sections.specs.Groups.{Collection}
use Rattle.rectangle_pack_packing.specs.declared.answer.Placement.{Placement}
use Rattle.rectangle_pack_packing.specs.declared.answer.RectanglePackOk.{RectanglePackOk}
use Rattle.rectangle_pack_packing.specs.declared.pack.told.Step.{Step}
use Rattle.rectangle_pack_packing.specs.declared.pack.told.StepFault.{StepFault}
use Rattle.rectangle_pack_packing.specs.declared.pack.told.StepFault.TheVariants.{UnknownGroup, UnknownBin, NamedTwice, Excluded, NoRoom}
use Rattle.rectangle_pack_packing.specs.declared.pack.told.ToldError.{ToldError}
use Rattle.rectangle_pack_packing.specs.declared.pack.told.ToldError.TheVariants.{StepRefused, NumbersUsedUp, OutOfMemory}
use Rattle.rectangle_pack_packing.specs.Best.{named_rules}
use Rattle.rectangle_pack_packing.specs.Packing.{Members, IsPlaced, IsStuckIn}
use Rattle.rectangle_pack_packing.specs.Placed.{AreLastPlacements, placements_of, locations_of}
use Rattle.rectangle_pack_packing.specs.Told.{ToldDone, ToldRefused, entries_in_steps}
use Rattle.rectangle_pack_packing.specs.private.BinsAtWork.{BinsInUse}
use Rattle.rectangle_pack_packing.specs.private.Excluded.{KeptHomes, IsHomeKept, are_in, bars, went_to}

-- what is seen of a packing as it is told, on its way: the sizes and the groups of the collection, its bins, the homes
-- that it keeps, the groups that its steps named, and what it placed
pub record ToldOnItsWay (Id K B : Type 0) : Type 0 where
  pub sizes : List (Id × Size)
  pub lists : List (K × List Id)
  pub bins : BinsInUse B
  pub homes : KeptHomes K B
  pub named : List (Bor K)
  pub placements : List (Placement Id B)

-- what it needs: clones of ids and of bin ids equal their originals, each member of a group has a size, and the ids in
-- the order of its bins rise
pub record CanBeTold (IdsEqual BinIdsEqual AreSized DoRise : Type 0) : Type 0 where
  pub ids : IdsEqual
  pub bin_ids : BinIdsEqual
  pub sized : AreSized
  pub rising : DoRise

-- this bin's id stands at this index of the order
pub record IsIndexOf {B : Type 0} (bin_cmp : B → B → Ordering) (order : List (ℕ × B)) (bin : B) (index : ℕ) : Type 0 where
  pub within : index < length order
  pub here : (o : ℕ × B) → o ≡ slice_index_or order index o → bin_cmp bin o.1 ≡ Equal

-- exactly those bins are there whose ids are in the order
abbrev pub NamesAllBins : {B : Type 0} → (B → B → Ordering) → List (ℕ × B) → List (B × Bin) → Type 0
NamesAllBins {B} bin_cmp order bins = (id : B) → is_some (lookup (is_at (bin_cmp id)) bins) ≡ list_any (λ o. is_at (bin_cmp id) o.1) order

module _ {Id K B : Type 0} where
  -- the collection is the same, and so are the bins of the start and their order
  pub record IsSameTelling (old new : ToldOnItsWay Id K B) : Type 0 where
    pub sizes : new.sizes ≡ old.sizes
    pub lists : new.lists ≡ old.lists
    pub start : new.bins.start ≡ old.bins.start
    pub order : new.bins.order ≡ old.bins.order

module _ {Id K B : Type 0} (group_cmp : K → K → Ordering) where
  -- a step named the group
  abbrev pub was_named : ToldOnItsWay Id K B → K → Bool
  was_named telling group = are_in group_cmp telling.named group

module _ {Id K B : Type 0} (group_cmp : K → K → Ordering) (bin_cmp : B → B → Ordering) where
  -- no bin is kept as the home of the group
  abbrev pub HasNoHome : ToldOnItsWay Id K B → K → Type 0
  HasNoHome telling group = (id : B) → went_to group_cmp bin_cmp telling.homes.bins group id ≡ false

  -- a group that no step named has no home
  abbrev pub AreHomesNamed : ToldOnItsWay Id K B → Type 0
  AreHomesNamed telling = (group : K) → was_named group_cmp telling group ≡ false → HasNoHome telling group

  -- a step may be tried: these are the ids of its group, its bin stands at this index of the order, no earlier step
  -- named the group, and the bin is not excluded for it
  pub record MayBeTried (telling : ToldOnItsWay Id K B) (group : K) (bin : B) (ids : List Id) (index : ℕ) : Type 0 where
    pub known : lookup (is_at (group_cmp group)) telling.lists ≡ Some ids
    pub there : IsIndexOf bin_cmp telling.bins.order bin index
    pub fresh : was_named group_cmp telling group ≡ false
    pub allowed : bars group_cmp bin_cmp telling.homes group bin ≡ false

module _ {Id K B : Type 0} (group_cmp : K → K → Ordering) (cmp : Id → Id → Ordering) (bin_cmp : B → B → Ordering) where
  -- these are the members of the group
  pub record AreItsMembers (telling : ToldOnItsWay Id K B) (group : K) (members : Members Id) : Type 0 where
    pub ids : lookup (is_at (group_cmp group)) telling.lists ≡ Some members.ids
    pub sizes : AllZip (λ id size. lookup (is_at (cmp id)) telling.sizes ≡ Some size) members.ids members.sizes

  -- the group is in the collection, and each of its ids has a size
  abbrev pub IsKnown : ToldOnItsWay Id K B → K → Type 0
  IsKnown telling group = (members : Members Id) × AreItsMembers telling group members

  -- the trial of the group is stuck in the bin
  pub record IsStuckThere (group : K) (bin : B) (heuristic : Heuristic) (old : ToldOnItsWay Id K B) : Type 0 where
    pub members : Members Id
    pub are_members : AreItsMembers old group members
    pub tests : ℕ
    pub stuck : IsStuckIn (named_rules cmp bin_cmp heuristic) old.bins.now members bin tests

  -- the group is placed in the bin by one trial, its placements are added, and it is named from then on
  pub record IsPut (group : K) (bin : B) (heuristic : Heuristic) (old new : ToldOnItsWay Id K B) : Type 0 where
    pub members : Members Id
    pub are_members : AreItsMembers old group members
    pub added : List (Placement Id B)
    pub tests : ℕ
    pub placed : IsPlaced (named_rules cmp bin_cmp heuristic) (bars group_cmp bin_cmp old.homes group) (bin ∷ []) members old.bins.now added new.bins.now tests
    pub placements : new.placements ≡ old.placements ++ added
    pub kept : IsHomeKept group_cmp bin_cmp old.homes group bin new.homes
    pub named : (other : K) → was_named group_cmp new other ≡ (was_named group_cmp old other || is_at (group_cmp other) group)

  -- what one trial of a group comes to, by cases. True: it is placed. False: it is stuck
  abbrev pub IsTrialMade : K → B → Heuristic → ToldOnItsWay Id K B → Bool → ToldOnItsWay Id K B → Type 0
  IsTrialMade group bin heuristic old true new = IsPut group bin heuristic old new
  IsTrialMade group bin heuristic old false new = IsStuckThere group bin heuristic old

  -- the step has this fault, and none of those before it (`HasFault`)
  abbrev pub IsFaulty : K → B → Heuristic → ToldOnItsWay Id K B → StepFault → Type 0
  IsFaulty group bin heuristic telling UnknownGroup = lookup (is_at (group_cmp group)) telling.lists ≡ None
  IsFaulty group bin heuristic telling UnknownBin =
      IsKnown telling group × All (λ o. is_at (bin_cmp bin) o.1 ≡ false) telling.bins.order
  IsFaulty group bin heuristic telling NamedTwice =
      IsKnown telling group × ((index : ℕ) × IsIndexOf bin_cmp telling.bins.order bin index) × (was_named group_cmp telling group ≡ true)
  IsFaulty group bin heuristic telling Excluded =
      IsKnown telling group × ((index : ℕ) × IsIndexOf bin_cmp telling.bins.order bin index) × (was_named group_cmp telling group ≡ false)
      × (bars group_cmp bin_cmp telling.homes group bin ≡ true)
  IsFaulty group bin heuristic telling NoRoom =
      (was_named group_cmp telling group ≡ false) × (bars group_cmp bin_cmp telling.homes group bin ≡ false) × IsStuckThere group bin heuristic telling

  -- what is found of a step before its trial, by cases: it may be tried (`MayBeTried`), or it has a fault, whatever its
  -- heuristic is
  abbrev pub IsLookedUp : K → B → ToldOnItsWay Id K B → Result (Bor (List Id) × ℕ) StepFault → Type 0
  IsLookedUp group bin telling (Ok (ids, index)) = MayBeTried group_cmp bin_cmp telling group bin ids.now index
  IsLookedUp group bin telling (Err fault) = (heuristic : Heuristic) → IsFaulty group bin heuristic telling fault

  -- what a step comes to, by cases. No fault: its group is placed, which no earlier step named. Else it has this fault
  abbrev pub IsStepMade : K → B → Heuristic → ToldOnItsWay Id K B → Option StepFault → ToldOnItsWay Id K B → Type 0
  IsStepMade group bin heuristic old None new = (was_named group_cmp old group ≡ false) × IsPut group bin heuristic old new
  IsStepMade group bin heuristic old (Some fault) new = IsFaulty group bin heuristic old fault

-- the collection that it packs
abbrev pub collection_of : {Id B G : Type 0} → ToldOnItsWay Id (Group G Id) B → Collection Id G
collection_of telling = record { sizes = telling.sizes; groups = telling.lists; partners = telling.homes.partners }

-- no step was made yet, and the order of its bins names them all
pub record IsToldBegun {Id K B : Type 0} (bin_cmp : B → B → Ordering) (telling : ToldOnItsWay Id K B) : Type 0 where
  pub homes : telling.homes.bins ≡ []
  pub named : telling.named ≡ []
  pub placements : telling.placements ≡ []
  pub bins : NamesAllBins bin_cmp telling.bins.order telling.bins.now

module _ {Id B G : Type 0} (group_cmp : Group G Id → Group G Id → Ordering) (cmp : Id → Id → Ordering) (bin_cmp : B → B → Ordering)
    (all : Collection Id G) where
  -- what steps come to, by cases. Done: `AreStepsDone`. A step that is refused: `ToldRefused`. Where memory is refused,
  -- nothing is said
  abbrev pub AreStepsMade : List (Step Id G B) → List (B × Bin) → Result (Unit {0}) ToldError → ToldOnItsWay Id (Group G Id) B → Type 0
  AreStepsMade steps old (Ok done) new = ToldDone group_cmp cmp bin_cmp all steps old new.placements new.bins.now
  AreStepsMade steps old (Err (StepRefused index fault)) new = ToldRefused group_cmp cmp bin_cmp all steps old index fault
  AreStepsMade steps old (Err NumbersUsedUp) new = ⊥
  AreStepsMade steps old (Err OutOfMemory) new = Unit {0}

  -- a packing as it is told, from its beginning to its end, by cases. Done: `ToldDone`, with a placement for each entry of
  -- the groups that the steps name, and where it `finds` them, where each id was placed last. A step that is refused:
  -- `ToldRefused`. On each error the bins are as they were
  abbrev pub IsTold : {A : Type 0} → List (Step Id G B) → List (B × Bin) → Bool → Result (RectanglePackOk Id B A) ToldError → List (B × Bin) → Type 0
  IsTold steps old finds (Ok ok) new =
      ToldDone group_cmp cmp bin_cmp all steps old (placements_of ok) new
      × (length (placements_of ok) ≡ entries_in_steps group_cmp all steps)
      × (finds ≡ true → AreLastPlacements cmp bin_cmp (placements_of ok) (locations_of ok))
  IsTold steps old finds (Err (StepRefused index fault)) new = ToldRefused group_cmp cmp bin_cmp all steps old index fault × (new ≡ old)
  IsTold steps old finds (Err NumbersUsedUp) new = ⊥
  IsTold steps old finds (Err OutOfMemory) new = new ≡ old

  -- what was placed as it was told, by cases. Done: `ToldDone`, with a placement for each entry of the groups that the
  -- steps name. A step that is refused: `ToldRefused`. On each error the bins are as they were
  abbrev pub IsTriedAsTold : {A : Type 0} → List (Step Id G B) → List (B × Bin) → Result (Vec (Placement Id B) A) ToldError → List (B × Bin) → Type 0
  IsTriedAsTold steps old (Ok placements) new =
      ToldDone group_cmp cmp bin_cmp all steps old placements.items new
      × (length placements.items ≡ entries_in_steps group_cmp all steps)
  IsTriedAsTold steps old (Err (StepRefused index fault)) new = ToldRefused group_cmp cmp bin_cmp all steps old index fault × (new ≡ old)
  IsTriedAsTold steps old (Err NumbersUsedUp) new = ⊥
  IsTriedAsTold steps old (Err OutOfMemory) new = new ≡ old
