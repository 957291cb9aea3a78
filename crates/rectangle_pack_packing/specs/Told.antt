-- A packing as it is told: a list of steps, each a group, a bin and a heuristic.
use Rattle.std.specs.Prelude.{◌≡◌, ℕ, Bool, true, false, List, [], ◌∷◌, ◌++◌, length, unwrap_or, Any, Some, None, Result, Ok, Err}
use Rattle.std.specs.declared.cmp.Ordering.{Ordering}
use Rattle.std.specs.List.{AllZip, sum_by}
use Rattle.std.specs.Map.{lookup}
use Rattle.std.specs.BTreeMap.{is_at}
use Rattle.rectangle_pack_sections.specs.declared.group.Group.{Group}
use Rattle.rectangle_pack_sections.specs.Bins.{Bin}
use Rattle.rectangle_pack_sections.specs.Boxes.{Size}
use Rattle.rectangle_pack_sections.specs.Groups.{Collection}
use Rattle.rectangle_pack_packing.specs.declared.answer.Placement.{Placement}
use Rattle.rectangle_pack_packing.specs.declared.answer.RectanglePackOk.{RectanglePackOk}
use Rattle.rectangle_pack_packing.specs.declared.pack.told.ToldError.{ToldError}
use Rattle.rectangle_pack_packing.specs.declared.pack.told.ToldError.TheVariants.{StepRefused, NumbersUsedUp, OutOfMemory}
use Rattle.rectangle_pack_packing.specs.declared.pack.told.StepFault.{StepFault}
use Rattle.rectangle_pack_packing.specs.declared.pack.told.StepFault.TheVariants.{UnknownGroup, UnknownBin, NamedTwice, Excluded, NoRoom}
use Rattle.rectangle_pack_packing.specs.declared.pack.told.Step.{Step}
use Rattle.rectangle_pack_packing.specs.Best.{named_rules}
use Rattle.rectangle_pack_packing.specs.Packing.{Members, Stage, at_start, excludes_by, IsPlaced, IsStuckIn}
use Rattle.rectangle_pack_packing.specs.Placed.{AreLastPlacements, placements_of, locations_of}

-- the collection with these sizes in place of its own
-- Example: of one box a 4x9x1 alone, in the sizes a 9x4x1: the same group, of a 9x4x1
abbrev pub in_sizes : {Id G : Type 0} → Collection Id G → List (Id × Size) → Collection Id G
in_sizes all sizes = record all { sizes = sizes }

-- how many entries the groups have that the steps name, one after another
-- Example: of steps that name a group of 2 boxes, a group of 3 and the first again: 7
abbrev pub entries_in_steps : {Id B G : Type 0} → (Group G Id → Group G Id → Ordering) → Collection Id G → List (Step Id G B) → ℕ
entries_in_steps group_cmp all steps = sum_by (λ step. length (unwrap_or (lookup (is_at (group_cmp step.group)) all.groups) [])) steps

module _ {Id B G : Type 0} (group_cmp : Group G Id → Group G Id → Ordering) (cmp : Id → Id → Ordering) (bin_cmp : B → B → Ordering)
    (all : Collection Id G) where
  -- the members of the group of this name: the ids of its list, and the size of each
  pub record AreMembersOf (name : Group G Id) (members : Members Id) : Type 0 where
    pub ids : lookup (is_at (group_cmp name)) all.groups ≡ Some members.ids
    pub sizes : AllZip (λ id size. lookup (is_at (cmp id)) all.sizes ≡ Some size) members.ids members.sizes

  -- an earlier step names the group
  abbrev pub WasNamed : Group G Id → List (Group G Id × B) → Type 0
  WasNamed name homes = Any (λ home. is_at (group_cmp name) home.0 ≡ true) homes

  -- the bin is excluded for the group: a group that is excluded with it went there by an earlier step
  abbrev pub is_excluded : List (Group G Id × B) → Group G Id → B → Bool
  is_excluded homes name id = excludes_by group_cmp bin_cmp all.partners homes name id

  -- the step is done: no earlier step names its group, and that goes whole into the step's bin, which is not excluded for
  -- it, by one trial with the step's heuristic (`IsPlaced`, where the step's bin is the only one)
  pub record IsStepDone (step : Step Id G B) (old : Stage (Group G Id) B) (placements : List (Placement Id B)) (new : List (B × Bin)) : Type 0 where
    pub members : Members Id
    pub known : AreMembersOf step.group members
    pub fresh : ¬ WasNamed step.group old.homes
    pub tests : ℕ
    pub placed : IsPlaced (named_rules cmp bin_cmp step.heuristic) (is_excluded old.homes step.group) (step.bin ∷ []) members old.bins placements new tests

  -- each step in turn is done, in the bins as the steps before it left them. The placements are those of the first step,
  -- then those of the second, and so on
  abbrev pub AreStepsDone : List (Step Id G B) → Stage (Group G Id) B → List (Placement Id B) → Stage (Group G Id) B → Type 0
  AreStepsDone [] old placements new = (placements ≡ []) × (new ≡ old)
  AreStepsDone (step ∷ steps) old placements new =
      (first : List (Placement Id B)) × (next : List (B × Bin)) × (later : List (Placement Id B))
      × (done : IsStepDone step old first next)
      × AreStepsDone steps (record { bins = next; homes = (step.group, step.bin) ∷ old.homes }) later new
      × (placements ≡ first ++ later)

  -- why a step is refused, of which the first that is so is named: its group is not in the collection; its bin is not
  -- there; an earlier step names the group; the bin is excluded for it; its trial is stuck there
  abbrev pub HasFault : Step Id G B → Stage (Group G Id) B → StepFault → Type 0
  HasFault step stage UnknownGroup = lookup (is_at (group_cmp step.group)) all.groups ≡ None
  HasFault step stage UnknownBin = (members : Members Id) × AreMembersOf step.group members × (lookup (is_at (bin_cmp step.bin)) stage.bins ≡ None)
  HasFault step stage NamedTwice =
      (members : Members Id) × (bin : Bin) × AreMembersOf step.group members × (lookup (is_at (bin_cmp step.bin)) stage.bins ≡ Some bin)
      × WasNamed step.group stage.homes
  HasFault step stage Excluded =
      (members : Members Id) × (bin : Bin) × AreMembersOf step.group members × (lookup (is_at (bin_cmp step.bin)) stage.bins ≡ Some bin)
      × (¬ WasNamed step.group stage.homes) × (is_excluded stage.homes step.group step.bin ≡ true)
  HasFault step stage NoRoom =
      (members : Members Id) × (tests : ℕ) × AreMembersOf step.group members × (¬ WasNamed step.group stage.homes)
      × (is_excluded stage.homes step.group step.bin ≡ false)
      × IsStuckIn (named_rules cmp bin_cmp step.heuristic) stage.bins members step.bin tests

  -- a packing as it is told is done: its steps are (`AreStepsDone`). A group that no step names stays out
  -- Example: in the bins P and Q, 10x10x1, the steps (A, Q, `Volume`), (B, Q, `Volume`) of the groups A of a 4x10x1 and B
  -- of b 6x10x1: a is placed at (0,0,0) and b at (4,0,0), both in Q
  pub record ToldDone (steps : List (Step Id G B)) (old : List (B × Bin)) (placements : List (Placement Id B)) (new : List (B × Bin)) : Type 0 where
    pub homes : List (Group G Id × B)
    pub done : AreStepsDone steps (at_start old) placements (record { bins = new; homes = homes })

  -- the step at this index is refused, for this reason: the steps before it are done, and it has the fault (`HasFault`)
  -- Example: of the same steps with A and B excluded: the one at index 1, `Excluded`
  pub record ToldRefused (steps : List (Step Id G B)) (old : List (B × Bin)) (index : ℕ) (fault : StepFault) : Type 0 where
    pub before : List (Step Id G B)
    pub step : Step Id G B
    pub after : List (Step Id G B)
    pub steps_are : steps ≡ before ++ step ∷ after
    pub index_is : index ≡ length before
    pub placements : List (Placement Id B)
    pub stage : Stage (Group G Id) B
    pub done : AreStepsDone before (at_start old) placements stage
    pub refused : HasFault step stage fault

  -- what a packing as it is told answers, by cases. Done: `ToldDone`, and where each id was placed last. A step that is
  -- refused: `ToldRefused`. On each error the bins are as they were. `NumbersUsedUp` is no answer here
  abbrev pub IsToldAnswer : {A : Type 0} → List (Step Id G B) → List (B × Bin) → Result (RectanglePackOk Id B A) ToldError → List (B × Bin) → Type 0
  IsToldAnswer steps old (Ok ok) new =
      ToldDone steps old (placements_of ok) new × AreLastPlacements cmp bin_cmp (placements_of ok) (locations_of ok)
  IsToldAnswer steps old (Err (StepRefused index fault)) new = ToldRefused steps old index fault × (new ≡ old)
  IsToldAnswer steps old (Err NumbersUsedUp) new = ⊥
  IsToldAnswer steps old (Err OutOfMemory) new = new ≡ old
