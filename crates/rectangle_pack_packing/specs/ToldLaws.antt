-- What the laws of packings as they are told say.
use Rattle.std.specs.Prelude.{◌≡◌, ℕ, List, AllPairs, false, map, reverse}
use Rattle.std.specs.declared.cmp.Ordering.{Ordering}
use Rattle.std.specs.BTreeMap.{is_at}
use Rattle.std.specs.List.{IsDistinct}
use Rattle.std.specs.Map.{keys_of}
use Rattle.std.specs.Ordering.{eq_by_cmp}
use Rattle.rectangle_pack_sections.specs.declared.box_size_heuristics.named.Heuristic.{Heuristic}
use Rattle.rectangle_pack_sections.specs.declared.group.Group.{Group}
use Rattle.rectangle_pack_sections.specs.Bins.{Bin}
use Rattle.rectangle_pack_sections.specs.Groups.{Collection}
use Rattle.rectangle_pack_packing.specs.declared.answer.Placement.{Placement}
use Rattle.rectangle_pack_packing.specs.declared.pack.told.Step.{Step}
use Rattle.rectangle_pack_packing.specs.declared.pack.told.StepFault.{StepFault}
use Rattle.rectangle_pack_packing.specs.Best.{named_rules}
use Rattle.rectangle_pack_packing.specs.Fitting.{PackingFits}
use Rattle.rectangle_pack_packing.specs.KeptBins.{KeepsEachBin}
use Rattle.rectangle_pack_packing.specs.Packing.{AreKeptApart, PackingDone}
use Rattle.rectangle_pack_packing.specs.Placed.{ArePlacedWhole}
use Rattle.rectangle_pack_packing.specs.Results.{ArePlacementsAlike}
use Rattle.rectangle_pack_packing.specs.Told.{ToldDone, ToldRefused}

-- the group of a step, and its bin
abbrev pub home_of : {Id G B : Type 0} → Step Id G B → Group G Id × B
home_of step = (step.group, step.bin)

-- the step that puts this group into this bin, with this heuristic
abbrev pub step_to : {Id G B : Type 0} → Heuristic → Group G Id × B → Step Id G B
step_to heuristic home = record { group = home.0; bin = home.1; heuristic = heuristic }

module _ {Id B G : Type 0} (group_cmp : Group G Id → Group G Id → Ordering) (cmp : Id → Id → Ordering) (bin_cmp : B → B → Ordering) where
  -- each packing as it is told keeps the cells of each bin (`KeepsEachBin`)
  abbrev pub TellingsKeepCells : Type 0
  TellingsKeepCells =
      (all : Collection Id G) (steps : List (Step Id G B)) (old new : List (B × Bin)) (placements : List (Placement Id B))
      → ToldDone group_cmp cmp bin_cmp all steps old placements new → KeepsEachBin bin_cmp old placements new

  -- each packing as it is told places the groups of its steps whole, in the order of the steps and each in the bin of its
  -- step (`ArePlacedWhole`). No two steps name one group
  pub record TellingsPlaceWhole : Type 0 where
    pub whole : (all : Collection Id G) (steps : List (Step Id G B)) (old new : List (B × Bin)) (placements : List (Placement Id B))
        → ToldDone group_cmp cmp bin_cmp all steps old placements new
        → ArePlacedWhole cmp bin_cmp group_cmp all.sizes all.groups (map home_of steps) placements
    pub once : (all : Collection Id G) (steps : List (Step Id G B)) (old new : List (B × Bin)) (placements : List (Placement Id B))
        → ToldDone group_cmp cmp bin_cmp all steps old placements new
        → AllPairs (λ one later. is_at (group_cmp later.group) one.group ≡ false) steps

  -- groups that are excluded get different bins (`AreKeptApart`), in each packing as it is told
  abbrev pub TellingsKeepApart : Type 0
  TellingsKeepApart =
      (all : Collection Id G) (steps : List (Step Id G B)) (old new : List (B × Bin)) (placements : List (Placement Id B))
      → ToldDone group_cmp cmp bin_cmp all steps old placements new → AreKeptApart group_cmp bin_cmp all.partners (map home_of steps)

  -- a packing that is done with a heuristic that has a name can be told, where the collection lists no group twice: of its
  -- homes, in order, each is a step with this heuristic. Told so, it places the same and leaves the bins the same
  abbrev pub PackingsCanBeTold : Type 0
  PackingsCanBeTold =
      (named : Heuristic) (all : Collection Id G) → IsDistinct (eq_by_cmp group_cmp) (keys_of all.groups)
      → (old new : List (B × Bin)) (placements : List (Placement Id B))
      → (done : PackingDone group_cmp (named_rules cmp bin_cmp named) all old placements new)
      → ToldDone group_cmp cmp bin_cmp all (map (step_to named) (reverse done.homes)) old placements new

  -- what fits with a heuristic that has a name can be told in the same way: of the groups that fit, each is a step
  abbrev pub FittingsCanBeTold : Type 0
  FittingsCanBeTold =
      (named : Heuristic) (all : Collection Id G) → IsDistinct (eq_by_cmp group_cmp) (keys_of all.groups)
      → (old new : List (B × Bin)) (placements : List (Placement Id B)) (left : List (Group G Id))
      → (fits : PackingFits group_cmp (named_rules cmp bin_cmp named) all old placements left new)
      → ToldDone group_cmp cmp bin_cmp all (map (step_to named) (reverse fits.homes)) old placements new

  -- two packings that are told the same steps, of one collection and into the same bins. Where both are done, the bins are
  -- the same and the placements alike. Where both are refused, they are at the same step, for the same reason. Never is
  -- one done and the other refused
  pub record HaveOneTelling (all : Collection Id G) (steps : List (Step Id G B)) (old : List (B × Bin)) : Type 0 where
    pub done : (ps qs : List (Placement Id B)) (m n : List (B × Bin)) → ToldDone group_cmp cmp bin_cmp all steps old ps m
        → ToldDone group_cmp cmp bin_cmp all steps old qs n → (m ≡ n) × ArePlacementsAlike cmp bin_cmp ps qs
    pub refused : (i j : ℕ) (fault other : StepFault) → ToldRefused group_cmp cmp bin_cmp all steps old i fault
        → ToldRefused group_cmp cmp bin_cmp all steps old j other → (i ≡ j) × (fault ≡ other)
    pub not_both : (ps : List (Placement Id B)) (m : List (B × Bin)) (i : ℕ) (fault : StepFault) → ToldDone group_cmp cmp bin_cmp all steps old ps m
        → ToldRefused group_cmp cmp bin_cmp all steps old i fault → ⊥
