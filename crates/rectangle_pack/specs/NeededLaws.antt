-- What the laws of the bins that a collection needs say, over any rules: those of two closures (`rules_by`, `answers`), or
-- those of a heuristic that has a name (`named_rules`).
use Rattle.std.specs.Prelude.{◌≡◌, ℕ, ◌≤◌, true, List, [], All, Any, Contains, Some}
use Rattle.std.specs.declared.cmp.Ordering.{Ordering}
use Rattle.std.specs.BTreeMap.{is_at}
use Rattle.std.specs.List.{IsDistinct}
use Rattle.std.specs.Map.{lookup, keys_of}
use Rattle.std.specs.Ordering.{eq_by_cmp}
use Rattle.rectangle_pack_sections.specs.declared.group.Group.{Group}
use Rattle.rectangle_pack_sections.specs.Bins.{Bin, IsSound}
use Rattle.rectangle_pack_sections.specs.Boxes.{Size}
use Rattle.rectangle_pack_sections.specs.Groups.{Collection}
use Rattle.rectangle_pack_bounds.specs.declared.turning.Turns.{Turns}
use Rattle.rectangle_pack_bounds.specs.Arrangements.{Put, bins_used}
use Rattle.rectangle_pack_bounds.specs.Turning.{ways}
use Rattle.rectangle_pack_packing.specs.declared.answer.Placement.{Placement}
use Rattle.rectangle_pack_packing.specs.declared.pack.told.Step.{Step}
use Rattle.rectangle_pack_packing.specs.Fitting.{PackingFits}
use Rattle.rectangle_pack_packing.specs.Packing.{Rules, PackingDone}
use Rattle.rectangle_pack_packing.specs.Told.{ToldDone, in_sizes}
use Rattle.rectangle_pack.specs.declared.session.command.Packed.{Packed as PackedNumbers}
use Rattle.rectangle_pack.specs.Needed.{IsArrangementOf, AreNeededFor, AreArranged, bins_filled, box_of}
use Rattle.rectangle_pack.specs.Session.{State, IsSession, IsKept}

-- each bin is sound: its free sections are inside it, and no two of them share a cell
abbrev pub AreSound : {B : Type 0} → (B → B → Ordering) → List (B × Bin) → Type 0
AreSound {B} bin_cmp bins = (id : B) (bin : Bin) → lookup (is_at (bin_cmp id)) bins ≡ Some bin → IsSound bin.size bin.sections

module _ {Id B G : Type 0} (group_cmp : Group G Id → Group G Id → Ordering) (rules : Rules Id B) where
  -- each packing that is done of a collection that lists no group twice, into sound bins, is an arrangement of the
  -- collection, however its boxes may be turned (`AreArranged`)
  abbrev pub PackingsAreArrangements : Type 0
  PackingsAreArrangements =
      (all : Collection Id G) (turns : List (Id × Turns)) (old new : List (B × Bin)) (placements : List (Placement Id B))
      → IsDistinct (eq_by_cmp group_cmp) (keys_of all.groups) → AreSound rules.bin_cmp old
      → PackingDone group_cmp rules all old placements new
      → AreArranged group_cmp rules.id_cmp rules.bin_cmp all turns old placements

  -- the same of what fits of a collection, where no group is left
  abbrev pub FittingsAreArrangements : Type 0
  FittingsAreArrangements =
      (all : Collection Id G) (turns : List (Id × Turns)) (old new : List (B × Bin)) (placements : List (Placement Id B))
      → IsDistinct (eq_by_cmp group_cmp) (keys_of all.groups) → AreSound rules.bin_cmp old
      → PackingFits group_cmp rules all old placements [] new
      → AreArranged group_cmp rules.id_cmp rules.bin_cmp all turns old placements

  -- the same of each packing that a session keeps: the bins of a session are sound
  abbrev pub KeptPackingsAreArrangements : Type 0
  KeptPackingsAreArrangements =
      (all : Collection Id G) (turns : List (Id × Turns)) (old new : State Id B) (numbers : PackedNumbers)
      → IsDistinct (eq_by_cmp group_cmp) (keys_of all.groups) → IsSession rules.bin_cmp old
      → (kept : IsKept group_cmp rules all old numbers new)
      → AreArranged group_cmp rules.id_cmp rules.bin_cmp all turns old.bins kept.placements

-- placements with the fewest bins: they are an arrangement of the collection, and no arrangement of it uses fewer bins
-- Example: Ungrouped(1) and Ungrouped(2), each 6x1x1, placed in two bins of 10x1x1
pub record UseFewestBins {Id B G : Type 0} (group_cmp : Group G Id → Group G Id → Ordering) (cmp : Id → Id → Ordering) (bin_cmp : B → B → Ordering)
    (all : Collection Id G) (turns : List (Id × Turns)) (bins : List (B × Bin)) (placements : List (Placement Id B)) : Type 0 where
  pub arranged : AreArranged group_cmp cmp bin_cmp all turns bins placements
  pub fewest : (puts : List (Put (Group G Id × Id) B)) → IsArrangementOf group_cmp cmp bin_cmp all turns bins puts
      → bins_filled bin_cmp placements ≤ bins_used bin_cmp puts

module _ {Id B G : Type 0} (group_cmp : Group G Id → Group G Id → Ordering) (rules : Rules Id B) where
  -- where such a packing fills no more bins than are needed, it uses the fewest bins (`UseFewestBins`)
  abbrev pub FewestBinsAreUsed : Type 0
  FewestBinsAreUsed =
      (all : Collection Id G) (turns : List (Id × Turns)) (old new : List (B × Bin)) (placements : List (Placement Id B)) (least : ℕ)
      → IsDistinct (eq_by_cmp group_cmp) (keys_of all.groups) → AreSound rules.bin_cmp old
      → PackingDone group_cmp rules all old placements new
      → AreNeededFor group_cmp rules.id_cmp rules.bin_cmp all turns old (Some least)
      → bins_filled rules.bin_cmp placements ≤ least
      → UseFewestBins group_cmp rules.id_cmp rules.bin_cmp all turns old placements

-- the sizes are ways of the boxes: each id that has one has a size in which its box may stand, by `turns`
-- Example: of 1, which is 4x9x1 and may be turned about z: 4x9x1 or 9x4x1
abbrev pub AreWaysOf : {Id G : Type 0} → (Id → Id → Ordering) → Collection Id G → List (Id × Turns) → List (Id × Size) → Type 0
AreWaysOf {Id} cmp all turns sizes =
    (id : Id) (size : Size) → lookup (is_at (cmp id)) sizes ≡ Some size → Contains (ways (box_of cmp all.sizes turns id)) size

-- each group of the collection is named by a step
-- Example: of the groups A and B, steps that name B and then A; steps that name B alone do not name all
abbrev pub NameAll : {Id B G : Type 0} → (Group G Id → Group G Id → Ordering) → Collection Id G → List (Step Id G B) → Type 0
NameAll group_cmp all steps =
    All (λ name. Any (λ step. is_at (group_cmp name) step.group ≡ true) steps) (keys_of all.groups)

module _ {Id B G : Type 0} (group_cmp : Group G Id → Group G Id → Ordering) (cmp : Id → Id → Ordering) (bin_cmp : B → B → Ordering) where
  -- each packing as it is told whose steps name all groups, of a collection that lists no group twice, in sizes that are
  -- ways of its boxes, into sound bins, is an arrangement of the collection (`AreArranged`)
  abbrev pub ToldPackingsAreArrangements : Type 0
  ToldPackingsAreArrangements =
      (all : Collection Id G) (turns : List (Id × Turns)) (sizes : List (Id × Size))
      (steps : List (Step Id G B)) (old new : List (B × Bin)) (placements : List (Placement Id B))
      → IsDistinct (eq_by_cmp group_cmp) (keys_of all.groups) → AreSound bin_cmp old
      → AreWaysOf cmp all turns sizes → NameAll group_cmp all steps
      → ToldDone group_cmp cmp bin_cmp (in_sizes all sizes) steps old placements new
      → AreArranged group_cmp cmp bin_cmp all turns old placements

  -- in its own sizes a collection is as it is, and these are ways of its boxes, however they may be turned
  abbrev pub OwnSizesAreWays : Type 0
  OwnSizesAreWays =
      (all : Collection Id G) (turns : List (Id × Turns)) → (in_sizes all all.sizes ≡ all) × AreWaysOf cmp all turns all.sizes

  -- where such a packing fills no more bins than are needed, it uses the fewest bins (`UseFewestBins`)
  abbrev pub ToldFewestBinsAreUsed : Type 0
  ToldFewestBinsAreUsed =
      (all : Collection Id G) (turns : List (Id × Turns)) (sizes : List (Id × Size))
      (steps : List (Step Id G B)) (old new : List (B × Bin)) (placements : List (Placement Id B)) (least : ℕ)
      → IsDistinct (eq_by_cmp group_cmp) (keys_of all.groups) → AreSound bin_cmp old
      → AreWaysOf cmp all turns sizes → NameAll group_cmp all steps
      → ToldDone group_cmp cmp bin_cmp (in_sizes all sizes) steps old placements new
      → AreNeededFor group_cmp cmp bin_cmp all turns old (Some least)
      → bins_filled bin_cmp placements ≤ least
      → UseFewestBins group_cmp cmp bin_cmp all turns old placements
