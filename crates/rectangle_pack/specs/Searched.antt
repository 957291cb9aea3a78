-- A packing that was searched for: it is told, step by step, and no packing by a heuristic that has a name is better.
use Rattle.std.specs.Prelude.{◌≡◌, ℕ, ◌<◌, ◌≤◌, ◌⊎◌, ◌↔◌, Bool, false, true, List, [], ◌++◌, All, filter, nat_lt, unwrap_or, Option, IsSomeAnd, IsTrue, Result, Ok, Err}
use Rattle.std.specs.declared.cmp.Ordering.{Ordering}
use Rattle.std.specs.BTreeMap.{is_at}
use Rattle.std.specs.List.{list_any, sum_by}
use Rattle.std.specs.List.Sorted.{IsPermutation}
use Rattle.std.specs.Map.{lookup, keys_of}
use Rattle.rectangle_pack_sections.specs.declared.box_size_heuristics.named.Heuristic.{Heuristic}
use Rattle.rectangle_pack_sections.specs.declared.group.Group.{Group}
use Rattle.rectangle_pack_sections.specs.Bins.{Bin}
use Rattle.rectangle_pack_sections.specs.Boxes.{Size}
use Rattle.rectangle_pack_sections.specs.Groups.{Collection}
use Rattle.rectangle_pack_lists.specs.Numbers.{saturated}
use Rattle.rectangle_pack_bounds.specs.declared.turning.Turns.{Turns}
use Rattle.rectangle_pack_packing.specs.declared.answer.Placement.{Placement}
use Rattle.rectangle_pack_packing.specs.declared.answer.RectanglePackOk.{RectanglePackOk}
use Rattle.rectangle_pack_packing.specs.declared.answer.RectanglePackError.{RectanglePackError}
use Rattle.rectangle_pack_packing.specs.declared.answer.RectanglePackError.TheVariants.{NotEnoughBinSpace, OutOfMemory}
use Rattle.rectangle_pack_packing.specs.declared.pack.told.Step.{Step}
use Rattle.rectangle_pack_packing.specs.Best.{IsBetterUse, IsRefusedWith, cells_placed_in, named_rules, use_of}
use Rattle.rectangle_pack_packing.specs.Fitting.{PackingFits, cells_in_groups, names_left}
use Rattle.rectangle_pack_packing.specs.Placed.{AreLastPlacements, placements_of, locations_of}
use Rattle.rectangle_pack_packing.specs.Told.{ToldDone, in_sizes}
use Rattle.rectangle_pack.specs.declared.searching.outlay.Outlay.{Outlay}
use Rattle.rectangle_pack.specs.declared.searching.answer.Searched.{Searched}
use Rattle.rectangle_pack.specs.Needed.{IsShownFor, AreNeededFor, bins_filled}
use Rattle.rectangle_pack.specs.NeededLaws.{AreWaysOf}

module _ {B : Type 0} (bin_cmp : B → B → Ordering) where
  -- what it costs to use a bin: 1 where nothing is said of it
  -- Example: where 5 is said of P: 5 for P, and 1 for Q
  abbrev pub cost_of : List (B × ℕ) → B → ℕ
  cost_of costs id = unwrap_or (lookup (is_at (bin_cmp id)) costs) 1

  -- the bins that get cells, in the order of ids
  abbrev pub bins_with_cells : {Id : Type 0} → List (Placement Id B) → List (B × Bin) → List B
  bins_with_cells placements bins = filter (λ id. nat_lt 0 (cells_placed_in bin_cmp placements id)) (keys_of bins)

  -- what the bins cost that get cells, together, and at most the greatest number of 128 bits
  abbrev pub cost_made : {Id : Type 0} → List (B × ℕ) → List (Placement Id B) → List (B × Bin) → ℕ
  cost_made costs placements bins = saturated (sum_by (cost_of costs) (bins_with_cells placements bins))

-- one outlay is better than the other: fewer cells are left, or as many and the bins cost less, or as much and the use of
-- the bins is better (`IsBetterUse`)
-- Example: 0 cells left, cost 5, 2 bins is better than 0 cells left, cost 6, 1 bin
abbrev pub IsBetterOutlay : Outlay → Outlay → Type 0
IsBetterOutlay one other =
    (one.left < other.left)
    ⊎ ((one.left ≡ other.left) × ((one.cost < other.cost) ⊎ ((one.cost ≡ other.cost) × IsBetterUse one.made other.made)))

-- whether a step names the group
abbrev pub is_named : {Id B G : Type 0} → (Group G Id → Group G Id → Ordering) → List (Step Id G B) → Group G Id → Bool
is_named group_cmp steps name = list_any (λ step. is_at (group_cmp name) step.group) steps

-- no step names the groups that are left, and steps name all other groups of the collection (`named`). None stands twice
-- Example: of the groups A, B and C, steps that name B: A and C are left
pub record AreNotNamed {Id B G : Type 0} (group_cmp : Group G Id → Group G Id → Ordering) (all : Collection Id G)
    (steps : List (Step Id G B)) (left : List (Group G Id)) : Type 0 where
  pub named : List (Group G Id)
  pub groups : IsPermutation (keys_of all.groups) (named ++ left)
  pub some : All (λ name. is_named group_cmp steps name ≡ true) named
  pub none : All (λ name. is_named group_cmp steps name ≡ false) left

module _ {Id B G : Type 0} (group_cmp : Group G Id → Group G Id → Ordering) (cmp : Id → Id → Ordering) (bin_cmp : B → B → Ordering)
    (all : Collection Id G) where
  -- the outlay of a packing: the cells of the groups that are left, what the bins cost, the use that is made of them, and
  -- how many have a box
  abbrev pub outlay_of : List (B × ℕ) → List (B × Bin) → List (Placement Id B) → List (Group G Id) → Outlay
  outlay_of costs bins placements left = record {
    left = cells_in_groups cmp group_cmp all left;
    cost = cost_made bin_cmp costs placements bins;
    made = use_of bin_cmp placements bins;
    used = bins_filled bin_cmp placements;
  }

  module _ (may_leave : Bool) (costs : List (B × ℕ)) (old : List (B × Bin)) where
    -- so much fits with this heuristic (`PackingFits`), and this is the outlay. Where nothing may be left, it counts only
    -- where no group is
    pub record GuessesWith (heuristic : Heuristic) (outlay : Outlay) : Type 0 where
      pub placements : List (Placement Id B)
      pub left : List (Group G Id)
      pub new : List (B × Bin)
      pub fits : PackingFits group_cmp (named_rules cmp bin_cmp heuristic) all old placements left new
      pub allowed : may_leave ≡ false → left ≡ []
      pub outlay_is : outlay ≡ outlay_of costs old placements left

    -- with no heuristic that has a name what fits has a better outlay
    abbrev pub IsNoWorseThanGuesses : Outlay → Type 0
    IsNoWorseThanGuesses outlay = (heuristic : Heuristic) (other : Outlay) → GuessesWith heuristic other → ¬ IsBetterOutlay other outlay

  module _ (turns : List (Id × Turns)) (may_leave : Bool) (costs : List (B × ℕ)) (old : List (B × Bin)) where
    -- a packing that was searched for. Each box has a size in which it may stand (`sizes`, `ways`). In these sizes there are
    -- steps, and told so the packing is done (`done`). The groups that are left are those that no step names, and none is
    -- where nothing may be left. No packing with a heuristic has a better outlay
    -- Example: a 4x9x1, which may be turned about z, and b 9x6x1 into a bin 9x10x1: a stands as 9x4x1, and nothing is left
    pub record IsFound (placements : List (Placement Id B)) (left : List (Group G Id)) (new : List (B × Bin)) : Type 0 where
      pub sizes : List (Id × Size)
      pub ways : AreWaysOf cmp all turns sizes
      pub steps : List (Step Id G B)
      pub done : ToldDone group_cmp cmp bin_cmp (in_sizes all sizes) steps old placements new
      pub not_named : AreNotNamed group_cmp all steps left
      pub allowed : may_leave ≡ false → left ≡ []
      pub no_worse : IsNoWorseThanGuesses may_leave costs old (outlay_of costs old placements left)

    -- what is said of the number of bins: `used` bins have a box. So many are needed, as `least` says (`IsShownFor`,
    -- `AreNeededFor`). The packing is optimal exactly where no group is left and no more bins are used than are needed
    -- Example: of Ungrouped(1) and Ungrouped(2), each 6x1x1, in two bins of 10x1x1: 2 are used, 2 needed, and that is optimal
    pub record AreCounted (placements : List (Placement Id B)) (left : List (Group G Id)) (used : ℕ) (least : Option ℕ) (is_optimal : Bool) : Type 0 where
      pub used_are : used ≡ bins_filled bin_cmp placements
      pub shown : IsShownFor group_cmp cmp bin_cmp all turns old least
      pub needed : AreNeededFor group_cmp cmp bin_cmp all turns old least
      pub optimal : IsTrue is_optimal ↔ ((left ≡ []) × IsSomeAnd least (λ n. used ≤ n))

    -- what a search answers, by cases. Done: what was found (`IsFound`) and where each id was placed last, and how many bins
    -- these are (`AreCounted`). `NotEnoughBinSpace`: nothing may be left, and with each heuristic that has a name the packing
    -- is refused (`IsRefusedWith`). On either error the bins are as they were
    abbrev pub IsSearchAnswer : {A : Type 0} → Result (Searched (RectanglePackOk Id B A) (Group G Id) A) RectanglePackError → List (B × Bin) → Type 0
    IsSearchAnswer (Ok found) new =
        IsFound (placements_of found.packed) (names_left found.left) new
        × AreLastPlacements cmp bin_cmp (placements_of found.packed) (locations_of found.packed)
        × AreCounted (placements_of found.packed) (names_left found.left) found.used found.least found.is_optimal
    IsSearchAnswer (Err NotEnoughBinSpace) new =
        (may_leave ≡ false) × ((heuristic : Heuristic) → IsRefusedWith group_cmp cmp bin_cmp all old heuristic) × (new ≡ old)
    IsSearchAnswer (Err OutOfMemory) new = new ≡ old
