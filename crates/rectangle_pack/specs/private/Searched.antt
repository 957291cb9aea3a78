-- What is found on the way to a packing that is searched for.
use Rattle.std.specs.Prelude.{◌≡◌, ℕ, Bool, false, List, [], All, Option, Some, None, MatchOption, filter, nat_lt, Result, Ok, Err}
use Rattle.std.specs.declared.cmp.Ordering.{Ordering}
use Rattle.std.specs.List.{sum_by}
use Rattle.std.specs.Map.{keys_of}
use Rattle.rectangle_pack_sections.specs.declared.group.Group.{Group}
use Rattle.rectangle_pack_sections.specs.Bins.{Bin}
use Rattle.rectangle_pack_sections.specs.Boxes.{Size}
use Rattle.rectangle_pack_sections.specs.Groups.{Collection}
use Rattle.rectangle_pack_lists.specs.Numbers.{saturated}
use Rattle.rectangle_pack_bounds.specs.declared.turning.Turns.{Turns}
use Rattle.rectangle_pack_packing.specs.declared.answer.Placement.{Placement}
use Rattle.rectangle_pack_packing.specs.declared.answer.RectanglePackOk.{RectanglePackOk}
use Rattle.rectangle_pack_packing.specs.declared.pack.told.Step.{Step}
use Rattle.rectangle_pack_packing.specs.Best.{IsBestBy, IsRefusedWith}
use Rattle.rectangle_pack_packing.specs.Fitting.{names_left}
use Rattle.rectangle_pack_packing.specs.Placed.{AreLastPlacements, placements_of, locations_of}
use Rattle.rectangle_pack_packing.specs.Told.{ToldDone, in_sizes}
use Rattle.rectangle_pack_sections.specs.declared.box_size_heuristics.named.Heuristic.{Heuristic}
use Rattle.rectangle_pack.specs.declared.searching.answer.Searched.{Searched}
use Rattle.rectangle_pack.specs.declared.searching.outlay.Outlay.{Outlay}
use Rattle.rectangle_pack.specs.declared.searching.settling.Rehearsed.{Rehearsed}
use Rattle.rectangle_pack.specs.declared.searching.settling.Settled.{Settled}
use Rattle.rectangle_pack.specs.Needed.{bins_filled}
use Rattle.rectangle_pack.specs.NeededLaws.{AreWaysOf}
use Rattle.rectangle_pack.specs.Searched.{AreNotNamed, GuessesWith, IsBetterOutlay, IsFound, IsSearchAnswer, cost_of, outlay_of}

-- what the bins cost, together, in which cells are counted, and at most the greatest number of 128 bits
abbrev pub cost_by : {B : Type 0} → (B → B → Ordering) → List (B × ℕ) → (B → ℕ) → List (B × Bin) → ℕ
cost_by bin_cmp costs count bins = saturated (sum_by (cost_of bin_cmp costs) (filter (λ id. nat_lt 0 (count id)) (keys_of bins)))

module _ {Id B G : Type 0} (group_cmp : Group G Id → Group G Id → Ordering) (cmp : Id → Id → Ordering) (bin_cmp : B → B → Ordering)
    (all : Collection Id G) where
  module _ (may_leave : Bool) where
    -- nothing may be left, and a packing with this heuristic is refused for space
    abbrev pub IsNoGuess : List (B × Bin) → Heuristic → Type 0
    IsNoGuess old heuristic = (may_leave ≡ false) × IsRefusedWith group_cmp cmp bin_cmp all old heuristic

    -- of the heuristics of the list this is the one with which what fits has the best outlay, the first of those with which it
    -- is as good; or none is a guess
    abbrev pub IsBestGuess : List (B × ℕ) → List (B × Bin) → List Heuristic → Option (Heuristic × Outlay) → Type 0
    IsBestGuess costs old heuristics found =
        MatchOption found (All (IsNoGuess old) heuristics)
        (λ best. IsBestBy (GuessesWith group_cmp cmp bin_cmp all may_leave costs old) IsBetterOutlay heuristics best.0 best.1)

  -- told these steps in these sizes, which are ways of the boxes, a packing is done that leaves these groups, which no step
  -- names, and has this outlay. None is left where nothing may be
  pub record IsRehearsed (may_leave : Bool) (turns : List (Id × Turns)) (costs : List (B × ℕ)) (sizes : List (Id × Size))
      (steps : List (Step Id G B)) (old : List (B × Bin)) (left : List (Group G Id)) (outlay : Outlay) : Type 0 where
    pub ways : AreWaysOf cmp all turns sizes
    pub placements : List (Placement Id B)
    pub new : List (B × Bin)
    pub done : ToldDone group_cmp cmp bin_cmp (in_sizes all sizes) steps old placements new
    pub not_named : AreNotNamed group_cmp all steps left
    pub allowed : may_leave ≡ false → left ≡ []
    pub outlay_is : outlay ≡ outlay_of group_cmp cmp bin_cmp all costs old placements left

  -- what was rehearsed is done and kept, by cases. Done: its steps are, in its sizes; its groups are left, and so many bins
  -- have a box as it says. Where memory is refused the bins are as they were
  abbrev pub IsToldAgain : {A E : Type 0} → Rehearsed Id G B A → List (B × Bin) → Result (Settled Id G B A) E → List (B × Bin) → Type 0
  IsToldAgain it old (Ok settled) new =
      ToldDone group_cmp cmp bin_cmp (in_sizes all it.proposal.sizes.entries) it.proposal.steps.items old (placements_of settled.packed) new
      × AreLastPlacements cmp bin_cmp (placements_of settled.packed) (locations_of settled.packed)
      × (names_left settled.left ≡ names_left it.left) × (settled.used ≡ it.outlay.used)
  IsToldAgain it old (Err error) new = new ≡ old

  module _ (may_leave : Bool) (turns : List (Id × Turns)) (costs : List (B × ℕ)) (old : List (B × Bin)) where
    -- nothing may be left, and with each heuristic that has a name the packing is refused; the bins are as they were
    abbrev pub IsNoneFound : List (B × Bin) → Type 0
    IsNoneFound new = (may_leave ≡ false) × ((heuristic : Heuristic) → IsRefusedWith group_cmp cmp bin_cmp all old heuristic) × (new ≡ old)

    -- what is settled, by cases. A packing: it was searched for (`IsFound`), and where each id was placed last; so many bins
    -- have a box. None: `IsNoneFound`. Where memory is refused the bins are as they were
    abbrev pub AreSettled : {A E : Type 0} → Result (Option (Settled Id G B A)) E → List (B × Bin) → Type 0
    AreSettled (Ok (Some settled)) new =
        IsFound group_cmp cmp bin_cmp all turns may_leave costs old (placements_of settled.packed) (names_left settled.left) new
        × AreLastPlacements cmp bin_cmp (placements_of settled.packed) (locations_of settled.packed)
        × (settled.used ≡ bins_filled bin_cmp (placements_of settled.packed))
    AreSettled (Ok None) new = IsNoneFound new
    AreSettled (Err error) new = new ≡ old

    -- what is found, by cases: a packing, as `IsSearchAnswer` says it; none (`IsNoneFound`); or memory is refused
    abbrev pub AreSearched : {A E : Type 0} → Result (Option (Searched (RectanglePackOk Id B A) (Group G Id) A)) E → List (B × Bin) → Type 0
    AreSearched {A} (Ok (Some found)) new = IsSearchAnswer group_cmp cmp bin_cmp all turns may_leave costs old {A = A} (Ok found) new
    AreSearched (Ok None) new = IsNoneFound new
    AreSearched (Err error) new = new ≡ old
