-- Which of several packings uses the bins best.
use Rattle.std.specs.Prelude.{◌≡◌, ℕ, ◌-◌, ◌<◌, ◌⊎◌, ◌∷◌, ◌++◌, List, All, length, map, filter, nat_lt, slice_index_or, Result, Ok, Err}
use Rattle.std.specs.declared.cmp.Ordering.{Ordering}
use Rattle.std.specs.Map.{keys_of}
use Rattle.rectangle_pack_sections.specs.declared.box_size_heuristics.named.Heuristic.{Heuristic}
use Rattle.rectangle_pack_sections.specs.Bins.{Bin}
use Rattle.rectangle_pack_sections.specs.Counting.{total_volume}
use Rattle.rectangle_pack_sections.specs.Heuristics.{named_answers}
use Rattle.rectangle_pack_sections.specs.declared.group.Group.{Group}
use Rattle.rectangle_pack_sections.specs.Groups.{Collection}
use Rattle.rectangle_pack_lists.specs.Numbers.{saturated}
use Rattle.rectangle_pack_packing.specs.declared.answer.Placement.{Placement}
use Rattle.rectangle_pack_packing.specs.declared.answer.RectanglePackOk.{RectanglePackOk}
use Rattle.rectangle_pack_packing.specs.declared.answer.RectanglePackError.{RectanglePackError}
use Rattle.rectangle_pack_packing.specs.declared.answer.RectanglePackError.TheVariants.{NotEnoughBinSpace, OutOfMemory}
use Rattle.rectangle_pack_packing.specs.declared.uses.Use.{Use}
use Rattle.rectangle_pack_packing.specs.KeptBins.{locations_in}
use Rattle.rectangle_pack_packing.specs.Packing.{Rules, rules_by, PackingDone, PackingRefused}
use Rattle.rectangle_pack_packing.specs.PackAnswers.{IsPacked}
use Rattle.rectangle_pack_packing.specs.Placed.{placements_of}

-- what packings are compared by: the use of a packing that places `counts` cells in the bins that get some, in the
-- order of ids. It says how many bins these are, and how many cells are in the last of them, which is 0 where there is
-- none
abbrev pub use_by : List ℕ → Use
use_by counts = record { bins = length counts; last = slice_index_or counts (length counts - 1) 0 }

-- one use is better than the other: of fewer bins, or of as many and with fewer cells in the last one
-- Example: 1 bin, 12 cells is better than 2 bins, 3 cells; 2 bins, 9 cells is better than 2 bins, 12 cells
abbrev pub IsBetterUse : Use → Use → Type 0
IsBetterUse one other = (one.bins < other.bins) ⊎ ((one.bins ≡ other.bins) × (one.last < other.last))

module _ {Id B : Type 0} (bin_cmp : B → B → Ordering) where
  -- the volumes of the boxes that are placed in the bin of this id, added up, and at most the greatest number of 128
  -- bits
  abbrev pub cells_placed_in : List (Placement Id B) → B → ℕ
  cells_placed_in placements id = saturated (total_volume (locations_in bin_cmp placements id))

  -- the use that the placements make of the bins, which are listed in the order of ids. Boxes without cells do not
  -- count, and neither does what stood in the bins before
  abbrev pub use_of : List (Placement Id B) → List (B × Bin) → Use
  use_of placements bins = use_by (filter (nat_lt 0) (map (cells_placed_in placements) (keys_of bins)))

-- what a packing with the heuristic of this name goes by: its rates, and the order of `contains_smallest_box` by them
-- (`named_answers`)
abbrev pub named_rules : {Id B : Type 0} → (Id → Id → Ordering) → (B → B → Ordering) → Heuristic → Rules Id B
named_rules cmp bin_cmp heuristic = rules_by cmp bin_cmp (named_answers heuristic)

-- with the heuristic `best` of the list this is made (`Makes`). What is made with a heuristic before it in the list is
-- worse; with one after it nothing better is made. So the first of those that are as good is the best
pub record IsBestBy {M : Type 0} (Makes : Heuristic → M → Type 0) (IsBetter : M → M → Type 0) (heuristics : List Heuristic)
    (best : Heuristic) (made : M) : Type 0 where
  pub done : Makes best made
  pub before : List Heuristic
  pub after : List Heuristic
  pub listed : heuristics ≡ before ++ best ∷ after
  pub worse : All (λ h. (other : M) → Makes h other → IsBetter made other) before
  pub no_better : All (λ h. (other : M) → Makes h other → ¬ IsBetter other made) after

module _ {Id B G : Type 0} (group_cmp : Group G Id → Group G Id → Ordering) (cmp : Id → Id → Ordering) (bin_cmp : B → B → Ordering)
    (all : Collection Id G) (old : List (B × Bin)) where
  -- a packing with this heuristic is done (`PackingDone`), and its placements make this use of the bins
  pub record PacksWith (heuristic : Heuristic) (made : Use) : Type 0 where
    pub placements : List (Placement Id B)
    pub new : List (B × Bin)
    pub done : PackingDone group_cmp (named_rules cmp bin_cmp heuristic) all old placements new
    pub use_is : made ≡ use_of bin_cmp placements old

  -- a packing with this heuristic is refused for space (`PackingRefused`)
  pub record IsRefusedWith (heuristic : Heuristic) : Type 0 where
    pub left : List (B × Bin)
    pub refused : PackingRefused group_cmp (named_rules cmp bin_cmp heuristic) all old left

  -- a packing with the heuristic `best` of the list is done and makes this use, and it is the best of the list
  -- (`IsBestBy`)
  -- Example: A 1x3x1, B 3x2x1 and C 3x1x1 into the bins 0 and 1, 4x4x1. `Volume` places B and C in bin 0 and A in bin
  -- 1: 2 bins, 3 cells. `Height` places all in bin 0: 1 bin, 12 cells. So `Height` is the best of the two
  abbrev pub IsBestOf : List Heuristic → Heuristic → Use → Type 0
  IsBestOf heuristics best made = IsBestBy PacksWith IsBetterUse heuristics best made

  -- what is answered where the best of several is asked for, by cases. A heuristic and a packing: the packing is one
  -- with this heuristic (`IsPacked`), and this is the best of the list, with the use that the packing makes.
  -- `NotEnoughBinSpace`: with each heuristic of the list, which is not empty, the packing is refused.
  -- `OutOfMemory`: nothing more is said. On either error the bins are as they were
  abbrev pub IsBestAnswer : {A : Type 0} → List Heuristic → Result (Heuristic × RectanglePackOk Id B A) RectanglePackError → List (B × Bin) → Type 0
  IsBestAnswer heuristics (Ok (best, ok)) new =
      IsPacked group_cmp (named_rules cmp bin_cmp best) all old ok new × IsBestOf heuristics best (use_of bin_cmp (placements_of ok) old)
  IsBestAnswer heuristics (Err NotEnoughBinSpace) new = All IsRefusedWith heuristics × (new ≡ old)
  IsBestAnswer heuristics (Err OutOfMemory) new = new ≡ old
