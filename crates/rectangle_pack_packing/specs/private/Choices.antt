-- Which heuristic of a list is chosen, where what fits is packed.
use Rattle.std.specs.Prelude.{List}
use Rattle.std.specs.declared.cmp.Ordering.{Ordering}
use Rattle.rectangle_pack_sections.specs.declared.group.Group.{Group}
use Rattle.rectangle_pack_sections.specs.declared.box_size_heuristics.named.Heuristic.{Heuristic}
use Rattle.rectangle_pack_sections.specs.Bins.{Bin}
use Rattle.rectangle_pack_sections.specs.Groups.{Collection}
use Rattle.rectangle_pack_packing.specs.declared.answer.Placement.{Placement}
use Rattle.rectangle_pack_packing.specs.Best.{named_rules}
use Rattle.rectangle_pack_packing.specs.Fitting.{PackingFits, IsBestFit, fit_use_of}

-- whatever fits with this heuristic is the best of the list (`IsBestFit`)
abbrev pub IsBestChoice : {Id B G : Type 0} → (Group G Id → Group G Id → Ordering) → (Id → Id → Ordering) → (B → B → Ordering) → Collection Id G
    → List (B × Bin) → List Heuristic → Heuristic → Type 0
IsBestChoice {Id} {B} {G} group_cmp cmp bin_cmp all old heuristics heuristic =
    (placements : List (Placement Id B)) (left : List (Group G Id)) (new : List (B × Bin))
    → PackingFits group_cmp (named_rules cmp bin_cmp heuristic) all old placements left new
    → IsBestFit group_cmp cmp bin_cmp all old heuristics heuristic (fit_use_of group_cmp cmp bin_cmp all old placements left)
