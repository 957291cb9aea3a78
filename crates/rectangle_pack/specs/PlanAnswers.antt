-- What a session answers where it is asked for the cutting plan of a bin.
use Rattle.std.specs.Prelude.{◌≡◌, Option, Some, None, IsSome, Result, Ok, Err}
use Rattle.std.specs.declared.cmp.Ordering.{Ordering}
use Rattle.std.specs.declared.vec.Vec.{Vec}
use Rattle.std.specs.Map.{lookup}
use Rattle.std.specs.BTreeMap.{is_at}
use Rattle.rectangle_pack_plans.specs.declared.cut_plan.CutStep.{CutStep}
use Rattle.rectangle_pack.specs.declared.session.command.SessionError.{SessionError}
use Rattle.rectangle_pack.specs.declared.session.command.SessionError.TheVariants.{UnknownBin, OutOfMemory}
use Rattle.rectangle_pack_sections.specs.Bins.{Bin, whole}
use Rattle.rectangle_pack_sections.specs.CutTrees.{IsFromCuts}
use Rattle.rectangle_pack_plans.specs.CutPlans.{IsCutPlan}
use Rattle.rectangle_pack.specs.Session.{State, boxes_of}

module _ {Id B : Type 0} (bin_cmp : B → B → Ordering) (state : State Id B) (id : B) where
  -- what is answered where the cutting plan of a bin is asked for. A plan: the bin is there, and this is the plan of
  -- its boxes (`IsCutPlan`, `boxes_of`). `None`: the bin is there, and its boxes are not from cuts of it
  -- (`IsFromCuts`). `UnknownBin`: the bin is not there. `OutOfMemory`: the bin is there. There is no other answer
  -- Example: of a new bin the plan is Leaf; of a bin 10x10x1 with (0,0,0) 4x10x1 placed and (4,0,0) 6x10x1 free it is x
  -- 4, Leaf, Leaf; of a bin 3x3x1 with the boxes of the `pinwheel` there is none
  abbrev pub IsPlanAnswer : {A : Type 0} → Result (Option (Vec CutStep A)) SessionError → Type 0
  IsPlanAnswer (Ok (Some plan)) =
      (bin : Bin) × (lookup (is_at (bin_cmp id)) state.bins ≡ Some bin)
      × IsCutPlan (boxes_of bin_cmp state.outstanding id bin) (whole bin.size) plan.items
  IsPlanAnswer (Ok None) =
      (bin : Bin) × (lookup (is_at (bin_cmp id)) state.bins ≡ Some bin)
      × ¬ IsFromCuts (boxes_of bin_cmp state.outstanding id bin) (whole bin.size)
  IsPlanAnswer (Err UnknownBin) = lookup (is_at (bin_cmp id)) state.bins ≡ None
  IsPlanAnswer (Err OutOfMemory) = IsSome (lookup (is_at (bin_cmp id)) state.bins)
  IsPlanAnswer (Err _) = ⊥
