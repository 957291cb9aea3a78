-- Straight cuts that part a bin round boxes.
use Rattle.std.specs.Prelude.{List, ◌++◌, filter, Option, Some, None, Result, Ok, Err}
use Rattle.rectangle_pack_sections.specs.Bins.{IsSound, whole}
use Rattle.rectangle_pack_sections.specs.Boxes.{Size, Cuboid, has_cells}
use Rattle.rectangle_pack_sections.specs.CutTrees.{IsFromCuts}
use Rattle.rectangle_pack_plans.specs.CuttingAnew.{IsCutAnew}
use Rattle.rectangle_pack_plans.specs.CutPlans.{IsCutPlan}
use Rattle.rectangle_pack_covers.specs.declared.sections.SectionsError.{SectionsError}
use Rattle.rectangle_pack_covers.specs.declared.straight_cuts.StraightCuts.{StraightCuts}
use Rattle.rectangle_pack_covers.specs.Covers.{IsSectionsAnswer}

-- the free sections and the plan of a bin in which these boxes stand: the free sections are cut anew round those with cells, and
-- the plan is that of both
pub record AreStraightCuts {A : Type 0} (size : Size) (boxes : List Cuboid) (cuts : StraightCuts A) : Type 0 where
  pub anew : IsCutAnew (whole size) (filter has_cells boxes) cuts.free.items
  pub plan : IsCutPlan (cuts.free.items ++ filter has_cells boxes) (whole size) cuts.steps.items

-- what is answered where boxes stand in a bin: straight cuts (`AreStraightCuts`); or that there are none, whatever the free
-- sections; or what is wrong with the boxes, as `IsSectionsAnswer` says it
abbrev pub IsCutsAnswer : {A : Type 0} → Size → List Cuboid → Result (Option (StraightCuts A)) SectionsError → Type 0
IsCutsAnswer size boxes (Ok (Some cuts)) = IsSound size boxes × AreStraightCuts size boxes cuts
IsCutsAnswer size boxes (Ok None) = IsSound size boxes × ((free : List Cuboid) → ¬ IsFromCuts (free ++ filter has_cells boxes) (whole size))
IsCutsAnswer size boxes (Err error) = IsSectionsAnswer size boxes (Err error)
