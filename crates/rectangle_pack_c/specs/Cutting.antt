-- What C is told of the straight cuts that part a bin into boxes.
use Rattle.std.specs.Prelude.{ℕ, ◌≡◌, ◌⊎◌, List, ◌++◌, filter, map, Some, Err}
use Rattle.rectangle_pack.specs.declared.CutStep.{CutStep}
use Rattle.rectangle_pack.specs.declared.SectionsError.{SectionsError}
use Rattle.rectangle_pack.specs.Bins.{IsSound, whole}
use Rattle.rectangle_pack.specs.Boxes.{Size, Cuboid, has_cells}
use Rattle.rectangle_pack.specs.Covers.{IsSectionsAnswer}
use Rattle.rectangle_pack.specs.CutPlans.{IsCutPlan}
use Rattle.rectangle_pack.specs.CutTrees.{IsFromCuts}
use Rattle.rectangle_pack.specs.CuttingAnew.{IsCutAnew}
use Rattle.rectangle_pack_c.specs.declared.RpBin.{RpBin}
use Rattle.rectangle_pack_c.specs.declared.reading.RpCutStep.{RpCutStep}
use Rattle.rectangle_pack_c.specs.declared.reading.RpSection.{RpSection}
use Rattle.rectangle_pack_c.specs.declared.restoring.RpWrong.{RpWrong}
use Rattle.rectangle_pack_c.specs.Arguments.{bin_size}
use Rattle.rectangle_pack_c.specs.Reading.{Tells, cuboid_of, step_of}
use Rattle.rectangle_pack_c.specs.Restoring.{wrong_in_sections}

-- what the caller lends: an array for the steps, a place for their number, and one for what is wrong
pub record Lent : Type 0 where
  pub steps : List RpCutStep
  pub count : ℕ
  pub wrong : RpWrong

module _ (size : Size) (boxes : List Cuboid) where
  -- the steps of the plan go to the array (`Tells`): the plan of the boxes with cells and of what is free, cut anew round them
  pub record TellsCutsRound (status : ℕ) (old new : Lent) : Type 0 where
    pub sound : IsSound size boxes
    pub free : List Cuboid
    pub anew : IsCutAnew (whole size) (filter has_cells boxes) free
    pub plan : List CutStep
    pub planned : IsCutPlan (free ++ filter has_cells boxes) (whole size) plan
    pub told : Tells (map step_of plan) status old.steps new.steps new.count
    pub unchanged : new.wrong ≡ old.wrong

  -- there are no free sections with which the boxes are from straight cuts of the bin (`RP_NO_PLAN`)
  pub record TellsNoCuts (status : ℕ) (old new : Lent) : Type 0 where
    pub sound : IsSound size boxes
    pub none : (free : List Cuboid) → ¬ IsFromCuts (free ++ filter has_cells boxes) (whole size)
    pub status_is : status ≡ 9
    pub unchanged : new ≡ old

  -- boxes are outside the bin, or share a cell (`RP_WRONG_BOXES`): which ones is written
  pub record TellsWrongBoxes (status : ℕ) (old new : Lent) : Type 0 where
    pub error : SectionsError
    pub fault : IsSectionsAnswer size boxes (Err error)
    pub written : wrong_in_sections 0 error ≡ Some new.wrong
    pub status_is : status ≡ 19
    pub steps_stay : new.steps ≡ old.steps
    pub count_stays : new.count ≡ old.count

-- one of these is told, or that memory was refused (`RP_OUT_OF_MEMORY`), and then nothing is written
abbrev pub TellsCuts : RpBin → List RpSection → (status : ℕ) (old new : Lent) → Type 0
TellsCuts bin boxes status old new =
    TellsCutsRound (bin_size bin) (map cuboid_of boxes) status old new
    ⊎ TellsNoCuts (bin_size bin) (map cuboid_of boxes) status old new
    ⊎ TellsWrongBoxes (bin_size bin) (map cuboid_of boxes) status old new
    ⊎ ((status ≡ 2) × (new ≡ old))
