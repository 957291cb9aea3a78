-- The parts of a box that are still to be planned, the next one first, whose boxes stand one part after another.
use Rattle.std.specs.Prelude.{ℕ, suc, ◌≡◌, ◌+◌, ◌-◌, ◌≤◌, ◌<◌, List, [], ◌∷◌, ◌++◌, take, drop, length, sum_by}
use Rattle.std.specs.Option.{option_to_list}
use Rattle.rectangle_pack_plans.specs.declared.cut_plan.Part.{Part}
use Rattle.rectangle_pack_plans.specs.declared.cut_plan.CutStep.{CutStep}
use Rattle.rectangle_pack_sections.specs.Boxes.{Cuboid}
use Rattle.rectangle_pack_sections.specs.CutTrees.{CutTree, IsFromCuts}
use Rattle.rectangle_pack_plans.specs.CutPlans.{IsPlannedTree, steps_of}
use Rattle.rectangle_pack_plans.specs.private.CutPlans.{IsFilled, AreOrdered}

module _ (boxes : List Cuboid) (whole : Cuboid) where
  -- the boxes `filling` fill the part, in its order, and are from cuts of it where the boxes are from cuts of the whole
  pub record IsPending (p : Part) (filling : List Cuboid) : Type 0 where
    pub filled : IsFilled p.whole filling
    pub ordered : AreOrdered p.ordered filling
    pub from_cuts : IsFromCuts boxes whole → IsFromCuts filling p.whole

  -- the steps so far, and whatever is planned for these parts, one after another, each behind the cut that comes before
  -- it, are the plan of the whole; the boxes of the parts stand one after another in `rest`
  unfoldable pub LeadOn : List Part → List Cuboid → List CutStep → Type 0
  LeadOn [] rest steps = (tree : CutTree) × IsPlannedTree tree whole boxes × (steps ≡ steps_of tree)
  LeadOn (p ∷ ps) rest steps =
      (p.count ≤ length rest) × IsPending p (take p.count rest)
      × ((t : CutTree) → IsPlannedTree t p.whole (take p.count rest)
      → LeadOn ps (drop p.count rest) ((steps ++ option_to_list p.before) ++ steps_of t))

-- the parts with their boxes may stand where the part with its boxes stands (`LeadOn`), once the cut that comes before
-- it is in the plan
abbrev pub MayBe : Part → List Cuboid → List Part → List Cuboid → Type 0
MayBe p filling parts fillings =
    (boxes : List Cuboid) (whole : Cuboid) (ps : List Part) (left : List Cuboid) (steps : List CutStep) → LeadOn boxes whole (p ∷ ps) (filling ++ left) steps
    → LeadOn boxes whole (parts ++ ps) (fillings ++ left) (steps ++ option_to_list p.before)

-- a number, at least one, less for two parts than for both together
abbrev pub weight : Part → ℕ
weight p = suc (p.count + p.count - 2)

-- the parts may take the place of the part (`MayBe`); the first of them is planned next, and together they weigh less
pub record IsPeeled (p : Part) (filling fillings : List Cuboid) (parts : List Part) : Type 0 where
  pub may_be : MayBe p filling parts fillings
  pub lighter : sum_by weight parts < weight p

-- once the cut that comes before the part is in the plan, and behind it the steps `text`, the parts may stand for it, and
-- weigh less; the steps are the plan of the first `planned` of its boxes, and the parts have the others
pub record IsCutUp (p : Part) (filling fillings : List Cuboid) (parts : List Part) (planned : ℕ) (text : List CutStep) : Type 0 where
  pub within : planned ≤ length fillings
  pub goes_on : (boxes : List Cuboid) (whole : Cuboid) (ps : List Part) (left : List Cuboid) (steps : List CutStep)
      → LeadOn boxes whole (p ∷ ps) (filling ++ left) steps
      → LeadOn boxes whole (parts ++ ps) (drop planned fillings ++ left) ((steps ++ option_to_list p.before) ++ text)
  pub lighter : sum_by weight parts < weight p
