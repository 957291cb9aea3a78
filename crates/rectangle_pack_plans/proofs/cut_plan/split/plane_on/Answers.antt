use Rattle.rectangle_pack_sections.proofs.Std.{IsPermutation-refl}
use Rattle.rectangle_pack_plans.proofs.lemmas.cut_plan.FirstPlanes.{AreClosed-more}
use Rattle.rectangle_pack_plans.proofs.cut_plan.split.plane_on.Goals as goal

pub returns-in_err-place : goal.returns-in_err-place
returns-in_err-place c =
    rw c.from_residual.ensures (AreClosed-more _ _ _ _ (IsPermutation-refl _) c.requires.closed (c.in_err-place.ensures {u = tt}))

pub returns : goal.returns
returns c = record { on_axis = c.in_ok-place.ensures {u = tt}; ordered = c.requires.ordered; first = c.requires.closed }
