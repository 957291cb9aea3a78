use Rattle.rectangle_pack_plans.proofs.lemmas.cut_plan.FirstPlanes.{plans_are_unique}
use Rattle.rectangle_pack_plans.proofs.cut_plan.laws.plans_are_unique.Goals as goal

pub returns : goal.returns
returns c = plans_are_unique
