use Rattle.rectangle_pack_plans.proofs.lemmas.cut_plan.OpenPlanes.{cuts_have_open_planes}
use Rattle.rectangle_pack_plans.proofs.cut_plan.laws.cuts_have_open_planes.Goals as goal

pub returns : goal.returns
returns c = cuts_have_open_planes
