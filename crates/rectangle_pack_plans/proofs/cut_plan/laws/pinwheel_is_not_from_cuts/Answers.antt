use Rattle.rectangle_pack_plans.proofs.lemmas.cut_plan.Pinwheel.{pinwheel_covers, pinwheel_not_from_cuts}
use Rattle.rectangle_pack_plans.proofs.cut_plan.laws.pinwheel_is_not_from_cuts.Goals as goal

pub returns-clause-covers : goal.returns-clause-covers
returns-clause-covers c = pinwheel_covers

pub returns-clause-uncut : goal.returns-clause-uncut
returns-clause-uncut c = pinwheel_not_from_cuts
