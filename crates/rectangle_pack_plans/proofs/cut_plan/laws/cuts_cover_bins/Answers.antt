use Rattle.rectangle_pack_sections.proofs.lemmas.cuts.TreesFill.{cuts_cover_bins}
use Rattle.rectangle_pack_plans.proofs.cut_plan.laws.cuts_cover_bins.Goals as goal

pub returns : goal.returns
returns c = cuts_cover_bins
