use Rattle.rectangle_pack_plans.proofs.lemmas.cut_plan.Split.{open_planes_split_cuts, HaveSameBoxes-split}
use Rattle.rectangle_pack_plans.proofs.cut_plan.laws.open_planes_split_cuts.Goals as goal

pub returns : goal.returns
returns c = λ boxes parted a place from is_place uncut.
    let parts = open_planes_split_cuts a place boxes parted from is_place uncut in (parts.0, parts.1, HaveSameBoxes-split a place boxes uncut)
