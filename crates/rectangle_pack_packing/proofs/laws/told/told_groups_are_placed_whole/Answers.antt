use Rattle.rectangle_pack_packing.proofs.lemmas.packing.ToldLaws.{tellings_place_whole}
use Rattle.rectangle_pack_packing.proofs.laws.told.told_groups_are_placed_whole.Goals as goal

pub returns : goal.returns
returns g c = tellings_place_whole _ _ _
