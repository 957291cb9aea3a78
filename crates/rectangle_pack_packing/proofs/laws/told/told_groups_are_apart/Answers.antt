use Rattle.rectangle_pack_packing.proofs.lemmas.packing.ToldLaws.{tellings_keep_apart}
use Rattle.rectangle_pack_packing.proofs.laws.told.told_groups_are_apart.Goals as goal

pub returns : goal.returns
returns g c = tellings_keep_apart _ _ _ g.met.BinId.Ord.total
