use Rattle.rectangle_pack_packing.proofs.lemmas.packing.ToldLaws.{tellings_keep_cells}
use Rattle.rectangle_pack_packing.proofs.laws.told.told_packing_keeps_cells.Goals as goal

pub returns : goal.returns
returns g c = tellings_keep_cells _ _ _ g.met.BinId.Ord.total
