use Rattle.rectangle_pack_packing.proofs.lemmas.packing.FittingLaws.{fittings_keep_cells}
use Rattle.rectangle_pack_packing.proofs.laws.fitting.fitting_keeps_cells.Goals as goal

pub returns-clause-closures : goal.returns-clause-closures
returns-clause-closures g c = fittings_keep_cells _ _ g.met.BinId.Ord.total

pub returns-clause-by_name : goal.returns-clause-by_name
returns-clause-by_name g c = λ named. fittings_keep_cells _ _ g.met.BinId.Ord.total
