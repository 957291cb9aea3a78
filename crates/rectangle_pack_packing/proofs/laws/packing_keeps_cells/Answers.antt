use Rattle.rectangle_pack_packing.proofs.lemmas.packing.Laws.{keep_cells}
use Rattle.rectangle_pack_packing.proofs.laws.packing_keeps_cells.Goals as goal

pub returns-clause-closures : goal.returns-clause-closures
returns-clause-closures g c = keep_cells _ _ g.met.BinId.Ord.total

pub returns-clause-by_name : goal.returns-clause-by_name
returns-clause-by_name g c = λ named. keep_cells _ _ g.met.BinId.Ord.total
