use Rattle.rectangle_pack_packing.proofs.lemmas.packing.Laws.{hold_nowhere}
use Rattle.rectangle_pack_packing.proofs.laws.refused_box_is_held_nowhere.Goals as goal

pub returns-clause-closures : goal.returns-clause-closures
returns-clause-closures g c = hold_nowhere _ _ g.met.BinId.Ord.total

pub returns-clause-by_name : goal.returns-clause-by_name
returns-clause-by_name g c = λ named. hold_nowhere _ _ g.met.BinId.Ord.total
