use Rattle.rectangle_pack_packing.proofs.lemmas.packing.FittingLaws.{left_held_nowhere}
use Rattle.rectangle_pack_packing.proofs.laws.fitting.left_box_is_held_nowhere.Goals as goal

pub returns-clause-closures : goal.returns-clause-closures
returns-clause-closures g c = left_held_nowhere _ _ g.met.BinId.Ord.total

pub returns-clause-by_name : goal.returns-clause-by_name
returns-clause-by_name g c = λ named. left_held_nowhere _ _ g.met.BinId.Ord.total
