use Rattle.rectangle_pack_packing.proofs.lemmas.packing.FittingLaws.{done_is_none_left}
use Rattle.rectangle_pack_packing.proofs.laws.fitting.packing_leaves_none.Goals as goal

pub returns-clause-closures : goal.returns-clause-closures
returns-clause-closures g c = done_is_none_left _ _

pub returns-clause-by_name : goal.returns-clause-by_name
returns-clause-by_name g c = λ named. done_is_none_left _ _
