use Rattle.rectangle_pack_packing.proofs.lemmas.packing.FittingLaws.{first_is_refused}
use Rattle.rectangle_pack_packing.proofs.laws.fitting.first_left_is_refused.Goals as goal

pub returns-clause-closures : goal.returns-clause-closures
returns-clause-closures g c = first_is_refused _ _

pub returns-clause-by_name : goal.returns-clause-by_name
returns-clause-by_name g c = λ named. first_is_refused _ _
