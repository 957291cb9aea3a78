use Rattle.rectangle_pack_packing.proofs.lemmas.packing.Laws.{exclude_none}
use Rattle.rectangle_pack_packing.proofs.laws.packing_without_exclusions.Goals as goal

pub returns-clause-closures : goal.returns-clause-closures
returns-clause-closures g c = exclude_none _ _

pub returns-clause-by_name : goal.returns-clause-by_name
returns-clause-by_name g c = λ named. exclude_none _ _
