use Rattle.rectangle_pack_packing.proofs.lemmas.packing.FittingLaws.{fittings_place_whole}
use Rattle.rectangle_pack_packing.proofs.laws.fitting.fitted_groups_are_placed_whole.Goals as goal

pub returns-clause-closures : goal.returns-clause-closures
returns-clause-closures g c = fittings_place_whole _ _

pub returns-clause-by_name : goal.returns-clause-by_name
returns-clause-by_name g c = λ named. fittings_place_whole _ _
