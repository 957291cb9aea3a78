use Rattle.rectangle_pack_bounds.proofs.lemmas.Families.{rounded_feasible, in_parts_feasible, in_pieces_feasible}
use Rattle.rectangle_pack_bounds.proofs.laws.rates_are_dual_feasible.Goals as goal

pub returns-clause-rounded : goal.returns-clause-rounded
returns-clause-rounded c = rounded_feasible

pub returns-clause-in_parts : goal.returns-clause-in_parts
returns-clause-in_parts c = in_parts_feasible

pub returns-clause-in_pieces : goal.returns-clause-in_pieces
returns-clause-in_pieces c = in_pieces_feasible
