use Rattle.rectangle_pack_lists.proofs.lemmas.joining.Joins.{IsJoined-cells}
use Rattle.rectangle_pack_lists.proofs.laws.joining_keeps_cells.Goals as goal

pub returns : goal.returns
returns c = λ old new idx lo hi joined cell. IsJoined-cells cell joined
