use Rattle.rectangle_pack_lists.proofs.lemmas.trial.Steps.{KeepCells-done}
use Rattle.rectangle_pack_lists.proofs.laws.trial_keeps_cells.Goals as goal

pub returns : goal.returns
returns g c = λ sections last locations members tests apart done. KeepCells-done _ sections members locations last tests apart done
