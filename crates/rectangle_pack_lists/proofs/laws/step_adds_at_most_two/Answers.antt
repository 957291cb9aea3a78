use Rattle.rectangle_pack_lists.proofs.lemmas.trial.Steps.{length-step}
use Rattle.rectangle_pack_lists.proofs.laws.step_adds_at_most_two.Goals as goal

pub returns : goal.returns
returns g c = λ sections next member location tests step. length-step _ sections member location next tests step
