use Rattle.rectangle_pack_sections.proofs.Std.{inl, inr}
use Rattle.rectangle_pack_lists.proofs.lemmas.trial.FitTests.{done-most, stuck-most}
use Rattle.rectangle_pack_lists.proofs.laws.trial_tests_are_bounded.Goals as goal

pub returns : goal.returns
returns g c = λ sections last locations members tests ended. elim ended [
  | inl done ↦ done-most _ sections members locations last tests done
  | inr stuck ↦ stuck-most _ sections members tests stuck
]
