use Rattle.rectangle_pack_sections.proofs.Std.{◌∙◌, ap}
use Rattle.rectangle_pack_lists.specs.private.Places.{Places}
use Rattle.rectangle_pack_lists.proofs.lemmas.trial.Places.{counted}
use Rattle.rectangle_pack_lists.proofs.gap_list.GapList.places.Goals as goal

pub returns-clause-all : goal.returns-clause-all
returns-clause-all g c = c.len.ensures ∙ c.self.inside.sections.ok.0 ∙ counted _ _ _ (ap (λ (v : Places). v.all) c.self.view_is)
