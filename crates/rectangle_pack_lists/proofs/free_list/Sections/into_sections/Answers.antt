use Rattle.rectangle_pack_sections.proofs.Std.{◌∙◌, ap, sym}
use Rattle.rectangle_pack_lists.specs.private.FreeLists.{places_in}
use Rattle.rectangle_pack_lists.specs.private.Places.{sections_of}
use Rattle.rectangle_pack_lists.proofs.lemmas.trial.PlaceSteps.{sections_of-full}
use Rattle.rectangle_pack_lists.proofs.free_list.Sections.into_sections.Goals as goal

pub returns-in-Plain : goal.returns-in-Plain
returns-in-Plain g c =
    sym (ap (λ l. sections_of (places_in l)) c.in-Plain.is ∙ sections_of-full c.in-Plain.sections.items)
