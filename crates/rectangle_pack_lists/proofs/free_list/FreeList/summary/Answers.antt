use Rattle.rectangle_pack_sections.proofs.Std.{◌∙◌, ap, sym, subst, List, IfSome}
use Rattle.rectangle_pack_sections.specs.Boxes.{Cuboid}
use Rattle.rectangle_pack_lists.specs.private.FreeLists.{now_of, places_in}
use Rattle.rectangle_pack_lists.specs.private.Places.{sections_of}
use Rattle.rectangle_pack_lists.specs.private.Summaries.{Bounds}
use Rattle.rectangle_pack_lists.proofs.lemmas.trial.PlaceSteps.{sections_of-full}
use Rattle.rectangle_pack_lists.proofs.free_list.FreeList.summary.Goals as goal

pub returns-in-Plain : goal.returns-in-Plain
returns-in-Plain g c =
    subst (λ (l : List Cuboid). IfSome c.of_few.result (λ s. Bounds s l))
    (c.as_slice.ensures.value ∙ sym (sections_of-full c.in-Plain.sections.items)
    ∙ sym (ap (λ l. sections_of (places_in l)) c.in-Plain.is) ∙ ap now_of c.self.view_is)
    c.of_few.ensures
