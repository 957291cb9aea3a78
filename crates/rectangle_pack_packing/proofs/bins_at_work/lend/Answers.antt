use Rattle.rectangle_pack_sections.proofs.Std.{◌∙◌}
use Rattle.rectangle_pack_lists.proofs.lemmas.trial.PlaceSteps.{sections_of-full}
use Rattle.rectangle_pack_packing.proofs.bins_at_work.lend.Goals as goal

-- the list has the bin's sections, now and at the start
pub returns-clause-now : goal.returns-clause-now
returns-clause-now g c = rw (c.new.ensures.places) (sections_of-full _ ∙ c.take_sections-sections.ensures.items)

pub returns-clause-start : goal.returns-clause-start
returns-clause-start g c = rw (c.new.ensures.notes, c.new.ensures.places) (sections_of-full _ ∙ c.take_sections-sections.ensures.items)
