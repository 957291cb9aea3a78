use Rattle.rectangle_pack_sections.proofs.Std.{ap}
use Rattle.rectangle_pack_lists.specs.private.Notes.{GapSteps}
use Rattle.rectangle_pack_lists.proofs.lemmas.trial.Notes.{zip-popped}
use Rattle.rectangle_pack_lists.proofs.free_list.steps.Steps.pop.Goals as goal

pub returns : goal.returns
returns g c =
    rw (c.zip.ensures, ← ap (λ (s : GapSteps). s.all) c.self.view_is)
    (zip-popped _ _ _ _ c.pop.result c.pop-2.result _ _ c.self.invariant c.self.inside.pushed.ok.0 c.pop.ensures c.pop-2.ensures.items
    c.pop-2.ensures.cases)
