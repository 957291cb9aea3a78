use Rattle.rectangle_pack_sections.proofs.Std.{◌∙◌, ◌++◌, ◌∷◌, [], ap}
use Rattle.rectangle_pack_lists.specs.private.Notes.{GapSteps}
use Rattle.rectangle_pack_lists.proofs.lemmas.trial.Notes.{zip-more}
use Rattle.rectangle_pack_lists.proofs.free_list.steps.Steps.push_reserved.Goals as goal

pub returns-clause-all : goal.returns-clause-all
returns-clause-all g c =
    rw (c.push_reserved.ensures.all, c.push_reserved-2.ensures.items)
    (zip-more _ _ c.args.place c.args.pushed c.self.invariant ∙ ap (λ (s : GapSteps). s.all ++ (c.args.place, c.args.pushed) ∷ []) c.self.view_is)
