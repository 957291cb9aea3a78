use Rattle.rectangle_pack_lists.proofs.lemmas.trial.Notes.{CanUndo-undone}
use Rattle.rectangle_pack_lists.proofs.free_list.FreeList.undo.Goals as goal

pub invariant_of-self : goal.invariant_of-self
invariant_of-self g c =
    CanUndo-undone _ _ _ _ _ _ c.undo.ensures.undone c.undo.ensures.room c.self.invariant
