use Rattle.rectangle_pack_lists.proofs.lemmas.trial.Notes.{CanUndo-more}
use Rattle.rectangle_pack_lists.proofs.free_list.FreeList.reserve.Goals as goal

pub invariant_of-self : goal.invariant_of-self
invariant_of-self g c =
    rw (c.reserve.ensures.notes, c.reserve.ensures.places) (CanUndo-more _ _ _ _ c.reserve.ensures.room c.self.invariant)
