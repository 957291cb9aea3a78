use Rattle.rectangle_pack_lists.proofs.lemmas.trial.Notes.{CanUndo-noted}
use Rattle.rectangle_pack_lists.proofs.free_list.FreeList.place.Goals as goal

pub invariant_of-self : goal.invariant_of-self
invariant_of-self g c = CanUndo-noted _ _ _ _ _ _ c.place.ensures.noted c.place.ensures.room c.self.invariant
