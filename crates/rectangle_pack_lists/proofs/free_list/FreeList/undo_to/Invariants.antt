use Rattle.rectangle_pack_sections.proofs.Std.{◌≤◌, length}
use Rattle.rectangle_pack_lists.proofs.lemmas.trial.Notes.{IsSince}
use Rattle.rectangle_pack_lists.proofs.free_list.FreeList.undo_to.Given as goal

abbrev pub invariant-loop-self : goal.invariant-loop-self
invariant-loop-self g l = record {
  since : IsSince l.self l.fn.self;
  kept : l.kept ≤ length l.self.notes;
  room : l.fn.self.room ≤ l.self.room;
}

abbrev pub decreases-loop-self : goal.decreases-loop-self
decreases-loop-self g l = length l.self.notes
