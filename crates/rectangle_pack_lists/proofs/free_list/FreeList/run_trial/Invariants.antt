use Rattle.rectangle_pack_sections.proofs.Std.{◌≡◌, ◌≤◌, ◌<◌, ◌*◌, take, length, vec_len, vec_capacity, All}
use Rattle.std.proofs.Common.{◌%◌, ◌-◌, min}
use Rattle.rectangle_pack_sections.specs.Boxes.{FitsU32}
use Rattle.rectangle_pack_lists.specs.Steps.{IsDone}
use Rattle.rectangle_pack_lists.specs.private.FreeLists.{now_of}
use Rattle.rectangle_pack_lists.proofs.lemmas.trial.Notes.{IsSince}
use Rattle.rectangle_pack_lists.proofs.free_list.FreeList.run_trial.Given as goal

abbrev pub invariant-loop-i : goal.invariant-loop-i
invariant-loop-i g l = record {
  done : IsDone (g.R.Policy.may l.policy) (now_of l.fn.self) (take l.i l.members) l.locations.items (now_of l.self) l.tests;
  most : l.tests ≤ l.i * 18446744073709551615;
  fits : All FitsU32 (now_of l.self);
  since : IsSince l.fn.self l.self;
  kept : l.kept ≡ length l.fn.self.notes;
  steps : 0 < l.i % 8 → min (8 - l.i % 8) (length l.members - l.i) ≤ l.self.steps;
  room : l.fn.self.room ≤ l.self.room;
  location_count : vec_len l.locations ≡ l.i;
  location_room : 0 < l.i → length l.members ≤ vec_capacity l.locations;
}
