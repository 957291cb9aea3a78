use Rattle.rectangle_pack_sections.proofs.Std.{sum_by, IsPermutation}
use Rattle.rectangle_pack_plans.proofs.lemmas.cut_anew.Rooms.{IsPartlyCut, room_weight}
use Rattle.rectangle_pack_plans.proofs.cut_anew.cut_rooms.Given as goal

-- the free sections so far, the rooms and the boxes that are done are from cuts of the whole
abbrev pub invariant-loop-room : goal.invariant-loop-room
invariant-loop-room g l = record {
  cut : IsPartlyCut l.whole l.fn.boxes l.free.items l.rooms.items l.boxes l.left;
  permutation : IsPermutation l.fn.boxes l.boxes;
}

abbrev pub decreases-loop-room : goal.decreases-loop-room
decreases-loop-room g l = sum_by room_weight l.rooms.items
