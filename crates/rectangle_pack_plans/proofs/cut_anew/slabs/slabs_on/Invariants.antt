use Rattle.rectangle_pack_sections.proofs.Std.{◌≡◌, ◌++◌, List, map}
use Rattle.rectangle_pack_plans.specs.private.CuttingAnew.{Filled, counted}
use Rattle.rectangle_pack_plans.proofs.lemmas.cut_anew.Slabs.{IsSwept}
use Rattle.rectangle_pack_plans.proofs.cut_anew.slabs.slabs_on.Given as goal

-- the slabs so far
abbrev pub invariant-loop-i : goal.invariant-loop-i
invariant-loop-i g l = record {
  fs : List Filled;
  rooms : l.rooms.items ≡ l.fn.rooms.items ++ map counted fs;
  swept : IsSwept l.axis l.room l.boxes l.i l.begun l.reach l.rest fs;
}
