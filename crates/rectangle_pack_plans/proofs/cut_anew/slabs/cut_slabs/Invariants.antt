use Rattle.rectangle_pack_sections.proofs.Std.{◌≡◌, IsPermutation}
use Rattle.rectangle_pack_plans.specs.private.CutPlans.{AreClosed}
use Rattle.rectangle_pack_plans.proofs.cut_anew.slabs.cut_slabs.Given as goal

-- no plane is open on the axes that were tried
abbrev pub invariant-loop-axis : goal.invariant-loop-axis
invariant-loop-axis g l = record {
  permutation : IsPermutation l.fn.boxes l.boxes;
  rooms : l.rooms.items ≡ l.fn.rooms.items;
  closed : AreClosed l.axis-index l.room l.boxes;
}
