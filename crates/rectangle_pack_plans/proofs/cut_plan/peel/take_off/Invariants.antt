use Rattle.rectangle_pack_sections.proofs.Std.{◌≡◌, ◌≤◌, length, take}
use Rattle.rectangle_pack_plans.specs.private.CutPlans.{left_in}
use Rattle.rectangle_pack_plans.proofs.cut_plan.peel.take_off.Given as goal

abbrev pub invariant-loop-i : goal.invariant-loop-i
invariant-loop-i l = record {
  within : l.count ≤ length l.to;
  taken : take l.count l.to ≡ left_in l.part (take l.i l.order);
}
