use Rattle.rectangle_pack_sections.proofs.Std.{◌≡◌, length, take}
use Rattle.rectangle_pack_plans.specs.private.CutPlans.{left_in}
use Rattle.rectangle_pack_plans.proofs.lemmas.cut_plan.FirstOpen.{IsReached}
use Rattle.rectangle_pack_plans.proofs.cut_plan.peel.look_along.Given as goal

abbrev pub invariant-loop-next : goal.invariant-loop-next
invariant-loop-next l = record {
  reached : IsReached l.axis l.part (left_in l.part l.order) l.below l.reach;
  below : l.below ≡ length (left_in l.part (take l.next-index l.order));
}
