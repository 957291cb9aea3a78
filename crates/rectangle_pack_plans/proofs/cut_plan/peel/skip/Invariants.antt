use Rattle.rectangle_pack_sections.proofs.Std.{◌≡◌, [], take}
use Rattle.rectangle_pack_plans.specs.private.CutPlans.{left_in}
use Rattle.rectangle_pack_plans.proofs.cut_plan.peel.skip.Given as goal

abbrev pub invariant-loop-i : goal.invariant-loop-i
invariant-loop-i l = left_in l.part (take l.i l.order) ≡ []
