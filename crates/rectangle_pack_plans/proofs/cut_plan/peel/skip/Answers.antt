use Rattle.rectangle_pack_sections.proofs.Std.{ap, length}
use Rattle.rectangle_pack_plans.proofs.lemmas.cut_plan.Left.{left_behind}
use Rattle.rectangle_pack_plans.proofs.cut_plan.peel.skip.Goals as goal

pub returns-then-is_left : goal.returns-then-is_left
returns-then-is_left c = left_behind c.args.part.now c.args.order.now c.loop-i.i 0 (ap length c.loop-i.invariant)
