use Rattle.rectangle_pack_sections.proofs.Std.{length}
use Rattle.rectangle_pack_plans.proofs.lemmas.cut_plan.Left.{left_behind, taken_off}
use Rattle.rectangle_pack_plans.proofs.cut_plan.peel.take_off.Goals as goal

pub returns-then-count-to-clause-taken : goal.returns-then-count-to-clause-taken
returns-then-count-to-clause-taken c =
    (taken_off c.args.part.now c.args.order.now c.loop-i.to c.loop-i.i c.loop-i.count (length c.args.to.now) c.if-count-to.true c.loop-i.auto.to
    c.loop-i.invariant.taken).1

pub returns-then-count-to-clause-rest : goal.returns-then-count-to-clause-rest
returns-then-count-to-clause-rest c =
    left_behind c.args.part.now c.args.order.now c.loop-i.i (length c.args.to.now)
    (taken_off c.args.part.now c.args.order.now c.loop-i.to c.loop-i.i c.loop-i.count (length c.args.to.now) c.if-count-to.true c.loop-i.auto.to
    c.loop-i.invariant.taken).0
