use Rattle.rectangle_pack_c.proofs.Std.{get_or, take, take_more}
use Rattle.rectangle_pack_packing.proofs.lemmas.packing.Orders.{AllZip-more}
use Rattle.rectangle_pack_c.specs.declared.telling.RpStep.{RpStep}
use Rattle.rectangle_pack_c.specs.Collections.{all_boxes}
use Rattle.rectangle_pack_c.specs.Telling.{IsStep}
use Rattle.rectangle_pack_c.proofs.telling.steps_of.Goals as goal

pub loop-step-preserved : goal.loop-step-preserved
loop-step-preserved c =
    let steps = c.args.steps.now in
    let i = c.loop-step.step-index in
    let none : RpStep = record { index = 0; bin = 0; heuristic = 0 } in
    rw (take_more steps i none c.loop-step-test.true, c.in_ok-push.ensures.items)
    (AllZip-more (IsStep (all_boxes c.args.collection.now)) (take i steps) c.loop-step.told.items (get_or steps i none) c.step_of.result
    c.loop-step.invariant c.step_of.ensures)
