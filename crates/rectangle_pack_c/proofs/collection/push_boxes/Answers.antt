use Rattle.rectangle_pack_c.proofs.Std.{get_or, get_or_default}
use Rattle.rectangle_pack_c.specs.declared.RpBox.{RpBox}
use Rattle.rectangle_pack_c.proofs.LoopLemmas.{boxes_more}
use Rattle.rectangle_pack_c.proofs.collection.push_boxes.Goals as goal

pub loop-i-preserved : goal.loop-i-preserved
loop-i-preserved c =
    let boxes = c.args.boxes.now in
    let i = c.loop-i.i in
    let b : RpBox = get_or boxes i (record { width = 0; height = 0; depth = 0; group = 0 }) in
    boxes_more boxes i b c.loop-i.rects c.push_box.new.rects c.loop-i-test.true (get_or_default boxes i _ _ c.loop-i-test.true) c.loop-i.invariant
    c.in_ok-push_box.ensures.pushed c.in_ok-push_box.ensures.ascend
