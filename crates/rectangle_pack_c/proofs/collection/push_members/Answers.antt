use Rattle.rectangle_pack_c.proofs.Std.{get_or, get_or_default, refl}
use Rattle.rectangle_pack_c.specs.declared.collection.RpMember.{RpMember}
use Rattle.rectangle_pack_c.proofs.LoopLemmas.{members_more}
use Rattle.rectangle_pack_c.proofs.collection.push_members.Goals as goal

pub loop-i-preserved : goal.loop-i-preserved
loop-i-preserved c =
    let members = c.args.collection.now.members.now in
    let i = c.loop-i.i in
    let m : RpMember = get_or members i (record { index = 0; group = 0 }) in
    members_more c.args.collection.now.boxes.now members i m _ c.loop-i.rects c.push_box.new.rects c.loop-i-test.true
    (get_or_default members i _ _ c.loop-i-test.true) refl c.loop-i.invariant _ refl c.in_ok-push_box.ensures.pushed c.in_ok-push_box.ensures.ascend
