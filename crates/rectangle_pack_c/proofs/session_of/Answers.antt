use Rattle.rectangle_pack_c.proofs.Std.{get_or_default}
use Rattle.rectangle_pack_c.proofs.LoopLemmas.{added_more}
use Rattle.rectangle_pack_c.proofs.session_of.Goals as goal

pub loop-i-preserved : goal.loop-i-preserved
loop-i-preserved c =
    added_more c.args.bins.now c.loop-i.i _ c.loop-i-test.true (get_or_default c.args.bins.now c.loop-i.i _ _ c.loop-i-test.true)
    c.loop-i.session c.add_bin.new.self c.loop-i.invariant c.in_ok-add_bin.ensures.added
