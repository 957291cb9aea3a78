use Rattle.std.proofs.Common.{arith}
use Rattle.rectangle_pack_bounds.proofs.lemmas.Greatest.{enclosing_more}
use Rattle.rectangle_pack_bounds.proofs.least_bins.enclosing.Goals as goal

pub loop-size-preserved : goal.loop-size-preserved
loop-size-preserved c =
    rw c.any_size-all-in-loop-size.ensures
    (enclosing_more c.args.sizes.now c.loop-size.size-index c.size-item.result c.loop-size.all _ _ _
    c.loop-size-test.true c.size-item.is c.loop-size.invariant (grind arith) (grind arith) (grind arith))
