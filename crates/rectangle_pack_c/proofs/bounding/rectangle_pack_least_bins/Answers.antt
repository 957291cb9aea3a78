use Rattle.rectangle_pack_c.proofs.Std.{None, Some, arith}
use Rattle.rectangle_pack_c.proofs.BoundingLemmas.{claimed_enough, no_fault}
use Rattle.rectangle_pack_c.proofs.bounding.rectangle_pack_least_bins.Goals as goal

pub returns-in-Ok-Some-clause-faults : goal.returns-in-Ok-Some-clause-faults
returns-in-Ok-Some-clause-faults c =
    rw (no_fault c.args.bins.now c.args.collection.now c.fault-fault.result (omega (arith, c.if-bins-ge-LIMIT.false)) c.fault-fault.ensures
    c.if-fault-ne-RP_DONE.false) (omega arith)

pub returns-in-Ok-Some-clause-placed : goal.returns-in-Ok-Some-clause-placed
returns-in-Ok-Some-clause-placed c = λ _ claims packed.
    claimed_enough c.args.bins.now c.args.collection.now c.args.turns.now (Some c.in-Ok-Some.shown) (rw c.in-Ok-Some.field-0-is at c.in-Ok-Some.ensures)
    claims packed

pub returns-in-Ok-None-clause-faults : goal.returns-in-Ok-None-clause-faults
returns-in-Ok-None-clause-faults c =
    rw (no_fault c.args.bins.now c.args.collection.now c.fault-fault.result (omega (arith, c.if-bins-ge-LIMIT.false)) c.fault-fault.ensures
    c.if-fault-ne-RP_DONE.false) (omega arith)

pub returns-in-Ok-None-clause-never_placed : goal.returns-in-Ok-None-clause-never_placed
returns-in-Ok-None-clause-never_placed c = λ _ claims packed.
    claimed_enough c.args.bins.now c.args.collection.now c.args.turns.now None (rw c.in-Ok-None.field-0-is at c.in-Ok-None.ensures) claims packed
