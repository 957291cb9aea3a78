use Rattle.rectangle_pack_sections.proofs.Std.{arith}
use Rattle.rectangle_pack_c.proofs.JudgingLemmas.{AreShort-verdict}
use Rattle.rectangle_pack_c.proofs.judging.rectangle_pack_check.Goals as goal

pub fault_of-requires : goal.fault_of-requires
fault_of-requires c = AreShort-verdict c.args.bins.now c.args.entries.now c.args.exclusions.now c.args.claims.now c.in-Ok.found
    (omega (arith, c.if-entries-ge-LIMIT.false)) (omega (arith, c.if-claims-ge-LIMIT.false)) c.in-Ok.ensures
