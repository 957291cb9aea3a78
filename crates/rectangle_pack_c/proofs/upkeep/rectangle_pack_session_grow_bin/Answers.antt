use Rattle.rectangle_pack_c.proofs.Std.{arith}
use Rattle.rectangle_pack.specs.Session.{reply_of}
use Rattle.rectangle_pack_c.proofs.SessionLemmas.{changed_so}
use Rattle.rectangle_pack_c.proofs.UpkeepLemmas.{axes_are_three}
use Rattle.rectangle_pack_c.proofs.upkeep.rectangle_pack_session_grow_bin.Goals as goal

pub returns-in_default-clause-grown : goal.returns-in_default-clause-grown
returns-in_default-clause-grown c = λ small. absurd (omega (arith, small, c.in_default.ensures))

pub returns-clause-unknown_axis : goal.returns-clause-unknown_axis
returns-clause-unknown_axis c = λ large. absurd (omega (arith, large, axes_are_three c.in-Some.axis c.args.axis c.in-Some.ensures))

pub returns-clause-grown : goal.returns-clause-grown
returns-clause-grown c = λ _.
    let answer = c.grow_bin-answer.ensures in
    changed_so (reply_of c.grow_bin-answer.result) c.take-held.ensures.taken c.deref_mut.ensures.value c.of.ensures c.status.ensures
    (c.in-Some.axis, c.in-Some.ensures, answer.grown) answer.always
