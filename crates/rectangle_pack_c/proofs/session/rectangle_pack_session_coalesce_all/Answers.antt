use Rattle.rectangle_pack.specs.Session.{reply_of}
use Rattle.rectangle_pack_c.proofs.SessionLemmas.{changed_so}
use Rattle.rectangle_pack_c.proofs.session.rectangle_pack_session_coalesce_all.Goals as goal

pub returns-clause-swept : goal.returns-clause-swept
returns-clause-swept c =
    let answer = c.coalesce_all-answer.ensures in
    changed_so (reply_of c.coalesce_all-answer.result) c.take-held.ensures.taken c.deref_mut.ensures.value c.of.ensures c.status.ensures answer.swept answer.always
