use Rattle.rectangle_pack.specs.Session.{reply_of}
use Rattle.rectangle_pack_c.proofs.SessionLemmas.{changed_so}
use Rattle.rectangle_pack_c.proofs.placing.rectangle_pack_session_release_all.Goals as goal

pub returns : goal.returns
returns c =
    let answer = c.release_all-answer.ensures in
    record {
      released = changed_so (reply_of c.release_all-answer.result) c.take-held.ensures.taken c.deref_mut.ensures.value c.of.ensures c.status.ensures
          answer.released answer.always;
    }
