use Rattle.rectangle_pack.specs.Session.{reply_of}
use Rattle.rectangle_pack_c.proofs.SessionLemmas.{changed_so}
use Rattle.rectangle_pack_c.proofs.upkeep.rectangle_pack_session_recut.Goals as goal

pub returns : goal.returns
returns c =
    let answer = c.recut-answer.ensures in
    record {
      recut = changed_so (reply_of c.recut-answer.result) c.take-held.ensures.taken c.deref_mut.ensures.value c.of.ensures c.status.ensures answer.recut answer.always;
    }
