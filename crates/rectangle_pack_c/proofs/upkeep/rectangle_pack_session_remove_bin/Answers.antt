use Rattle.rectangle_pack.specs.Session.{reply_of}
use Rattle.rectangle_pack_c.proofs.SessionLemmas.{changed_so}
use Rattle.rectangle_pack_c.proofs.upkeep.rectangle_pack_session_remove_bin.Goals as goal

pub returns : goal.returns
returns c =
    let answer = c.remove_bin-answer.ensures in
    record {
      removed = changed_so (reply_of c.remove_bin-answer.result) c.take-held.ensures.taken c.deref_mut.ensures.value c.of.ensures c.status.ensures
          answer.removed answer.always;
    }
