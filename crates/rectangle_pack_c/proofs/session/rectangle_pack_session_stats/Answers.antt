use Rattle.rectangle_pack_c.proofs.Std.{refl}
use Rattle.rectangle_pack_c.proofs.session.rectangle_pack_session_stats.Goals as goal

pub returns-clause-told : goal.returns-clause-told
returns-clause-told c = record {
  state = c.take-held.result.value;
  has = c.take-held.ensures.taken;
  told = rw (← c.deref.ensures, ← c.in-Some.ensures.stats) (refl, rw (c.parted.ensures, c.parted-2.ensures, c.parted-3.ensures) refl);
  whole = λ _. rw (c.parted.ensures, c.parted-2.ensures, c.parted-3.ensures) c.in-Some.ensures.whole;
}
