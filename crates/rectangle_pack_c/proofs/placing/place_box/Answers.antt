use Rattle.rectangle_pack_c.proofs.Std.{refl}
use Rattle.rectangle_pack.specs.declared.session.command.Reply.TheVariants.{Done, Refused}
use Rattle.rectangle_pack_c.proofs.SessionLemmas.{changed_so}
use Rattle.rectangle_pack_c.proofs.placing.place_box.Goals as goal

pub returns-in-Ok-clause-placed : goal.returns-in-Ok-clause-placed
returns-in-Ok-clause-placed c = λ _. changed_so Done c.take-held.ensures.taken c.deref_mut.ensures.value c.of.ensures refl
    (c.in-Some.heuristic, c.in-Some.ensures.1, c.in-Ok.ensures.placed) c.in-Ok.ensures.always

pub returns-in-Err-clause-placed : goal.returns-in-Err-clause-placed
returns-in-Err-clause-placed c = λ _. changed_so (Refused c.in-Err.error) c.take-held.ensures.taken c.deref_mut.ensures.value c.of.ensures c.refusal.ensures
    (c.in-Some.heuristic, c.in-Some.ensures.1, c.in-Err.ensures.refused, refl) c.in-Err.ensures.always
