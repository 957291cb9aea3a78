use Rattle.rectangle_pack_c.proofs.Std.{◌∙◌, sym, ap, Some}
use Rattle.rectangle_pack_c.proofs.SessionLemmas.{told_coalesced}
use Rattle.rectangle_pack_c.proofs.reading.rectangle_pack_session_was_coalesced.Goals as goal

pub returns-then-was-clause-told : goal.returns-then-was-clause-told
returns-then-was-clause-told c =
    rw (c.take-held.ensures.taken, ← c.deref.ensures)
    (told_coalesced _ _ _ (sym c.was_coalesced-answer.ensures ∙ c.in-Some.is ∙ ap (λ was. Some was) c.if-was.true))

pub returns-else-was-clause-told : goal.returns-else-was-clause-told
returns-else-was-clause-told c =
    rw (c.take-held.ensures.taken, ← c.deref.ensures)
    (told_coalesced _ _ _ (sym c.was_coalesced-answer.ensures ∙ c.in-Some.is ∙ ap (λ was. Some was) c.if-was.false))
