use Rattle.rectangle_pack_c.proofs.Std.{ℕ, ◌∙◌, ap}
use Rattle.rectangle_pack.specs.Session.{State}
use Rattle.rectangle_pack_c.proofs.reading.rectangle_pack_session_next_number.Goals as goal

pub returns-clause-number : goal.returns-clause-number
returns-clause-number c =
    rw c.take-held.ensures.taken (c.next_number-number.ensures ∙ ap (λ (s : State ℕ ℕ). s.next) c.deref.ensures)
