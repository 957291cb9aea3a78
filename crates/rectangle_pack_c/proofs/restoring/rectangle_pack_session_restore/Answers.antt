use Rattle.rectangle_pack_c.proofs.Std.{sym, ◌∙◌}
use Rattle.rectangle_pack_c.proofs.SavedLemmas.{no_saved}
use Rattle.rectangle_pack_c.proofs.restoring.rectangle_pack_session_restore.Goals as goal

pub returns-in-Some-clause-no_session : goal.returns-in-Some-clause-no_session
returns-in-Some-clause-no_session c = λ _ state.
    no_saved c.args.saved.now c.in-Err.error c.in-Some.found (sym c.wrong_of.ensures ∙ c.in-Some.is) c.in-Err.ensures.refused state
