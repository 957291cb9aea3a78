use Rattle.rectangle_pack_c.proofs.Std.{◌∙◌, ap, Some}
use Rattle.rectangle_pack_c.proofs.session.rectangle_pack_session_new.Goals as goal

pub returns-clause-made : goal.returns-clause-made
returns-clause-made c = λ _. c.of.ensures ∙ ap (λ s. Some s) (c.in-Ok.ensures.ok ∙ c.new.ensures)
