use Rattle.rectangle_pack_sections.proofs.Std.{length}
use Rattle.rectangle_pack_lists.proofs.lemmas.joining.Sweeps.{IsJoined-one, IsSwept-one}
use Rattle.rectangle_pack_lists.proofs.laws.joining_has_one_result.Goals as goal

pub returns-clause-joined : goal.returns-clause-joined
returns-clause-joined c = λ old one other idx lo hi p q. IsJoined-one p q

pub returns-clause-swept : goal.returns-clause-swept
returns-clause-swept c = λ old one other p q. IsSwept-one (length old) old one other p q
