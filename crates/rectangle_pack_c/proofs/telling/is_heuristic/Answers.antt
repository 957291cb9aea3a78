use Rattle.rectangle_pack_c.proofs.Std.{◌∙◌}
use Rattle.rectangle_pack_c.proofs.ToldLemmas.{heuristic_seen}
use Rattle.rectangle_pack_c.proofs.telling.is_heuristic.Goals as goal

pub returns : goal.returns
returns c = c.is_some.ensures ∙ heuristic_seen c.args.number c.heuristic_of.result c.heuristic_of.ensures
