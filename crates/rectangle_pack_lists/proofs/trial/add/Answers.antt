use Rattle.rectangle_pack_sections.proofs.Std.{rules}
use Rattle.rectangle_pack_lists.proofs.trial.add.Goals as goal

pub returns : goal.returns
returns c = search rules
