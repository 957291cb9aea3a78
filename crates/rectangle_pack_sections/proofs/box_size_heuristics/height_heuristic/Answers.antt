use Rattle.rectangle_pack_sections.proofs.Std.{rules}
use Rattle.rectangle_pack_sections.proofs.box_size_heuristics.height_heuristic.Goals as goal

pub returns : goal.returns
returns c = search rules
