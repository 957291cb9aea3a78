use Rattle.rectangle_pack_sections.proofs.Std.{rules}
use Rattle.rectangle_pack_sections.proofs.bin_section.cutting.pieces_round.Goals as goal

pub returns : goal.returns
returns c = search rules
