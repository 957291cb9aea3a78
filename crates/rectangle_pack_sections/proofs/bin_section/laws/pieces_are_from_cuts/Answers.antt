use Rattle.rectangle_pack_sections.proofs.lemmas.cuts.PiecesAreLeaves.{order_from_cuts}
use Rattle.rectangle_pack_sections.proofs.bin_section.laws.pieces_are_from_cuts.Goals as goal

pub returns : goal.returns
returns c = order_from_cuts
