use Rattle.rectangle_pack_sections.proofs.Std.{refl}
use Rattle.rectangle_pack_sections.specs.Boxes.{extent, start}
use Rattle.rectangle_pack_sections.specs.Cuts.{piece_start, piece_extent, piece, pieces, cuts}
use Rattle.rectangle_pack_sections.proofs.bin_section.BinSection.cuts.Goals as goal

pub returns : goal.returns
unfolding extent start piece_start piece_extent piece pieces cuts
returns c =
    rw (c.pieces_round.ensures, c.pieces_round-2.ensures, c.pieces_round-3.ensures)
    (rw (c.pieces_round-4.ensures, c.pieces_round-5.ensures, c.pieces_round-6.ensures)
    (rw (c.width-w.ensures, c.height-h.ensures, c.depth-d.ensures)
    (rw (c.from-size.ensures, c.width-width.ensures, c.height-height.ensures, c.depth-depth.ensures, ← c.self.view_is) refl)))
