use Rattle.rectangle_pack_sections.proofs.Std.{filter_passes}
use Rattle.rectangle_pack_sections.specs.Boxes.{has_cells}
use Rattle.rectangle_pack_covers.proofs.lemmas.StraightCuts.{parts_inside}
use Rattle.rectangle_pack_covers.proofs.straight_cuts.straight_cuts.Goals as goal

pub cut_anew-requires-clause-cells : goal.cut_anew-requires-clause-cells
cut_anew-requires-clause-cells g c = rw (c.as_mut_slice.ensures.value, c.in_ok-standing.ensures) (filter_passes has_cells c.args.boxes.now)

pub cut_anew-requires-clause-inside : goal.cut_anew-requires-clause-inside
cut_anew-requires-clause-inside g c = rw (c.all_of.ensures.whole, c.as_mut_slice.ensures.value, c.in_ok-standing.ensures)
    (parts_inside c.args.size c.args.boxes.now c.in_ok-check_sections.ensures.inside)
