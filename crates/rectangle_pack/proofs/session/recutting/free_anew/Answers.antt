use Rattle.rectangle_pack_sections.proofs.Std.{filter_passes}
use Rattle.rectangle_pack_sections.specs.Boxes.{has_cells}
use Rattle.rectangle_pack.specs.Session.{outstanding_in}
use Rattle.rectangle_pack.proofs.session.recutting.free_anew.Goals as goal

pub cut_anew-requires-clause-cells : goal.cut_anew-requires-clause-cells
cut_anew-requires-clause-cells g c = rw (c.as_mut_slice.ensures.value, c.in_ok-gather_outstanding.ensures, c.new-boxes.ensures.items)
    (filter_passes has_cells (outstanding_in g.B.Ord.cmp c.args.outstanding.now c.args.id.now))

pub cut_anew-requires-clause-inside : goal.cut_anew-requires-clause-inside
cut_anew-requires-clause-inside g c = rw (c.as_mut_slice.ensures.value, c.in_ok-gather_outstanding.ensures, c.new-boxes.ensures.items) c.requires.inside

pub returns : goal.returns
returns g c = rw (c.as_mut_slice.ensures.value, c.in_ok-gather_outstanding.ensures, c.new-boxes.ensures.items) at c.cut_anew.ensures
