use Rattle.rectangle_pack_sections.proofs.Std.{◌≡◌, sym, ap, ◌∙◌, ◌++◌, filter, filter-append}
use Rattle.rectangle_pack_sections.specs.Boxes.{has_cells}
use Rattle.rectangle_pack.specs.Session.{outstanding_in}
use Rattle.rectangle_pack.proofs.session.cut_plan.boxes_of.Goals as goal

pub returns : goal.returns
returns g c =
    let sections = c.args.bin.now.bin.sections in
    let placed = outstanding_in g.B.Ord.cmp c.args.outstanding.now c.args.id.now in
    let free : c.add_with_cells.new.all.items ≡ filter has_cells sections = rw
    (c.as_slice.ensures.value, c.available_bin_sections.ensures.items, c.new-boxes.ensures.items) at c.in_ok-add_with_cells.ensures in
    c.in_ok-gather_outstanding.ensures ∙ ap (λ l. l ++ filter has_cells placed) free ∙ sym (filter-append has_cells sections placed)
