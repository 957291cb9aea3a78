use Rattle.rectangle_pack_sections.proofs.Std.{◌≡◌, ◌+◌, refl, ap, ◌∙◌, take, take_all, take_more, Bor, IfOk-from_err}
use borrow.Author.Count.{falls}
use Rattle.rectangle_pack_sections.specs.Boxes.{volume_of}
use Rattle.rectangle_pack_lists.specs.Numbers.{saturated}
use Rattle.rectangle_pack_packing.specs.private.Cells.{cells_in}
use Rattle.rectangle_pack_packing.proofs.lemmas.best.Fillings.{cells_in-more}
use Rattle.rectangle_pack_packing.proofs.uses.count_cells.Goals as goal

pub loop-placement-preserved : goal.loop-placement-preserved
loop-placement-preserved g c = λ id.
    let i = c.loop-placement.placement-index in
    let p = c.placement-item.result in
    let old = c.loop-placement.cells.entries in
    let counted : c.saturating_add-filled.result ≡ saturated (cells_in g.B.Ord.cmp old p.bin + volume_of p.location.whd) =
    c.saturating_add-filled.ensures ∙ rw (c.unwrap_or.ensures, c.copied.ensures, c.get.ensures.value, c.volume-volume.ensures, c.whd.ensures, c.section_at.ensures) refl in
    let key : g.row.B.Denot → Bor g.row.B.Denot = λ q. record { ref_ptr = c.args.placements.ref_ptr; now = q } in
    rw (take_more c.args.placements.now i p c.loop-placement-test.true, ← c.placement-item.is)
    (cells_in-more g.met.B.Ord.total (take i c.args.placements.now) p old c.insert.new.self.entries c.saturating_add-filled.result
    c.loop-placement.invariant counted (λ q. c.in_ok-insert.ensures.updates.0 (key q)) id)

pub loop-placement-init : goal.loop-placement-init
loop-placement-init g c = λ id. ap (λ es. cells_in g.B.Ord.cmp es id) c.new-cells.ensures.empty

pub returns-in_err-insert : goal.returns-in_err-insert
returns-in_err-insert g c = IfOk-from_err _ _ c.from_residual.ensures.0

pub loop-placement-smaller : goal.loop-placement-smaller
loop-placement-smaller g c = falls _ c.loop-placement.placement-index c.loop-placement-test.true

pub returns : goal.returns
returns g c = rw (take_all c.loop-placement.placement-index c.args.placements.now c.loop-placement-test.false) at c.loop-placement.invariant
