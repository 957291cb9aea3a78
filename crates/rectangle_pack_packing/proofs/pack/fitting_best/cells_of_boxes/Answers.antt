use Rattle.rectangle_pack_sections.proofs.Std.{ap, refl, take_all}
use borrow.Author.Count.{falls}
use Rattle.rectangle_pack_lists.specs.Numbers.{saturated}
use Rattle.rectangle_pack_packing.specs.Fitting.{cells_of_box}
use Rattle.rectangle_pack_packing.proofs.lemmas.best.Left.{counted-more}
use Rattle.rectangle_pack_packing.proofs.pack.fitting_best.cells_of_boxes.Goals as goal

pub loop-id-init : goal.loop-id-init
loop-id-init g c = refl

pub loop-id-preserved : goal.loop-id-preserved
loop-id-preserved g c =
    counted-more (cells_of_box g.Id.Ord.cmp c.args.rects_to_place.now) c.args.ids.now c.loop-id.id-index c.id-item.result c.loop-id.cells _ _
    c.loop-id-test.true c.id-item.is c.loop-id.invariant (ap saturated c.cells_of_box.ensures) c.saturating_add-cells.ensures

pub loop-id-smaller : goal.loop-id-smaller
loop-id-smaller g c = falls _ c.loop-id.id-index c.loop-id-test.true

pub returns : goal.returns
returns g c = rw (take_all c.loop-id.id-index c.args.ids.now c.loop-id-test.false) at c.loop-id.invariant
