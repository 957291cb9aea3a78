use Rattle.rectangle_pack_sections.proofs.Std.{◌∙◌, ap, refl, take_all, map, Bor}
use borrow.Author.Count.{falls}
use Rattle.rectangle_pack_sections.specs.declared.group.Group.{Group}
use Rattle.rectangle_pack_lists.specs.Numbers.{saturated}
use Rattle.rectangle_pack_packing.proofs.lemmas.best.Left.{counted-more, saturated-twice, sum_by-mapped}
use Rattle.rectangle_pack_packing.proofs.pack.fitting_best.cells_left.Invariants.{cells}
use Rattle.rectangle_pack_packing.proofs.pack.fitting_best.cells_left.Goals as goal

pub loop-name-init : goal.loop-name-init
loop-name-init g c = refl

pub loop-name-preserved : goal.loop-name-preserved
loop-name-preserved g c =
    counted-more (cells g c.args.rects_to_place.now) c.args.left.now c.loop-name.name-index c.name-item.result c.loop-name.cells _ _
    c.loop-name-test.true c.name-item.is c.loop-name.invariant (ap saturated c.cells_of_group.ensures ∙ saturated-twice _) c.saturating_add-cells.ensures

pub loop-name-smaller : goal.loop-name-smaller
loop-name-smaller g c = falls _ c.loop-name.name-index c.loop-name-test.true

pub returns : goal.returns
returns g c =
    rw (take_all c.loop-name.name-index c.args.left.now c.loop-name-test.false) at c.loop-name.invariant
    ∙ ap saturated (sum_by-mapped _ (λ (k : Bor (Group g.row.GroupId.Denot g.row.Id.Denot)). k.now) c.args.left.now)
