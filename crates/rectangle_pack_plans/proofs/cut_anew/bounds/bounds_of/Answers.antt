use Rattle.rectangle_pack_sections.proofs.Std.{arith}
use Rattle.rectangle_pack_plans.proofs.lemmas.cut_anew.Bounds.{AreBounds-first, AreBounds-more, AreBounds-all}
use Rattle.rectangle_pack_plans.proofs.cut_anew.bounds.bounds_of.Goals as goal

pub loop-next-init : goal.loop-next-init
loop-next-init c = AreBounds-first c.args.boxes.now c.requires.fit c.index-boxes-0.result c.requires.some c.index-boxes-0.is

pub hull_of-bounds-requires-clause-first : goal.hull_of-bounds-requires-clause-first
hull_of-bounds-requires-clause-first c = c.loop-next.invariant.fits

pub loop-next-preserved : goal.loop-next-preserved
loop-next-preserved c = AreBounds-more c.args.boxes.now c.requires.fit c.loop-next.next-index c.loop-next.bounds c.next-item.result c.hull_of-bounds.result
    (omega (arith, c.loop-next-test.true, c.loop-next.auto.next-index-end)) c.next-item.is c.hull_of-bounds.ensures c.loop-next.invariant

pub returns : goal.returns
returns c = AreBounds-all c.args.boxes.now c.requires.fit c.loop-next.next-index c.loop-next.bounds
    (omega (arith, c.loop-next-test.false, c.loop-next.auto.next-index-end)) c.loop-next.invariant
