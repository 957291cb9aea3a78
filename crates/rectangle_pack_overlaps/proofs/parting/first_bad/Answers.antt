use Rattle.rectangle_pack_sections.proofs.Std.{arith}
use Rattle.rectangle_pack_overlaps.proofs.lemmas.Parting.{IsFound-limit, IsFound-here, IsFound-end, apart-more, index-at}
use Rattle.rectangle_pack_overlaps.proofs.parting.first_bad.Goals as goal

pub returns-then-limit-part : goal.returns-then-limit-part
returns-then-limit-part c =
    let at = index-at c.args.parts.now c.loop-i.i c.index-parts-i.result c.loop-i-test.true c.index-parts-i.is in
    IsFound-limit c.args.parts.now c.requires c.loop-i.i c.loop-i.invariant c.args.limit c.loop-i-test.true
    (λ d. omega (arith, c.if-limit-part.true, at d))

pub returns-then-shares_with : goal.returns-then-shares_with
returns-then-shares_with c =
    let found = c.if-shares_with.ensures in
    IsFound-here c.args.parts.now c.requires c.loop-i.i c.loop-i.invariant c.args.limit c.index-parts-i.result c.loop-i-test.true c.index-parts-i.is
    (omega (arith, c.if-limit-part.false)) found.0 found.1 found.2

pub loop-i-preserved : goal.loop-i-preserved
loop-i-preserved c =
    apart-more c.args.parts.now c.requires c.loop-i.i c.loop-i.invariant c.index-parts-i.result c.loop-i-test.true c.index-parts-i.is (c.if-shares_with.ensures)

pub returns : goal.returns
returns c = IsFound-end c.args.parts.now c.loop-i.i c.args.limit (omega (arith, c.loop-i-test.false, c.loop-i.auto.i-end)) c.loop-i.invariant
