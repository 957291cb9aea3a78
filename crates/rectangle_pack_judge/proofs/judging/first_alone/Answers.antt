use Rattle.rectangle_pack_sections.proofs.Std.{arith, ◌∙◌, sym}
use Rattle.rectangle_pack_judge.specs.Judging.{StandsAlone}
use Rattle.rectangle_pack_judge.proofs.lemmas.Verdicts.{not_alone-some, alone-none, All-take_more, IsFirstAlone-here, IsFirstAlone-end}
use Rattle.rectangle_pack_judge.proofs.judging.first_alone.Goals as goal

pub returns-then-is_some : goal.returns-then-is_some
returns-then-is_some c =
    let here = c.index-claims-i.result in
    IsFirstAlone-here c.args.case.now c.args.claims.now c.loop-i.i here c.loop-i-test.true c.index-claims-i.is c.loop-i.invariant
    (not_alone-some c.args.case.now here c.alone_fault.result c.alone_fault.ensures (sym c.is_some.ensures ∙ c.if-is_some.true))

pub loop-i-preserved : goal.loop-i-preserved
loop-i-preserved c =
    let here = c.index-claims-i.result in
    All-take_more c.args.case.now c.args.claims.now (StandsAlone c.args.case.now) c.loop-i.i here c.loop-i-test.true c.index-claims-i.is c.loop-i.invariant
    (alone-none c.args.case.now here c.alone_fault.result c.alone_fault.ensures (sym c.is_some.ensures ∙ c.if-is_some.false))

pub returns : goal.returns
returns c = IsFirstAlone-end c.args.case.now c.args.claims.now c.loop-i.i (omega (arith, c.loop-i-test.false, c.loop-i.auto.i-end)) c.loop-i.invariant
