use Rattle.std.proofs.Common.{◌≢◌, ◌-◌, All, take, take-take, subst, arith}
use Rattle.std.proofs.lemmas.List.Elements.{All-more, All-take}
use Rattle.packrun_lines.proofs.input.length_of_part.Goals as goal

pub loop-index-preserved : goal.loop-index-preserved
loop-index-preserved c =
    All-more (λ b. b ≢ 10) c.args.bytes.now c.loop-index.index 0
    (omega (arith, c.loop-index-test.true, c.min-most.ensures)) c.loop-index.invariant
    c.if-bytes-index-eq10.false

pub returns-clause-before : goal.returns-clause-before
returns-clause-before c =
    let bytes = c.args.bytes.now in
    let before = c.min-most.result - 1 in
    subst (All (λ b. b ≢ 10))
    (take-take before c.loop-index.index bytes (omega (arith, c.loop-index-test.false)))
    (All-take (λ b. b ≢ 10) before (take c.loop-index.index bytes) c.loop-index.invariant)
