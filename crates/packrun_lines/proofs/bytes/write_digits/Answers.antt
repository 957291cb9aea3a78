use Rattle.std.proofs.Common.{◌+◌, ◌++◌, length, drop, sym, ap, ◌∙◌, arith}
use Rattle.std.proofs.lemmas.Fmt.{decimal_digit}
use Rattle.packrun_lines.proofs.lemmas.Decimals.{written_before, IsSpelling-begun, IsSpelling-more}
use Rattle.packrun_lines.proofs.bytes.write_digits.Goals as goal

pub loop-rest-init : goal.loop-rest-init
loop-rest-init c = IsSpelling-begun c.args.number c.args.line.now c.args.end (omega (arith, c.ranges.number.fits)) c.requires.room c.requires.within

pub loop-rest-preserved : goal.loop-rest-preserved
loop-rest-preserved c = IsSpelling-more _ _ _ c.loop-rest.rest c.loop-rest.line c.loop-rest.at c.loop-rest-test.true c.loop-rest.invariant

pub returns-clause-start : goal.returns-clause-start
returns-clause-start c =
    omega (arith, c.loop-rest.invariant.some, ap length (decimal_digit c.loop-rest.rest (omega (arith, c.loop-rest-test.false))), c.loop-rest.invariant.places)

pub returns-clause-written : goal.returns-clause-written
returns-clause-written c =
    let rest = c.loop-rest.rest in
    written_before c.loop-rest.line c.loop-rest.at (48 + rest) c.loop-rest.invariant.some c.loop-rest.invariant.within
    ∙ ap (λ t. t ++ drop c.loop-rest.at c.loop-rest.line) (sym (decimal_digit rest (omega (arith, c.loop-rest-test.false))))
    ∙ c.loop-rest.invariant.written
