use Rattle.std.proofs.Common.{◌<◌, ◌^◌, arith}
use Rattle.std.proofs.lemmas.Fmt.{length-decimal-le_wide}
use Rattle.packrun_lines.proofs.lemmas.Decimals.{IsSpelling-begun, IsSpelling-more}
use Rattle.packrun_lines.proofs.bytes.put_number.Goals as goal

pub loop-rest-init : goal.loop-rest-init
loop-rest-init c =
    let small : c.args.number < 10 ^ 64 = omega (arith, c.ranges.number.fits) in
    let short = length-decimal-le_wide 39 c.args.number (omega arith) (omega (arith, c.ranges.number.fits)) small in
    IsSpelling-begun c.args.number c.args.line.now c.args.end small (omega (arith, short, c.requires.room)) c.requires.within

pub loop-rest-preserved : goal.loop-rest-preserved
loop-rest-preserved c = IsSpelling-more _ _ _ c.loop-rest.rest c.loop-rest.line c.loop-rest.at (omega (arith, c.loop-rest-test.true)) c.loop-rest.invariant
