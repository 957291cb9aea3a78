use Rattle.std.proofs.Common.{ℕ, ◌^◌, ◌-◌, ◌<◌, ◌≤◌, arith, length, length-set}
use Rattle.std.specs.Fmt.{decimal}
use Rattle.std.proofs.lemmas.Fmt.{length-decimal-le}
use Rattle.packrun_lines.proofs.bytes.put_side.Goals as goal

short : (n : ℕ) → n < 2 ^ 32 → length (decimal n) ≤ 10
short n fits = length-decimal-le 10 n (omega arith) (omega (arith, fits)) (omega (arith, fits))

pub write_digits-requires : goal.write_digits-requires
write_digits-requires c =
    record {
      room = omega (arith, short c.args.side c.ranges.side.fits, c.requires.room);
      within = omega (arith, length-set c.args.line.now (c.args.end - 1) c.args.behind, c.requires.within);
    }

pub returns-clause-start : goal.returns-clause-start
returns-clause-start c = omega (arith, short c.args.side c.ranges.side.fits, c.write_digits.ensures.start, c.requires.room)
