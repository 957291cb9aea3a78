use Rattle.rectangle_pack_c.proofs.Std.{arith, sym, refl, length-map}
use Rattle.rectangle_pack_c.proofs.LoopLemmas.{told_more, told_all}
use Rattle.rectangle_pack_c.proofs.reading.tell.Goals as goal

pub loop-i-preserved : goal.loop-i-preserved
loop-i-preserved g c =
    rw (c.loop-i.invariant, c.of.ensures)
    (told_more g.T.Written.written c.args.there.now c.args.array.now c.loop-i.i c.index-there-i.result c.loop-i-test.true
    (omega (arith, c.if-array-there.false)) c.index-there-i.is)

pub returns-then-array-there : goal.returns-then-array-there
returns-then-array-there g c =
    let many = length-map c.args.there.now g.T.Written.written in
    record { counted = sym many; enough = λ fits. absurd (omega (arith, fits, many, c.if-array-there.true)); short = λ _. (refl, refl) }

pub returns : goal.returns
returns g c =
    let many = length-map c.args.there.now g.T.Written.written in
    record {
      counted = sym many;
      enough = λ _. (
        refl,
        told_all g.T.Written.written c.args.there.now c.args.array.now c.loop-i.array c.loop-i.i
            (omega (arith, c.loop-i-test.false, c.loop-i.auto.i-end)) c.loop-i.invariant,
      );
      short = λ less. absurd (omega (arith, less, many, c.if-array-there.false));
    }
