use Rattle.std.proofs.Common.{refl, subst}
use Rattle.packrun_lines.specs.private.Reading.{IsPartRead}
use Rattle.packrun_lines.proofs.lemmas.ReadLines.{IsLineRead-of, goes_on-more, consumed-more}
use Rattle.packrun_lines.proofs.input.read_line.Goals as goal

pub returns-then-branch : goal.returns-then-branch
returns-then-branch g c =
    let step = c.in_ok-read_part.ensures in
    let part = subst (IsPartRead _ _ _ _) c.if-branch.true step.part in
    record {
      read = IsLineRead-of _ _ _ c.loop.line.items c.read_part.new.line.items c.loop.invariant.0 c.loop.invariant.2 step.appends part;
      retried = tt;
    }

pub loop-preserved : goal.loop-preserved
loop-preserved g c =
    let step = c.in_ok-read_part.ensures in
    let part = subst (IsPartRead _ _ _ _) c.if-branch.false step.part in (
      goes_on-more (g.B.Read.remaining c.args.input.now) _ _ c.loop.line.items c.read_part.new.line.items c.loop.invariant.0 step.appends part,
      (part.goes_on refl).1,
      consumed-more _ _ _ c.loop.line.items c.read_part.new.line.items c.loop.invariant.2 step.appends _ part,
    )
