use Rattle.std.proofs.Common.{refl, sym, ◌∙◌}
use Rattle.packrun_lines.proofs.lemmas.Printing.{printed-more, printed-all, printed-stopped}
use Rattle.packrun_lines.proofs.bytes.print_bytes.Goals as goal

pub loop-preserved : goal.loop-preserved
loop-preserved g c =
    let (front, is, before) = c.loop.invariant in
    printed-more c.args.bytes.now front c.loop.rest.now c.in_ok-count.count _ _ _ is before
    c.in_ok-count.ensures.printed

pub returns-then-is_empty : goal.returns-then-is_empty
returns-then-is_empty g c =
    let (front, is, before) = c.loop.invariant in
    printed-all c.args.bytes.now front c.loop.rest.now _ _ is before
    (sym c.is_empty.ensures ∙ c.if-is_empty.true)

pub returns : goal.returns
returns g c =
    let (front, is, before) = c.loop.invariant in
    (refl, (front, c.loop.rest.now, is, before))

pub returns-in_err-count : goal.returns-in_err-count
returns-in_err-count g c =
    let (front, is, before) = c.loop.invariant in
    printed-stopped c.args.bytes.now front c.loop.rest.now _ _ _ c.from_residual.result
    c.in_err-count.field-0.0 is before c.in_err-count.ensures.failed c.from_residual.ensures.1
