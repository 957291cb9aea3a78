use Rattle.std.proofs.Common.{[], ℕ, List, subst, take_all, append-nil}
use Rattle.std.specs.Borrow.{Bor}
use Rattle.std.specs.Io.KnownBytes.{Appends}
use Rattle.std.proofs.lemmas.List.{get_or_default}
use Rattle.packrun_lines.specs.private.Printing.{Prints, bytes_of_parts}
use Rattle.packrun_lines.proofs.lemmas.Printing.{Appends-item, Prints-item_stopped}
use Rattle.packrun_lines.proofs.bytes.print_parts.Goals as goal

pub loop-part-preserved : goal.loop-part-preserved
loop-part-preserved g c =
    Appends-item (λ (part : Bor (List ℕ)). part.now) c.args.parts.now c.loop-part.part-index
    _ _ _ _ c.loop-part-test.true (get_or_default _ _ _ _ c.loop-part-test.true) c.loop-part.invariant
    c.in_ok-print_bytes.ensures

pub returns-in_err-print_bytes : goal.returns-in_err-print_bytes
returns-in_err-print_bytes g c =
    let contents = g.W.Write.contents in
    subst (Prints (contents c.args.out.now) (contents c.print_bytes.new.out) c.from_residual.result)
    (append-nil (bytes_of_parts c.args.parts.now))
    (Prints-item_stopped (λ (part : Bor (List ℕ)). part.now) c.args.parts.now
    c.loop-part.part-index _ [] _ _ _ c.from_residual.result c.in_err-print_bytes.field-0.0
    c.loop-part-test.true (get_or_default _ _ _ _ c.loop-part-test.true) c.loop-part.invariant
    c.in_err-print_bytes.ensures c.from_residual.ensures.1)

pub returns : goal.returns
returns g c =
    let contents = g.W.Write.contents in
    subst
    (λ parts. Appends (contents c.args.out.now) (contents c.loop-part.out) (bytes_of_parts parts))
    (take_all c.loop-part.part-index c.args.parts.now c.loop-part-test.false) c.loop-part.invariant
