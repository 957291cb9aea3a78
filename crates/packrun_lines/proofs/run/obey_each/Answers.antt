use Rattle.std.proofs.Common.{◌+◌, Err, IfSome, sym, subst, ◌∙◌, length, arith}
use Rattle.std.specs.Io.BufRead.{strip_last}
use Rattle.std.specs.Io.Buffered.{reader_remaining}
use Rattle.packrun_lines.specs.Requests.{Asks, IsBad}
use Rattle.packrun_lines.specs.private.Commands.{request_of}
use Rattle.packrun_lines.specs.private.Obeying.{StopsSo}
use Rattle.packrun_lines.proofs.lemmas.Transcripts.{Obeyed-more, Obeyed-at_end, Obeyed-stopped, Obeyed-bad, Obeyed-failed, none_is, some_is, err_is}
use Rattle.packrun_lines.proofs.run.obey_each.Goals as goal

pub returns : goal.returns
returns g c =
    let line = c.in_ok-next_line.ensures in
    let none = none_is (length c.next_line.new.line.items) (sym line.some ∙ c.if-branch.false) in
    Obeyed-at_end _ c.args.store.now _ _ _ c.next_line.new.line.items (c.loop-number.number + 1) c.loop-number.store _ _ c.loop-number.invariant.obeyed line.read line.kept none

pub returns-in_err-next_line : goal.returns-in_err-next_line
returns-in_err-next_line g c =
    let known = reader_remaining g.R.Read.remaining c.args.input.now in
    let before = g.W.Write.contents c.args.out.now in
    let after = g.W.Write.contents c.next_line.new.out in
    subst (λ r. IfSome known (λ bytes. StopsSo r bytes c.args.store.now before after))
    (sym (err_is _ _ c.from_residual.ensures.1 ∙ (λ i. Err (c.in_err-next_line.ensures.failed i))))
    (Obeyed-failed known c.args.store.now before _ (c.loop-number.number + 1) c.loop-number.store _ after c.loop-number.invariant.obeyed c.in_err-next_line.ensures.kept)

pub returns-in_default : goal.returns-in_default
returns-in_default g c =
    let line = c.in_ok-next_line.ensures in
    let read = c.next_line.new.line.items in
    let some = some_is (length read) (sym line.some ∙ c.if-branch.true) in
    Obeyed-bad _ c.args.store.now _ _ _ read (c.loop-number.number + 1) c.loop-number.store _ _ c.loop-number.invariant.obeyed line.read line.kept some
    (subst (λ l. IsBad (strip_last 10 l)) c.as_slice.ensures.value c.in_default.ensures)

pub returns-in_err-obey : goal.returns-in_err-obey
returns-in_err-obey g c =
    let line = c.in_ok-next_line.ensures in
    let read = c.next_line.new.line.items in
    let some = some_is (length read) (sym line.some ∙ c.if-branch.true) in
    let contents = g.W.Write.contents in
    let known = reader_remaining g.R.Read.remaining c.args.input.now in
    let why = c.in_err-obey.field-0.0 in
    let end = contents c.obey.new.out in
    subst (λ r. IfSome known (λ bytes. StopsSo r bytes c.args.store.now (contents c.args.out.now) end)) (sym (err_is _ why c.from_residual-in_err-obey.ensures.1))
    (Obeyed-stopped known c.args.store.now (contents c.args.out.now) _ _ read (c.loop-number.number + 1) c.loop-number.store _ _ c.obey.new.self end why
    c.loop-number.invariant.obeyed line.read line.kept some (request_of c.in-Some.command)
    (subst (λ l. Asks (strip_last 10 l) (request_of c.in-Some.command)) c.as_slice.ensures.value c.in-Some.ensures) c.in_err-obey.ensures)

pub loop-number-preserved : goal.loop-number-preserved
loop-number-preserved g c =
    let line = c.in_ok-next_line.ensures in
    let read = c.next_line.new.line.items in
    let some = some_is (length read) (sym line.some ∙ c.if-branch.true) in
    record {
      obeyed = Obeyed-more _ c.args.store.now _ _ _ read (c.loop-number.number + 1) c.loop-number.store _ _ c.obey.new.self (g.W.Write.contents c.obey.new.out)
          c.loop-number.invariant.obeyed line.read line.kept some (request_of c.in-Some.command)
          (subst (λ l. Asks (strip_last 10 l) (request_of c.in-Some.command)) c.as_slice.ensures.value c.in-Some.ensures) c.in_ok-obey.ensures;
      few = omega (arith, c.loop-number.invariant.few, line.counted.0, some);
    }
