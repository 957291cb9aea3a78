use Rattle.std.proofs.Common.{IfSome, sym, subst}
use Rattle.packrun_lines.specs.Store.{empty_store}
use Rattle.packrun_lines.specs.private.Obeying.{StopsSo}
use Rattle.packrun_lines.proofs.lemmas.Transcripts.{stops-without_memory, err_is}
use Rattle.packrun_lines.proofs.run.obey_all.Goals as goal

pub returns-in_default : goal.returns-in_default
returns-in_default g c = stops-without_memory _ (empty_store 0) _

pub returns-in_err-line : goal.returns-in_err-line
returns-in_err-line g c =
    let known = g.R.Read.remaining c.args.reader.now in
    let contents = g.W.Write.contents c.args.out.now in
    subst (λ r. IfSome known (λ bytes. StopsSo r bytes (empty_store 0) contents contents)) (sym (err_is _ _ c.from_residual.ensures.1))
    (stops-without_memory known (empty_store 0) contents)
