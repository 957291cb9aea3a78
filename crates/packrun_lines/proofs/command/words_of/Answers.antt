use Rattle.packrun_lines.proofs.lemmas.Requests.{not-plain}
use Rattle.packrun_lines.proofs.command.words_of.Goals as goal

pub returns-in_err-text : goal.returns-in_err-text
returns-in_err-text c =
    not-plain c.args.line.now c.from_utf8.result c.ok.result c.from_residual.result _ _ _ c.from_utf8.ensures.cases c.ok.ensures.variant c.in_err-text.was c.from_residual.ensures
