use Rattle.std.proofs.Common.{◌∷◌, refl, ap, ◌∙◌}
use Rattle.packrun_lines.specs.private.Commands.{words_left}
use Rattle.packrun_lines.proofs.lemmas.Requests.{no-box}
use Rattle.packrun_lines.proofs.command.next_rect.Goals as goal

pub returns-in_err-size : goal.returns-in_err-size
returns-in_err-size c =
    no-box _ c.from_residual-in_err-size.ensures _ _ (words_left c.next_size.new.words)
    c.in_ok-id.id.now c.in_ok-id.ensures c.in_err-size.ensures

pub returns : goal.returns
returns c =
    let (w, h, d, is, writes) = c.in_ok-size.ensures in
    (refl, (w, h, d, c.in_ok-id.ensures ∙ ap (λ ws. c.in_ok-id.id.now ∷ ws) is, writes, refl))
