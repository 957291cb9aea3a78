use Rattle.std.proofs.Common.{◌∷◌, refl, ap, ◌∙◌}
use Rattle.packrun_lines.proofs.lemmas.Requests.{no-bin}
use Rattle.packrun_lines.proofs.command.next_bin.Goals as goal

pub returns-in_err-size : goal.returns-in_err-size
returns-in_err-size c =
    no-bin _ c.from_residual-in_err-size.ensures _ _ _ c.in_ok-name.name.now c.in_ok-name.ensures
    c.in_err-size.ensures

pub returns : goal.returns
returns c =
    let (w, h, d, is, writes) = c.in_ok-size.ensures in
    (refl, (w, h, d, c.in_ok-name.ensures ∙ ap (λ ws. c.in_ok-name.name.now ∷ ws) is, writes))
