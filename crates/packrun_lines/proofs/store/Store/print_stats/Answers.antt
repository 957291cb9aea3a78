use Rattle.std.proofs.Common.{List, ℕ, Some, None, subst, refl, ◌≡◌}
use Rattle.rectangle_pack.specs.Stats.{stats_in}
use Rattle.rectangle_pack.specs.declared.session.command.SessionError.TheVariants.{UnknownBin}
use Rattle.packrun_lines.specs.Lines.{sums_text, refusal_text}
use Rattle.packrun_lines.specs.Requests as asks
use Rattle.packrun_lines.specs.Store.{name_cmp}
use Rattle.packrun_lines.specs.private.Printing.{PrintsAnswer}
use Rattle.packrun_lines.proofs.lemmas.Obeyed.{IsObeyed-found}
use Rattle.packrun_lines.proofs.store.Store.print_stats.Goals as goal

pub returns : goal.returns
returns g c =
    let store = c.args.self.now in
    let name = c.args.name.now in
    let found : Some c.in-Some.stats ≡ stats_in name_cmp store.session name =
    rw (← c.self.view_is) (rw (c.in-Some.is, c.in_ok-bin.ensures) at c.stats.ensures.stats) in
    IsObeyed-found (asks.Stats name) store store _ _ c.print_sums.result sums_text (Some c.in-Some.stats) _ name found (λ text is. (is, refl)) c.print_sums.ensures

pub returns-in_default : goal.returns-in_default
returns-in_default g c =
    let store = c.args.self.now in
    let name = c.args.name.now in
    let contents = g.W.Write.contents in
    let found : None ≡ stats_in name_cmp store.session name =
    rw (← c.self.view_is) (rw (c.in_default.is, c.in_ok-bin.ensures) at c.stats.ensures.stats) in
    IsObeyed-found (asks.Stats name) store store _ _ c.refuse.result sums_text None _ name found (λ text is. (is, refl))
    (subst (λ (n : List ℕ). PrintsAnswer (contents c.args.out.now) (contents c.refuse.new.out) c.refuse.result (refusal_text UnknownBin n))
    c.as_bytes.ensures.value c.refuse.ensures)
