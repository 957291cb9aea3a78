use Rattle.std.proofs.Common.{List, ℕ, Some, None, subst, refl, ◌≡◌}
use Rattle.rectangle_pack.specs.declared.session.command.SessionError.TheVariants.{UnknownBin}
use Rattle.packrun_lines.specs.Lines.{sections_text, refusal_text}
use Rattle.packrun_lines.specs.Requests as asks
use Rattle.packrun_lines.specs.Store.{sections_in}
use Rattle.packrun_lines.specs.private.Printing.{PrintsAnswer}
use Rattle.packrun_lines.proofs.lemmas.Obeyed.{IsObeyed-found}
use Rattle.packrun_lines.proofs.store.Store.print_sections.Goals as goal

pub returns-in-Some : goal.returns-in-Some
returns-in-Some g c =
    let store = c.args.self.now in
    let name = c.args.name.now in
    let sections = c.in-Some.sections.now in
    let found : Some sections ≡ sections_in store.session name =
    rw (c.in-Some.is, c.in_ok-bin.ensures) at c.sections.ensures in
    IsObeyed-found (asks.Sections name) store store _ _ c.print_list.result sections_text (Some sections) _ name found (λ text is. (is, refl)) c.print_list.ensures

pub returns : goal.returns
returns g c =
    let store = c.args.self.now in
    let name = c.args.name.now in
    let contents = g.W.Write.contents in
    let found : None ≡ sections_in store.session name =
    rw (c.in-None.is, c.in_ok-bin.ensures) at c.sections.ensures in
    IsObeyed-found (asks.Sections name) store store _ _ c.refuse.result sections_text None _ name found (λ text is. (is, refl))
    (subst (λ (n : List ℕ). PrintsAnswer (contents c.args.out.now) (contents c.refuse.new.out) c.refuse.result (refusal_text UnknownBin n))
    c.as_bytes.ensures.value c.refuse.ensures)
