use Rattle.std.proofs.Common.{None, Some, ap, ◌∙◌}
use Rattle.packrun_lines.proofs.lemmas.Stores.{sections-found}
use Rattle.packrun_lines.proofs.store.Store.sections.Goals as goal

pub returns-in_err-bin : goal.returns-in_err-bin
returns-in_err-bin g c = rw (c.from_residual.ensures, ← c.self.view_is)
    (sections-found c.args.bin.now c.bins.result.now.entries c.self.inside.session c.bins.ensures.bins None c.in_err-bin.ensures.value)

pub returns : goal.returns
returns g c = rw (← c.self.view_is)
    (ap Some (c.as_slice.ensures.value ∙ c.available_bin_sections.ensures.items)
    ∙ sections-found c.args.bin.now c.bins.result.now.entries c.self.inside.session c.bins.ensures.bins (Some c.in_ok-bin.bin.now)
    c.in_ok-bin.ensures.value)
