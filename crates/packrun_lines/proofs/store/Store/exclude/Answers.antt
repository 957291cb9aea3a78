use Rattle.std.proofs.Common.{refl}
use Rattle.rectangle_pack.specs.declared.grouped_rects_to_place.Group.TheVariants.{Grouped}
use Rattle.packrun_lines.proofs.lemmas.Stores.{Excludes-ordered}
use Rattle.packrun_lines.proofs.store.Store.exclude.Goals as goal

pub returns : goal.returns
returns g c =
    let done = Excludes-ordered _ (λ a b. refl) (λ a b. refl) (λ a b. refl) (λ a b. refl) c.self.inside.rects c.exclude.new.self
    (Grouped c.in_ok-new.field-0) (Grouped c.in_ok-new-2.field-0) c.in_ok-exclude.ensures.ok in
    record { excluded = rw (← c.self.view_is) (rw (c.in_ok-new.ensures, c.in_ok-new-2.ensures) at done, refl) }
