use Rattle.std.proofs.Common.{refl}
use Rattle.packrun_lines.proofs.lemmas.Stores.{TakesBox-pushed}
use Rattle.packrun_lines.proofs.store.Store.push_rect.Goals as goal

pub returns : goal.returns
returns g c =
    let taken = TakesBox-pushed _ (λ a b. refl) (λ a b. refl) (λ a b. refl) (λ a b. refl) c.in_ok-id.id c.new-rect.result c.in_ok-named.named
    c.self.inside.rects c.push_rect.new.self c.in_ok-push_rect.ensures.ok c.groups.ensures.ascend in
    record { pushed = rw (← c.self.view_is) (rw (c.in_ok-id.ensures, c.new-rect.ensures, c.in_ok-named.ensures.names) at taken, refl) }
