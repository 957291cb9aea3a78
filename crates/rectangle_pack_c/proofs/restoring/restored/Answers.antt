use Rattle.rectangle_pack_c.proofs.Std.{refl, subst, ◌≡◌, ◌∙◌, ℕ, nat_cmp}
use Rattle.std.proofs.Common.{Err}
use Rattle.rectangle_pack.specs.Bins.{bins_of}
use Rattle.rectangle_pack.specs.Session.{State}
use Rattle.rectangle_pack.specs.Restoring.{IsRestored}
use Rattle.rectangle_pack_c.specs.private.Saved.{state_saved}
use Rattle.rectangle_pack_c.proofs.SavedLemmas.{has_parts, fault_of_parts}
use Rattle.rectangle_pack_c.proofs.restoring.restored.Goals as goal

pub returns-in_ok-boxed-in-Ok-clause-restored : goal.returns-in_ok-boxed-in-Ok-clause-restored
returns-in_ok-boxed-in-Ok-clause-restored c =
    let made = c.in_ok-bins.ensures.made in
    let parts = has_parts c.args.saved.now made.counted made.rising in
    let state : c.in-Ok.session ≡ state_saved c.args.saved.now =
    c.in-Ok.ensures.restored ∙ rw (made.are, c.in_ok-outstanding.ensures) refl in
    rw (c.in_ok-boxed-in-Ok.ensures, state) (record { parts = parts; always = rw state at c.in-Ok.ensures.always })

pub returns-in-Err-clause-refused : goal.returns-in-Err-clause-refused
returns-in-Err-clause-refused c =
    let made = c.in_ok-bins.ensures.made in
    let given : State ℕ ℕ = record {
      bins = bins_of c.in_ok-bins.bins.entries;
      outstanding = c.in_ok-outstanding.outstanding.items;
      next = c.args.saved.now.next_number;
    } in
    let state : given ≡ state_saved c.args.saved.now = rw (made.are, c.in_ok-outstanding.ensures) refl in
    fault_of_parts c.args.saved.now _ made c.in-Err.error (subst (λ (s : State ℕ ℕ). IsRestored nat_cmp s (Err c.in-Err.error)) state c.in-Err.ensures.restored)
