use Rattle.rectangle_pack_sections.proofs.Std.{◌≡◌, ◌++◌, ap, ◌∙◌}
use Rattle.rectangle_pack.specs.private.Releasing.{outstanding_but}
use Rattle.rectangle_pack.proofs.lemmas.session.Packing.{state}
use Rattle.rectangle_pack.proofs.lemmas.session.Releasing.{released-left_out}
use Rattle.rectangle_pack.proofs.lemmas.session.Transitions.{memory_refused}
use Rattle.rectangle_pack.proofs.session.Session.release_all.Goals as goal

pub returns-in_err-give_back_all-clause-released : goal.returns-in_err-give_back_all-clause-released
returns-in_err-give_back_all-clause-released g c =
    let all = rw c.as_slice-outstanding.ensures.value at (c.are_outstanding.ensures.0 c.if-not-are_outstanding.false) in
    rw (memory_refused c.from_residual-in_err-give_back_all.result c.from_residual-in_err-give_back_all.ensures.1, ← c.self.view_is) (
      c.in_err-give_back_all.ensures.some,
      all,
      ap (λ bs. state bs c.self.inside.outstanding.items c.self.inside.next) c.in_err-give_back_all.ensures.err,
    )

pub invariant_of-self-2 : goal.invariant_of-self-2
invariant_of-self-2 g c =
    let numbers = c.args.numbers.now in
    let is_numbers = c.in_ok-extend_from_slice.ensures.items ∙ ap (λ l. l ++ numbers) c.new-left_out.ensures.items in
    let left : c.leave_out.new.outstanding.items ≡ outstanding_but c.sort_apart.new.numbers.items c.self.inside.outstanding.items =
    c.leave_out.ensures ∙ ap (λ ns. outstanding_but ns c.self.inside.outstanding.items) c.as_slice.ensures.value in
    let gives = rw c.as_slice-outstanding.ensures.value at c.in_ok-give_back_all.ensures.ok in
    (released-left_out g.met.BinId.Ord.total numbers _ _ is_numbers c.sort_apart.ensures.same (c.sort_apart.ensures.apart.0 c.if-not-sort_apart.false) _ _ _ _ _
    gives left c.self.invariant).1

pub returns-clause-released : goal.returns-clause-released
returns-clause-released g c =
    let numbers = c.args.numbers.now in
    let is_numbers = c.in_ok-extend_from_slice.ensures.items ∙ ap (λ l. l ++ numbers) c.new-left_out.ensures.items in
    let left : c.leave_out.new.outstanding.items ≡ outstanding_but c.sort_apart.new.numbers.items c.self.inside.outstanding.items =
    c.leave_out.ensures ∙ ap (λ ns. outstanding_but ns c.self.inside.outstanding.items) c.as_slice.ensures.value in
    let gives = rw c.as_slice-outstanding.ensures.value at c.in_ok-give_back_all.ensures.ok in
    rw (← c.self.view_is)
    (released-left_out g.met.BinId.Ord.total numbers _ _ is_numbers c.sort_apart.ensures.same (c.sort_apart.ensures.apart.0 c.if-not-sort_apart.false) _ _ _ _ _
    gives left c.self.invariant).0

pub returns-clause-always : goal.returns-clause-always
returns-clause-always g c = invariant_of-self-2 g c
