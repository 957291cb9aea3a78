use Rattle.rectangle_pack_sections.proofs.Std.{refl, ap}
use Rattle.rectangle_pack.proofs.lemmas.session.Keeps.{IsSession-found, outstanding_at}
use Rattle.rectangle_pack.proofs.lemmas.session.Transitions.{released-removed, memory_refused}
use Rattle.rectangle_pack.proofs.session.Session.release.Goals as goal

pub give_back-requires : goal.give_back-requires
give_back-requires g c =
    let some = rw c.as_slice-outstanding.ensures.value at c.in-Some.ensures.some in
    let is = rw c.as_slice-outstanding.ensures.value at c.index-outstanding-index.is in
    let at = outstanding_at c.self.inside.outstanding.items c.args.number c.in-Some.index c.index-outstanding-index.result some is in
    let f = IsSession-found g.met.BinId.Ord.total c.self.inside.bins.entries c.self.inside.outstanding.items c.self.inside.next
    c.args.number at c.self.invariant in
    record { accepted = rw f.1 (refl, f.2) }

pub returns-in_err-give_back-clause-released : goal.returns-in_err-give_back-clause-released
returns-in_err-give_back-clause-released g c =
    let some = rw c.as_slice-outstanding.ensures.value at c.in-Some.ensures.some in
    let is = rw c.as_slice-outstanding.ensures.value at c.index-outstanding-index.is in
    rw (memory_refused c.from_residual.result c.from_residual.ensures.1, ← c.self.view_is) (
      outstanding_at c.self.inside.outstanding.items c.args.number c.in-Some.index c.index-outstanding-index.result some is,
      c.in_err-give_back.ensures.err.0,
      ap (λ bs. record { bins = bs; outstanding = c.self.inside.outstanding.items; next = c.self.inside.next }) c.in_err-give_back.ensures.err.1,
    )

pub invariant_of-self-2 : goal.invariant_of-self-2
invariant_of-self-2 g c =
    let some = rw c.as_slice-outstanding.ensures.value at c.in-Some.ensures.some in
    let is = rw c.as_slice-outstanding.ensures.value at c.index-outstanding-index.is in
    rw c.remove.ensures.items
    (released-removed g.met.BinId.Ord.total c.args.number _ _ _ _ (outstanding_at c.self.inside.outstanding.items c.args.number c.in-Some.index
    c.index-outstanding-index.result some is) c.in_ok-give_back.ensures.ok c.self.invariant).1

pub returns-clause-released : goal.returns-clause-released
returns-clause-released g c =
    let some = rw c.as_slice-outstanding.ensures.value at c.in-Some.ensures.some in
    let is = rw c.as_slice-outstanding.ensures.value at c.index-outstanding-index.is in
    rw (← c.self.view_is, c.remove.ensures.items)
    (released-removed g.met.BinId.Ord.total c.args.number _ _ _ _ (outstanding_at c.self.inside.outstanding.items c.args.number c.in-Some.index
    c.index-outstanding-index.result some is) c.in_ok-give_back.ensures.ok c.self.invariant).0

pub returns-clause-always : goal.returns-clause-always
returns-clause-always g c = invariant_of-self-2 g c

pub returns-in_default-clause-released : goal.returns-in_default-clause-released
returns-in_default-clause-released g c =
    let none = rw c.as_slice-outstanding.ensures.value at c.in_default.ensures.none in
    rw (← c.self.view_is) (none, refl)
