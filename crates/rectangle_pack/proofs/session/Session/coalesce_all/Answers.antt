use Rattle.rectangle_pack_sections.proofs.Std.{sym, ap, refl, rules, ◌∙◌, lookup, is_at}
use Rattle.rectangle_pack_lists.specs.Joining.{IsSwept}
use Rattle.rectangle_pack_sections.proofs.lemmas.util.Maps.{lookup-set_here}
use Rattle.rectangle_pack.proofs.lemmas.session.Keeps.{Some-bins_of, None-bins_of}
use Rattle.rectangle_pack.proofs.lemmas.session.Transitions.{IsRecut-swept, coalesced-written}
use Rattle.rectangle_pack.proofs.session.Session.coalesce_all.Goals as goal

pub returns-in_default-clause-swept : goal.returns-in_default-clause-swept
returns-in_default-clause-swept g c = rw (← c.self.view_is)
    (None-bins_of (is_at (g.BinId.Ord.cmp c.args.id.now)) c.self.inside.bins.entries (search rules), rw c.get_mut.follows.holds-at-none refl)

pub invariant_of-self-2 : goal.invariant_of-self-2
invariant_of-self-2 g c =
    let done = c.coalesce_all_in.ensures in
    (coalesced-written g.met.BinId.Ord.total IsSwept IsRecut-swept c.args.id.now _ _ c.in-Some.bin.now _ _ _
    (sym c.in-Some.ensures.value) (c.get_mut.follows.holds _).0 done.stays done.swept c.self.invariant).1

pub returns-clause-swept : goal.returns-clause-swept
returns-clause-swept g c =
    let done = c.coalesce_all_in.ensures in
    rw (← c.self.view_is)
    (coalesced-written g.met.BinId.Ord.total IsSwept IsRecut-swept c.args.id.now _ _ c.in-Some.bin.now _ _ _
    (sym c.in-Some.ensures.value) (c.get_mut.follows.holds _).0 done.stays done.swept c.self.invariant).0

pub returns-clause-always : goal.returns-clause-always
returns-clause-always g c = invariant_of-self-2 g c

pub returns-in_default-clause-no_face : goal.returns-in_default-clause-no_face
returns-in_default-clause-no_face g c =
    rw (c.get_mut.follows.holds-at-none, None-bins_of (is_at (g.BinId.Ord.cmp c.args.id.now)) c.self.inside.bins.entries (search rules)) tt

pub returns-clause-no_face : goal.returns-clause-no_face
returns-clause-no_face g c =
    let test = is_at (g.BinId.Ord.cmp c.args.id.now) in
    let w = c.coalesce_all_in.new.bin in
    let found = ap (lookup test) (c.get_mut.follows.holds w).0
    ∙ lookup-set_here test c.self.inside.bins.entries c.in-Some.bin.now w (sym c.in-Some.ensures.value) in
    rw (Some-bins_of test (c.get_mut.follows.lender w).entries w found) c.coalesce_all_in.ensures.no_face
