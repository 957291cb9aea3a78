use Rattle.rectangle_pack_sections.proofs.Std.{sym, refl, rules, is_at}
use Rattle.rectangle_pack_lists.specs.Joining.{IsJoined}
use Rattle.rectangle_pack.proofs.lemmas.session.Keeps.{None-bins_of}
use Rattle.rectangle_pack.proofs.lemmas.session.Transitions.{IsRecut-joined, coalesced-written}
use Rattle.rectangle_pack.proofs.session.Session.coalesce.Goals as goal

pub returns-in_default-clause-joined : goal.returns-in_default-clause-joined
returns-in_default-clause-joined g c = rw (← c.self.view_is)
    (None-bins_of (is_at (g.BinId.Ord.cmp c.args.id.now)) c.self.inside.bins.entries (search rules), rw c.get_mut.follows.holds-at-none refl)

pub invariant_of-self-2 : goal.invariant_of-self-2
invariant_of-self-2 g c =
    let done = c.coalesce_available_sections.ensures in
    (coalesced-written g.met.BinId.Ord.total (IsJoined _ _ _) (IsRecut-joined _ _ _) c.args.id.now _ _ c.in-Some.bin.now _ _ _
    (sym c.in-Some.ensures.value) (c.get_mut.follows.holds _).0 done.stays done.joined c.self.invariant).1

pub returns-clause-joined : goal.returns-clause-joined
returns-clause-joined g c =
    let done = c.coalesce_available_sections.ensures in
    rw (← c.self.view_is)
    (coalesced-written g.met.BinId.Ord.total (IsJoined _ _ _) (IsRecut-joined _ _ _) c.args.id.now _ _ c.in-Some.bin.now _ _ _
    (sym c.in-Some.ensures.value) (c.get_mut.follows.holds _).0 done.stays done.joined c.self.invariant).0

pub returns-clause-always : goal.returns-clause-always
returns-clause-always g c = invariant_of-self-2 g c
