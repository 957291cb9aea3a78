use Rattle.rectangle_pack_sections.proofs.Std.{refl, sym, ◌∙◌, is_at}
use Rattle.rectangle_pack_bins.proofs.lemmas.bins.Maps.{is_some-bins_of}
use Rattle.rectangle_pack_sections.proofs.lemmas.util.Maps.{none_of}
use Rattle.rectangle_pack.proofs.lemmas.session.Keeps.{None-bins_of}
use Rattle.rectangle_pack.proofs.lemmas.session.Upkeep.{removed-entry}
use Rattle.rectangle_pack.proofs.session.Session.remove_bin.Goals as goal

pub returns-then-not-contains_key-clause-removed : goal.returns-then-not-contains_key-clause-removed
returns-then-not-contains_key-clause-removed g c = rw (← c.self.view_is)
    (None-bins_of (is_at (g.BinId.Ord.cmp c.args.id.now)) c.self.inside.bins.entries (none_of _ (sym c.contains_key.ensures ∙ c.if-not-contains_key.true)), refl)

pub returns-then-is_in_use-clause-removed : goal.returns-then-is_in_use-clause-removed
returns-then-is_in_use-clause-removed g c =
    let used = rw c.as_slice.ensures.value at (sym c.is_in_use.ensures ∙ c.if-is_in_use.true) in
    rw (← c.self.view_is) (
      is_some-bins_of (is_at (g.BinId.Ord.cmp c.args.id.now)) c.self.inside.bins.entries ∙ sym c.contains_key.ensures ∙ c.if-not-contains_key.false,
      used,
      refl,
    )

pub invariant_of-self : goal.invariant_of-self
invariant_of-self g c =
    let there = is_some-bins_of (is_at (g.BinId.Ord.cmp c.args.id.now)) c.self.inside.bins.entries ∙ sym c.contains_key.ensures ∙ c.if-not-contains_key.false in
    let free = rw c.as_slice.ensures.value at (sym c.is_in_use.ensures ∙ c.if-is_in_use.false) in
    (removed-entry g.met.BinId.Ord.total c.args.id.now c.self.inside.bins.entries c.remove.new.self.entries c.self.inside.outstanding.items
    c.self.inside.next there free c.remove.ensures.entries c.remove.ensures.updates.0 c.self.invariant).1

pub returns-clause-removed : goal.returns-clause-removed
returns-clause-removed g c =
    let there = is_some-bins_of (is_at (g.BinId.Ord.cmp c.args.id.now)) c.self.inside.bins.entries ∙ sym c.contains_key.ensures ∙ c.if-not-contains_key.false in
    let free = rw c.as_slice.ensures.value at (sym c.is_in_use.ensures ∙ c.if-is_in_use.false) in
    rw (← c.self.view_is)
    (removed-entry g.met.BinId.Ord.total c.args.id.now c.self.inside.bins.entries c.remove.new.self.entries c.self.inside.outstanding.items
    c.self.inside.next there free c.remove.ensures.entries c.remove.ensures.updates.0 c.self.invariant).0

pub returns-clause-always : goal.returns-clause-always
returns-clause-always g c = invariant_of-self g c
