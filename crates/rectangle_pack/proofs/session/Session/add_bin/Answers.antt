use Rattle.rectangle_pack_sections.proofs.Std.{refl, ap, sym, ◌∙◌, is_at}
use Rattle.rectangle_pack_sections.specs.Bins.{bins_of}
use Rattle.rectangle_pack_bins.proofs.lemmas.bins.Maps.{is_some-bins_of}
use Rattle.rectangle_pack_sections.proofs.lemmas.util.Maps.{none_of}
use Rattle.rectangle_pack.proofs.lemmas.session.Keeps.{None-bins_of}
use Rattle.rectangle_pack.proofs.lemmas.session.Packing.{state}
use Rattle.rectangle_pack.proofs.lemmas.session.Transitions.{added-inserted, memory_refused}
use Rattle.rectangle_pack.proofs.session.Session.add_bin.Goals as goal

pub returns-then-contains_key-clause-added : goal.returns-then-contains_key-clause-added
returns-then-contains_key-clause-added g c = rw (← c.self.view_is)
    (is_some-bins_of (is_at (g.BinId.Ord.cmp c.args.id)) c.self.inside.bins.entries ∙ sym c.contains_key.ensures ∙ c.if-contains_key.true, refl)

pub returns-in_err-bin-clause-added : goal.returns-in_err-bin-clause-added
returns-in_err-bin-clause-added g c = rw (memory_refused c.from_residual.result c.from_residual.ensures.1, ← c.self.view_is)
    (None-bins_of (is_at (g.BinId.Ord.cmp c.args.id)) c.self.inside.bins.entries (none_of _ (sym c.contains_key.ensures ∙ c.if-contains_key.false)), refl)

pub returns-in_err-put_bin-clause-added : goal.returns-in_err-put_bin-clause-added
returns-in_err-put_bin-clause-added g c =
    rw (memory_refused c.from_residual-in_err-put_bin.result c.from_residual-in_err-put_bin.ensures.1, ← c.self.view_is) (
      None-bins_of (is_at (g.BinId.Ord.cmp c.args.id)) c.self.inside.bins.entries (none_of _ (sym c.contains_key.ensures ∙ c.if-contains_key.false)),
      ap (λ es. state (bins_of es) c.self.inside.outstanding.items c.self.inside.next) c.in_err-put_bin.ensures.err,
    )

pub invariant_of-self-2 : goal.invariant_of-self-2
invariant_of-self-2 g c =
    (added-inserted g.met.BinId.Ord.total c.args.id (record { width = c.args.width; height = c.args.height; depth = c.args.depth })
    c.self.inside.bins.entries c.put_bin.new.bins.entries c.in_ok-bin.bin c.self.inside.outstanding.items c.self.inside.next
    (none_of _ (sym c.contains_key.ensures ∙ c.if-contains_key.false)) c.in_ok-put_bin.ensures.ok c.in_ok-bin.ensures c.self.invariant).1

pub returns-clause-always : goal.returns-clause-always
returns-clause-always g c = invariant_of-self-2 g c

pub returns-clause-added : goal.returns-clause-added
returns-clause-added g c =
    rw (← c.self.view_is)
    (added-inserted g.met.BinId.Ord.total c.args.id (record { width = c.args.width; height = c.args.height; depth = c.args.depth })
    c.self.inside.bins.entries c.put_bin.new.bins.entries c.in_ok-bin.bin c.self.inside.outstanding.items c.self.inside.next
    (none_of _ (sym c.contains_key.ensures ∙ c.if-contains_key.false)) c.in_ok-put_bin.ensures.ok c.in_ok-bin.ensures c.self.invariant).0
