use Rattle.rectangle_pack_sections.proofs.Std.{sym, ◌∙◌, is_at}
use Rattle.rectangle_pack_bins.proofs.lemmas.bins.Maps.{is_some-bins_of}
use Rattle.rectangle_pack_sections.proofs.lemmas.util.Maps.{none_of}
use Rattle.rectangle_pack.proofs.lemmas.session.Keeps.{None-bins_of}
use Rattle.rectangle_pack.proofs.lemmas.session.Transitions.{memory_refused}
use Rattle.rectangle_pack.proofs.session.Session.outstanding_in.Goals as goal

pub returns-then-not-contains_key : goal.returns-then-not-contains_key
returns-then-not-contains_key g c = record {
  found = rw (← c.self.view_is)
      (None-bins_of (is_at (g.BinId.Ord.cmp c.args.id.now)) c.self.inside.bins.entries (none_of _ (sym c.contains_key.ensures ∙ c.if-not-contains_key.true)));
}

pub returns-in_err-found : goal.returns-in_err-found
returns-in_err-found g c = record {
  found = rw (memory_refused c.from_residual.result c.from_residual.ensures.1, ← c.self.view_is)
      (is_some-bins_of (is_at (g.BinId.Ord.cmp c.args.id.now)) c.self.inside.bins.entries ∙ sym c.contains_key.ensures ∙ c.if-not-contains_key.false);
}

pub returns : goal.returns
returns g c = record {
  found = rw (← c.self.view_is) (
    is_some-bins_of (is_at (g.BinId.Ord.cmp c.args.id.now)) c.self.inside.bins.entries ∙ sym c.contains_key.ensures ∙ c.if-not-contains_key.false,
    rw c.as_slice.ensures.value at (c.in_ok-found.ensures {u = tt}),
  );
}
