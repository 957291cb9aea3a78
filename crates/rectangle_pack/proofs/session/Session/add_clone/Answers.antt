use Rattle.rectangle_pack_sections.proofs.Std.{refl, sym, ◌∙◌, is_at, Equal-is}
use Rattle.rectangle_pack_sections.proofs.lemmas.util.Maps.{none_of}
use Rattle.rectangle_pack_bins.proofs.lemmas.bins.Maps.{is_some-bins_of}
use Rattle.rectangle_pack.proofs.lemmas.session.Keeps.{None-bins_of}
use Rattle.rectangle_pack.proofs.lemmas.session.Transitions.{AddsBin-equal, memory_refused}
use Rattle.rectangle_pack.proofs.session.Session.add_clone.Goals as goal

pub returns-then-contains_key : goal.returns-then-contains_key
returns-then-contains_key g c = rw (← c.self.view_is) (
  is_some-bins_of (is_at (g.BinId.Ord.cmp c.args.id.now)) c.self.inside.bins.entries
      ∙ sym c.contains_key.ensures ∙ c.if-contains_key.true,
  refl,
)

pub returns-in_err-clone : goal.returns-in_err-clone
returns-in_err-clone g c = rw (memory_refused c.from_residual.result c.from_residual.ensures.1, ← c.self.view_is)
    (None-bins_of (is_at (g.BinId.Ord.cmp c.args.id.now)) c.self.inside.bins.entries (none_of _ (sym c.contains_key.ensures ∙ c.if-contains_key.false)), refl)

pub returns : goal.returns
returns g c = AddsBin-equal g.met.BinId.Ord.total c.args.id.now c.in_ok-clone.field-0
    ((Equal-is _).0 (sym (g.met.BinId.Ord.matches_eq _ _) ∙ c.requires _ _ c.in_ok-clone.ensures.cases)) _ _ _ _ c.add_bin.ensures.added
