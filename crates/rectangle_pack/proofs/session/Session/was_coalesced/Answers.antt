use Rattle.rectangle_pack_sections.proofs.Std.{refl, sym, rules, is_at}
use Rattle.rectangle_pack.proofs.lemmas.session.Keeps.{Some-bins_of, None-bins_of}
use Rattle.rectangle_pack.proofs.session.Session.was_coalesced.Goals as goal

pub returns-in_err-get : goal.returns-in_err-get
returns-in_err-get g c =
    rw (c.from_residual.ensures, ← c.self.view_is, None-bins_of (is_at (g.BinId.Ord.cmp c.args.id.now)) c.self.inside.bins.entries (search rules)) refl

pub returns : goal.returns
returns g c =
    rw (
      c.was_coalesced.ensures,
      ← c.self.view_is,
      Some-bins_of (is_at (g.BinId.Ord.cmp c.args.id.now)) c.self.inside.bins.entries c.in_ok-get.field-0.now
          (sym c.in_ok-get.ensures.value),
    ) refl
