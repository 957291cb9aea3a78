use Rattle.rectangle_pack_sections.proofs.Std.{List, sym, subst, IsStrictlySortedBy}
use Rattle.rectangle_pack_bins.proofs.lemmas.bins.Maps.{keys-bins}
use Rattle.rectangle_pack.proofs.session.Session.bins.Goals as goal

pub returns-clause-ascend : goal.returns-clause-ascend
returns-clause-ascend g c =
    rw (← c.self.view_is) (subst (λ (ks : List g.row.BinId.Denot). IsStrictlySortedBy g.BinId.Ord.cmp ks)
    (sym (keys-bins c.self.inside.bins.entries)) c.ascending.ensures.ascend)
