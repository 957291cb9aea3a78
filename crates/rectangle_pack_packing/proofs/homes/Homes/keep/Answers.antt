use Rattle.rectangle_pack_sections.proofs.Std.{length, sym, ap, ◌∙◌, eqb-true}
use Rattle.rectangle_pack_packing.proofs.lemmas.packing.Excluded.{IsHomeKept-kept, IsHomeKept-alone}
use Rattle.rectangle_pack_packing.proofs.homes.Homes.keep.Goals as goal

pub returns-in_ok-insert : goal.returns-in_ok-insert
returns-in_ok-insert g c =
    rw (← c.self.view_is)
    (IsHomeKept-kept g.K.Ord.cmp g.B.Ord.cmp g.met.K.Ord.total c.self.inside.exclusions.now c.args.group.now c.args.here c.self.inside.bins.entries
    c.insert.new.self.entries c.partners.ensures.mutual (λ q. c.in_ok-insert.ensures.updates.0 (record c.args.group { now = q }))
    (rw (← c.self.view_is) at c.requires.fresh))

pub returns-else-not-is_empty : goal.returns-else-not-is_empty
returns-else-not-is_empty g c =
    rw (← c.self.view_is)
    (IsHomeKept-alone g.K.Ord.cmp g.B.Ord.cmp g.met.K.Ord.total _ c.args.group.now c.args.here.now c.partners.ensures.mutual
    (ap length (sym c.partners.ensures.listed) ∙ eqb-true _ 0 (sym c.is_empty.ensures ∙ c.if-not-is_empty.false)))
