use Rattle.rectangle_pack_sections.proofs.Std.{◌≡◌, take, list_any, is_at}
use Rattle.rectangle_pack_packing.specs.private.Excluded.{are_in}
use Rattle.rectangle_pack.proofs.bound.apart.partners_of.Given as goal

abbrev pub invariant-loop-partner : goal.invariant-loop-partner
invariant-loop-partner g l = (other : g.row.K.Denot)
    → are_in g.K.Ord.cmp l.partners.keys other ≡ list_any (is_at (g.K.Ord.cmp other)) (take l.partner-index l.partner-items)
