use Rattle.rectangle_pack_sections.proofs.Std.{◌≡◌, take, list_any}
use Rattle.rectangle_pack_packing.specs.private.Excluded.{are_in, went_to}
use Rattle.rectangle_pack_packing.proofs.homes.Homes.excluded_bins.Given as goal

abbrev pub invariant-loop-partner : goal.invariant-loop-partner
invariant-loop-partner g l = (id : g.row.B.Denot)
    → are_in g.B.Ord.cmp l.ids.keys id ≡ list_any (λ p. went_to g.K.Ord.cmp g.B.Ord.cmp l.self.bins p id) (take l.partner-index l.partner-items)
