use Rattle.rectangle_pack_sections.proofs.Std.{◌≡◌, map, take, list_any, is_at}
use Rattle.rectangle_pack_packing.specs.private.Excluded.{are_in}
use Rattle.rectangle_pack.proofs.bound.reading.bins_used.Given as goal

abbrev pub invariant-loop-placement : goal.invariant-loop-placement
invariant-loop-placement g l = (id : g.row.BinId.Denot)
    → are_in g.BinId.Ord.cmp l.used.keys id ≡ list_any (is_at (g.BinId.Ord.cmp id)) (map (λ p. p.bin) (take l.placement-index l.placements))
