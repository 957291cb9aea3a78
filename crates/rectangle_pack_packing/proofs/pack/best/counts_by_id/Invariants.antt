use Rattle.rectangle_pack_sections.proofs.Std.{◌≡◌, map, filter, nat_lt, keys_of, deref_pair}
use Rattle.rectangle_pack_packing.specs.private.Cells.{cells_in}
use Rattle.rectangle_pack_packing.proofs.pack.best.counts_by_id.Given as goal

abbrev pub invariant-loop-id : goal.invariant-loop-id
invariant-loop-id g l = l.counts.items ≡ filter (nat_lt 0) (map (cells_in g.B.Ord.cmp l.cells.entries) (keys_of (map deref_pair l.yielded)))
