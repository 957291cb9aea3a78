use Rattle.rectangle_pack_sections.proofs.Std.{◌≡◌, map, filter, nat_lt, keys_of, deref_pair, sum_by}
use Rattle.rectangle_pack_lists.specs.Numbers.{saturated}
use Rattle.rectangle_pack_packing.specs.private.Cells.{cells_in}
use Rattle.rectangle_pack.specs.Searched.{cost_of}
use Rattle.rectangle_pack.proofs.searching.outlay.cost_of_counted.Given as goal

abbrev pub invariant-loop-id : goal.invariant-loop-id
invariant-loop-id g l =
    l.cost ≡ saturated (sum_by (cost_of g.B.Ord.cmp l.costs.entries)
    (filter (λ id. nat_lt 0 (cells_in g.B.Ord.cmp l.cells.entries id)) (keys_of (map deref_pair l.yielded))))
