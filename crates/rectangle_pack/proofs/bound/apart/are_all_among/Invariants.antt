use Rattle.rectangle_pack_sections.proofs.Std.{◌≡◌, ◌&&◌, true, not, map, take, is_at}
use Rattle.std.specs.List.{list_all}
use Rattle.rectangle_pack_packing.specs.private.Excluded.{are_in}
use Rattle.rectangle_pack.proofs.bound.apart.are_all_among.Given as goal

abbrev pub invariant-loop-other : goal.invariant-loop-other
invariant-loop-other g l =
    list_all (λ other. not (is_at (g.K.Ord.cmp l.name) other) && are_in g.K.Ord.cmp l.partners.keys other)
    (map (λ other. other.now) (take l.other-index l.taken)) ≡ true
