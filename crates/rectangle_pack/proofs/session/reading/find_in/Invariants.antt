use Rattle.rectangle_pack_sections.proofs.Std.{◌≡◌, map, take}
use Rattle.rectangle_pack.specs.Reading.{placements_in}
use Rattle.rectangle_pack.proofs.session.reading.find_in.Given as goal

abbrev pub invariant-loop-placement : goal.invariant-loop-placement
invariant-loop-placement g l = map (λ r. r.now) l.found.items ≡ placements_in g.B.Ord.cmp (take l.placement-index l.outstanding) l.id
