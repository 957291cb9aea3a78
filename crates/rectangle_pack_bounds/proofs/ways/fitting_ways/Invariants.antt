use Rattle.std.proofs.Common.{◌≡◌, flat_map, take}
use Rattle.rectangle_pack_bounds.specs.Turning.{ways_in}
use Rattle.rectangle_pack_bounds.specs.private.Ways.{firsts}
use Rattle.rectangle_pack_bounds.proofs.ways.fitting_ways.Given as goal

abbrev pub invariant-loop-one : goal.invariant-loop-one
invariant-loop-one g l = record {
  sizes : l.sizes.items ≡ flat_map (ways_in l.fn.bin) (take l.one-index l.boxes);
  first : l.are_first.items ≡ flat_map (λ b. firsts (ways_in l.fn.bin b)) (take l.one-index l.boxes);
}
