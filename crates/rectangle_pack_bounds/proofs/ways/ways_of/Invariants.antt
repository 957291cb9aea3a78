use Rattle.std.proofs.Common.{◌≡◌, take, flat_map}
use Rattle.rectangle_pack_bounds.specs.Turning.{ways}
use Rattle.rectangle_pack_bounds.proofs.ways.ways_of.Given as goal

abbrev pub invariant-loop-one : goal.invariant-loop-one
invariant-loop-one g l = l.sizes.items ≡ flat_map ways (take l.one-index l.boxes)
