use Rattle.std.proofs.Common.{◌≡◌, take}
use Rattle.rectangle_pack_bounds.specs.Bounds.{enclosing}
use Rattle.rectangle_pack_bounds.proofs.least_bins.enclosing.Given as goal

abbrev pub invariant-loop-size : goal.invariant-loop-size
invariant-loop-size l = l.all ≡ enclosing (take l.size-index l.sizes)
