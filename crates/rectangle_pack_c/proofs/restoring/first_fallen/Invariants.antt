use Rattle.rectangle_pack_c.proofs.Std.{take}
use Rattle.rectangle_pack_c.specs.Restoring.{IdsRise}
use Rattle.rectangle_pack_c.proofs.restoring.first_fallen.Given as goal

abbrev pub invariant-loop-i : goal.invariant-loop-i
invariant-loop-i l = IdsRise (take l.i l.bins)
