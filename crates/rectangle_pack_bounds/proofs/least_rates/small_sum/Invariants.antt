use Rattle.std.proofs.Common.{◌-◌, ◌^◌}
use Rattle.rectangle_pack_bounds.proofs.lemmas.LeastRates.{IsSumSoFar}
use Rattle.rectangle_pack_bounds.proofs.least_rates.small_sum.Given as goal

abbrev pub invariant-loop-way : goal.invariant-loop-way
invariant-loop-way l = IsSumSoFar (2 ^ 64 - 1) l.are_first l.width l.height l.depth l.way l.sum l.least
