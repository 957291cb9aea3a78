use Rattle.rectangle_pack_c.proofs.Std.{take}
use Rattle.rectangle_pack_c.specs.Searching.{AreCostsOf}
use Rattle.rectangle_pack_c.proofs.finding.costs_in.Given as goal

abbrev pub invariant-loop-cost : goal.invariant-loop-cost
invariant-loop-cost l = AreCostsOf (take l.cost-index l.costs) l.map.entries
