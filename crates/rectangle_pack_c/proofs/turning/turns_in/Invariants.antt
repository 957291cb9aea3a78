use Rattle.rectangle_pack_c.proofs.TurningLemmas.{AreTurnsBefore}
use Rattle.rectangle_pack_c.proofs.turning.turns_in.Given as goal

abbrev pub invariant-loop-index : goal.invariant-loop-index
invariant-loop-index l = AreTurnsBefore l.fn.collection l.fn.turns l.index l.map.entries
