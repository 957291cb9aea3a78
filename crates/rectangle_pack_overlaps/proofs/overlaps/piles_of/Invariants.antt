use Rattle.rectangle_pack_overlaps.specs.private.Piles.{ArePiles}
use Rattle.rectangle_pack_overlaps.proofs.overlaps.piles_of.Given as goal

abbrev pub invariant-loop-index : goal.invariant-loop-index
invariant-loop-index g l = ArePiles l.boxes l.index l.bins l.piles.items
