use Rattle.rectangle_pack.specs.Bins.{bins_of}
use Rattle.rectangle_pack_c.proofs.PutLemmas.{ArePutBefore}
use Rattle.rectangle_pack_c.proofs.restoring.put_bins.Given as goal

abbrev pub invariant-loop-i : goal.invariant-loop-i
invariant-loop-i l = ArePutBefore l.fn.saved l.i (bins_of l.bins.entries) l.rest
