use Rattle.rectangle_pack_sections.proofs.Std.{◌≡◌, vec_len}
use Rattle.rectangle_pack_sections.specs.Bins.{bins_of}
use Rattle.rectangle_pack_packing.specs.private.BinsAtWork.{checked_in, CanCheckIn}
use Rattle.rectangle_pack_packing.proofs.bins_at_work.BinsAtWork.end.Given as goal

abbrev pub invariant-loop-held : goal.invariant-loop-held
invariant-loop-held g l = record {
  same : checked_in g.B.Ord.cmp l.end l.order l.out.items (bins_of l.bins.entries)
      ≡ checked_in g.B.Ord.cmp l.end l.order l.initial.out.items (bins_of l.initial.bins.entries);
  can : CanCheckIn g.B.Ord.cmp l.order l.out.items (bins_of l.bins.entries);
}

abbrev pub decreases-loop-held : goal.decreases-loop-held
decreases-loop-held g l = vec_len l.out
