use Rattle.rectangle_pack_sections.proofs.Std.{◌≡◌, ◌-◌, ◌+◌, vec_len}
use Rattle.rectangle_pack_sections.specs.Bins.{bins_of}
use Rattle.rectangle_pack_lists.specs.declared.free_list.End.{End}
use Rattle.rectangle_pack_packing.specs.private.BinsAtWork.{checked_in, left_of, CanCheckIn, AreSummed}
use Rattle.rectangle_pack_packing.proofs.bins_at_work.BinsAtWork.check_out.Given as goal

abbrev pub invariant-loop-self : goal.invariant-loop-self
invariant-loop-self g l = record {
  left : (end : End) → checked_in g.B.Ord.cmp end l.self-inside.order.now l.self-inside.out.items (bins_of l.self-inside.bins.entries) ≡ left_of end l.fn.self;
  order : l.self-inside.order.now ≡ l.fn.self.order;
  can : CanCheckIn g.B.Ord.cmp l.self-inside.order.now l.self-inside.out.items (bins_of l.self-inside.bins.entries);
  summed : AreSummed g.B.Ord.cmp l.self-inside.order.now l.fn.self.now l.self-inside.summaries;
}

abbrev pub decreases-loop-self : goal.decreases-loop-self
decreases-loop-self g l = l.index + 1 - vec_len l.self-inside.out
