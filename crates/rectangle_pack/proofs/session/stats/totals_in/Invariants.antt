use Rattle.rectangle_pack_sections.proofs.Std.{◌≡◌, length, take}
use Rattle.rectangle_pack_sections.specs.Counting.{total_volume}
use Rattle.rectangle_pack.specs.Session.{outstanding_in}
use Rattle.rectangle_pack.proofs.session.stats.totals_in.Given as goal

abbrev pub invariant-loop-placement : goal.invariant-loop-placement
invariant-loop-placement g l = record {
  volume : l.volume ≡ total_volume (outstanding_in g.B.Ord.cmp (take l.placement-index l.outstanding) l.id);
  count : l.count ≡ length (outstanding_in g.B.Ord.cmp (take l.placement-index l.outstanding) l.id);
}
