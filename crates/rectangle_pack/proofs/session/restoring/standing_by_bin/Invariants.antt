use Rattle.rectangle_pack_sections.proofs.Std.{◌≡◌, take}
use Rattle.rectangle_pack.specs.Session.{outstanding_in}
use Rattle.rectangle_pack.specs.private.Restoring.{boxes_at}
use Rattle.rectangle_pack.proofs.session.restoring.standing_by_bin.Given as goal

abbrev pub invariant-loop-one : goal.invariant-loop-one
invariant-loop-one g l = (q : g.row.B.Denot) → boxes_at g.B.Ord.cmp l.piles.entries q ≡ outstanding_in g.B.Ord.cmp (take l.one-index l.outstanding) q
