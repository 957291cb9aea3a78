use Rattle.rectangle_pack_sections.proofs.Std.{◌≡◌, ◌++◌, take, filter}
use Rattle.rectangle_pack_sections.specs.Boxes.{has_cells}
use Rattle.rectangle_pack.specs.Session.{outstanding_in}
use Rattle.rectangle_pack.proofs.session.cut_plan.gather_outstanding.Given as goal

abbrev pub invariant-loop-placement : goal.invariant-loop-placement
invariant-loop-placement g l = l.boxes.items ≡ l.fn.boxes.items ++ filter has_cells (outstanding_in g.B.Ord.cmp (take l.placement-index l.outstanding) l.id)
