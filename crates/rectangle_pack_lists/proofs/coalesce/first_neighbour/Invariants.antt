use Rattle.rectangle_pack_sections.proofs.Std.{ℕ, ◌<◌}
use Rattle.rectangle_pack_lists.specs.Joining.{IsNeighbour}
use Rattle.rectangle_pack_lists.proofs.coalesce.first_neighbour.Given as goal

abbrev pub invariant-loop-j : goal.invariant-loop-j
invariant-loop-j l = (k : ℕ) → k < l.j → ¬ IsNeighbour l.sections l.idx l.fn.range.start l.fn.range.end k
