use Rattle.rectangle_pack_sections.proofs.Std.{List, take}
use Rattle.rectangle_pack_sections.specs.Bins.{Bin, bins_of}
use Rattle.rectangle_pack.specs.private.Releasing.{GivesBackInTurn}
use Rattle.rectangle_pack.proofs.session.releasing.take_back_all.Given as goal

-- what was given back before all of them, was given back before those that are left
abbrev pub invariant-loop-i : goal.invariant-loop-i
invariant-loop-i g l = record {
  left : (before : List (g.row.B.Denot × Bin)) → GivesBackInTurn g.B.Ord.cmp l.outstanding l.numbers before (bins_of l.fn.bins.entries)
      → GivesBackInTurn g.B.Ord.cmp l.outstanding (take l.i l.numbers) before (bins_of l.bins.entries);
}
