use Rattle.rectangle_pack_sections.proofs.Std.{take}
use Rattle.rectangle_pack_sections.specs.Bins.{bins_of}
use Rattle.rectangle_pack.specs.private.Releasing.{GivesBackInTurn}
use Rattle.rectangle_pack.proofs.session.releasing.give_back_all.Given as goal

abbrev pub invariant-loop-given : goal.invariant-loop-given
invariant-loop-given g l = record {
  given : GivesBackInTurn g.B.Ord.cmp l.outstanding (take l.given l.numbers) (bins_of l.fn.bins.entries) (bins_of l.bins.entries);
}
