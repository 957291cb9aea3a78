use Rattle.rectangle_pack_sections.proofs.Std.{All, length}
use Rattle.rectangle_pack_sections.specs.Boxes.{FitsU32}
use Rattle.rectangle_pack_lists.specs.declared.corners.Corner.TheVariants.{Near, Far}
use Rattle.rectangle_pack_lists.specs.private.Corners.{full, IsFull, AreNamed}
use Rattle.rectangle_pack_lists.proofs.lemmas.joining.InSlots.{AreJoinedSoFar}
use Rattle.rectangle_pack_lists.proofs.coalesce.join_slot.Given as goal

abbrev pub invariant-loop-other : goal.invariant-loop-other
invariant-loop-other g l = record {
  so_far : AreJoinedSoFar l.slot l.fn.sections l.sections;
  at : IsFull l.sections l.slot;
  fit : All FitsU32 l.sections;
  near : AreNamed Near l.sections l.corners.near.items;
  far : AreNamed Far l.sections l.corners.far.items;
}

abbrev pub decreases-loop-other : goal.decreases-loop-other
decreases-loop-other g l = length (full l.sections)
