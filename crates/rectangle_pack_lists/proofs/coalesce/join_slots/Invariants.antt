use Rattle.rectangle_pack_sections.proofs.Std.{All}
use Rattle.rectangle_pack_sections.specs.Boxes.{FitsU32}
use Rattle.rectangle_pack_lists.specs.declared.corners.Corner.TheVariants.{Near, Far}
use Rattle.rectangle_pack_lists.specs.private.Corners.{AreNamed}
use Rattle.rectangle_pack_lists.proofs.lemmas.joining.SweptSlots.{IsSweptTo}
use Rattle.rectangle_pack_lists.proofs.coalesce.join_slots.Given as goal

abbrev pub invariant-loop-slot : goal.invariant-loop-slot
invariant-loop-slot g l = record {
  swept : IsSweptTo l.slot l.fn.sections l.sections;
  fit : All FitsU32 l.sections;
  near : AreNamed Near l.sections l.corners.near.items;
  far : AreNamed Far l.sections l.corners.far.items;
}
