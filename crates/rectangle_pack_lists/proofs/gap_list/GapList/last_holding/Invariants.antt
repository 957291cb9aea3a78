use Rattle.rectangle_pack_sections.proofs.Std.{◌≤◌, length, drop}
use Rattle.rectangle_pack_lists.specs.private.GapBits.{flags_of}
use Rattle.rectangle_pack_lists.specs.private.Places.{places_of, NoneHolds}
use Rattle.rectangle_pack_lists.proofs.gap_list.GapList.last_holding.Given as goal

abbrev pub invariant-loop-end : goal.invariant-loop-end
invariant-loop-end g l = record {
  within : l.end ≤ length l.self-inside.sections.items;
  none : NoneHolds (drop l.end (places_of l.self-inside.sections.items (flags_of l.self-inside.gaps.items))) l.member l.tests;
}

abbrev pub decreases-loop-end : goal.decreases-loop-end
decreases-loop-end g l = l.end
