use Rattle.rectangle_pack_sections.proofs.Std.{◌≤◌, length, drop}
use Rattle.rectangle_pack_lists.specs.private.GapBits.{bits_of}
use Rattle.rectangle_pack_lists.specs.private.Places.{places_of, NoneHolds}
use Rattle.rectangle_pack_lists.proofs.gap_list.last_of.Given as goal

abbrev pub invariant-loop-end : goal.invariant-loop-end
invariant-loop-end l = record {
  within : l.end ≤ length l.sections;
  none : NoneHolds (drop l.end (places_of l.sections (bits_of l.gaps))) l.member l.tests;
}

abbrev pub decreases-loop-end : goal.decreases-loop-end
decreases-loop-end l = l.end
