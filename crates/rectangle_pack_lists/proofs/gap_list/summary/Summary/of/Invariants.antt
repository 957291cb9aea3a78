use Rattle.rectangle_pack_sections.proofs.Std.{take}
use Rattle.rectangle_pack_lists.specs.private.GapBits.{bits_of}
use Rattle.rectangle_pack_lists.specs.private.Places.{places_of}
use Rattle.rectangle_pack_lists.specs.private.Summaries.{Sums}
use Rattle.rectangle_pack_lists.proofs.gap_list.summary.Summary.of.Given as goal

abbrev pub invariant-loop-place : goal.invariant-loop-place
invariant-loop-place l = Sums l.summary (take l.place (places_of l.sections (bits_of l.gaps)))
