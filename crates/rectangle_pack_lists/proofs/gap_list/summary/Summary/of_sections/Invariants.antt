use Rattle.rectangle_pack_sections.proofs.Std.{take}
use Rattle.rectangle_pack_lists.specs.private.Summaries.{Bounds}
use Rattle.rectangle_pack_lists.proofs.gap_list.summary.Summary.of_sections.Given as goal

abbrev pub invariant-loop-section : goal.invariant-loop-section
invariant-loop-section l = Bounds l.summary (take l.section-index l.sections)
