use Rattle.rectangle_pack_sections.proofs.Std.{◌*◌, List, take, Option}
use Rattle.rectangle_pack_sections.specs.Boxes.{Cuboid}
use Rattle.rectangle_pack_lists.specs.private.Summaries.{Sums, SumAll}
use Rattle.rectangle_pack_lists.proofs.gap_list.summary.Summary.of_blocks.Given as goal

abbrev pub invariant-loop-block : goal.invariant-loop-block
invariant-loop-block l = (places : List (Option Cuboid)) → SumAll 8 places l.blocks → Sums l.summary (take (l.block-index * 8) places)
