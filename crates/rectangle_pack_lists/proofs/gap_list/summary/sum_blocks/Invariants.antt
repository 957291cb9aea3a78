use Rattle.rectangle_pack_sections.proofs.Std.{◌≡◌, ◌≤◌, ◌<◌, ◌*◌, ℕ, length, take, drop, get_or, vec_capacity}
use Rattle.rectangle_pack_lists.specs.private.GapBits.{flags_of}
use Rattle.rectangle_pack_lists.specs.private.Places.{places_of}
use Rattle.rectangle_pack_lists.specs.private.Summaries.{Sums}
use Rattle.rectangle_pack_lists.specs.declared.gap_list.summary.Summary.{Summary}
use Rattle.rectangle_pack_lists.proofs.gap_list.summary.sum_blocks.Given as goal

abbrev pub invariant-loop-block : goal.invariant-loop-block
invariant-loop-block g l = record {
  count : length l.blocks.items ≡ l.block;
  room : l.most ≤ vec_capacity l.blocks;
  each : (k : ℕ) (d : Summary) → k < l.block → Sums (get_or l.blocks.items k d) (take 8 (drop (k * 8) (places_of l.sections (flags_of l.gaps))));
}
