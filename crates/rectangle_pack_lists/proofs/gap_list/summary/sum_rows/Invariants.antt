use Rattle.rectangle_pack_sections.proofs.Std.{◌≡◌, ◌≤◌, ◌<◌, ◌*◌, ℕ, List, Option, length, take, drop, get_or, vec_capacity}
use Rattle.rectangle_pack_sections.specs.Boxes.{Cuboid}
use Rattle.rectangle_pack_lists.specs.private.Summaries.{Sums, SumAll}
use Rattle.rectangle_pack_lists.specs.declared.gap_list.summary.Summary.{Summary}
use Rattle.rectangle_pack_lists.proofs.gap_list.summary.sum_rows.Given as goal

abbrev pub invariant-loop-row : goal.invariant-loop-row
invariant-loop-row g l = record {
  count : length l.rows.items ≡ l.row;
  room : l.most ≤ vec_capacity l.rows;
  each : (places : List (Option Cuboid)) → SumAll 8 places l.blocks
      → (k : ℕ) (d : Summary) → k < l.row → Sums (get_or l.rows.items k d) (take 64 (drop (k * 64) places));
}
