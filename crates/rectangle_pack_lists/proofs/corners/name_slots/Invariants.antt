use Rattle.rectangle_pack_sections.proofs.Std.{ℕ, ◌≡◌, ◌<◌, ◌≤◌, length, Contains, vec_len, vec_capacity}
use Rattle.rectangle_pack_lists.specs.Joining.{entry}
use Rattle.rectangle_pack_lists.specs.private.Corners.{corner_number}
use Rattle.rectangle_pack_lists.proofs.corners.name_slots.Given as goal

abbrev pub invariant-loop-slot : goal.invariant-loop-slot
invariant-loop-slot g l = record {
  named : (k : ℕ) → k < l.slot → Contains l.names.items (record { corner = corner_number l.corner (entry l.sections k); slot = k });
  count : vec_len l.names ≡ l.slot;
  room : length l.sections ≤ vec_capacity l.names;
}
