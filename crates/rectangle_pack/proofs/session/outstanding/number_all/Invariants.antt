use Rattle.rectangle_pack_sections.proofs.Std.{◌≡◌, ◌+◌, ◌++◌, ◌≤◌, length, vec_len, into_iter_len}
use Rattle.rectangle_pack.specs.Session.{numbered}
use Rattle.rectangle_pack.proofs.session.outstanding.number_all.Given as goal

abbrev pub invariant-loop-placement : goal.invariant-loop-placement
invariant-loop-placement g l = record {
  outstanding : l.outstanding.items ≡ l.fn.outstanding.items ++ numbered l.fn.first l.yielded;
  number : l.number ≡ l.fn.first + length l.yielded;
  room : l.fn.outstanding.spare ≤ l.outstanding.spare + length l.yielded;
  left : length l.yielded + into_iter_len l.placement-iterator ≡ vec_len l.fn.placements;
}
