use Rattle.rectangle_pack_c.proofs.Std.{◌≡◌, ℕ, ◌<◌, Some, slice_get}
use Rattle.rectangle_pack_c.proofs.fitting.fill.Given as goal

abbrev pub invariant-loop-entry : goal.invariant-loop-entry
invariant-loop-entry g l = (k : ℕ) → k < l.entry-index → slice_get l.entries k ≡ Some l.value
