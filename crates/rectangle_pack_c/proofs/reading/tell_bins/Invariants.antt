use Rattle.rectangle_pack_c.proofs.Std.{◌≡◌, ◌++◌, map, drop, length}
use Rattle.rectangle_pack_c.proofs.reading.tell_bins.Given as goal

abbrev pub invariant-loop-i : goal.invariant-loop-i
invariant-loop-i l = record {
  counted : l.i ≡ length l.yielded;
  told : l.ids ≡ map (λ e. e.0.now) l.yielded ++ drop (length l.yielded) l.fn.ids;
}
