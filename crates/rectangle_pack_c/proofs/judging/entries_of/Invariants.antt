use Rattle.std.specs.Prelude.{◌≡◌, take}
use Rattle.rectangle_pack_c.specs.Judging.{entries_of}
use Rattle.rectangle_pack_c.proofs.judging.entries_of.Given as goal

abbrev pub invariant-loop-i : goal.invariant-loop-i
invariant-loop-i l = l.all.items ≡ entries_of (take l.i l.entries)
