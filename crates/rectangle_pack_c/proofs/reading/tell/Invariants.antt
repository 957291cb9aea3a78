use Rattle.rectangle_pack_c.proofs.Std.{◌≡◌, ◌++◌, map, take, drop}
use Rattle.rectangle_pack_c.proofs.reading.tell.Given as goal

abbrev pub invariant-loop-i : goal.invariant-loop-i
invariant-loop-i g l = l.array ≡ map g.T.Written.written (take l.i l.fn.there) ++ drop l.i l.fn.array
