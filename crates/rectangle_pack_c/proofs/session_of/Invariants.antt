use Rattle.rectangle_pack_c.proofs.Std.{◌≡◌, [], take}
use Rattle.rectangle_pack_c.specs.Arguments.{new_bins}
use Rattle.rectangle_pack_c.proofs.session_of.Given as goal

abbrev pub invariant-loop-i : goal.invariant-loop-i
invariant-loop-i l = l.session ≡ record { bins = new_bins (take l.i l.bins); outstanding = []; next = 0 }
