use Rattle.rectangle_pack_c.proofs.Std.{◌≡◌, map, take}
use Rattle.rectangle_pack_c.specs.private.Saved.{outstanding_of}
use Rattle.rectangle_pack_c.proofs.restoring.standing.Given as goal

abbrev pub invariant-loop-one : goal.invariant-loop-one
invariant-loop-one l = l.placements.items ≡ map outstanding_of (take l.one-index l.saved)
