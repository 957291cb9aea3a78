use Rattle.std.specs.Prelude.{◌≡◌, map, take}
use Rattle.rectangle_pack_c.specs.Judging.{pair_of}
use Rattle.rectangle_pack_c.proofs.judging.pairs_of.Given as goal

abbrev pub invariant-loop-exclusion : goal.invariant-loop-exclusion
invariant-loop-exclusion l = l.pairs.items ≡ map pair_of (take l.exclusion-index l.exclusions)
