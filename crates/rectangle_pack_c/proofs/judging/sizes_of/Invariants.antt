use Rattle.std.specs.Prelude.{◌≡◌, map, take}
use Rattle.rectangle_pack_c.specs.Arguments.{bin_size}
use Rattle.rectangle_pack_c.proofs.judging.sizes_of.Given as goal

abbrev pub invariant-loop-bin : goal.invariant-loop-bin
invariant-loop-bin l = l.sizes.items ≡ map bin_size (take l.bin-index l.bins)
