use Rattle.rectangle_pack_sections.proofs.Std.{◌≡◌, map, deref_pair, values_of}
use Rattle.rectangle_pack_sections.specs.Bins.{bins_of}
use Rattle.rectangle_pack.specs.Needed.{sizes_of}
use Rattle.rectangle_pack.proofs.bound.entries.sizes_of.Given as goal

abbrev pub invariant-loop-bin : goal.invariant-loop-bin
invariant-loop-bin g l = l.sizes.items ≡ values_of (sizes_of (bins_of (map deref_pair l.yielded)))
