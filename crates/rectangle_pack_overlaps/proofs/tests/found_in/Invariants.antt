use Rattle.rectangle_pack_sections.proofs.Std.{◌<◌, All}
use Rattle.rectangle_pack_overlaps.proofs.tests.found_in.Given as goal

abbrev pub invariant-loop-one : goal.invariant-loop-one
invariant-loop-one l = All (λ b. b.bin < 3) l.known.items
