use Rattle.std.proofs.Common.{take}
use Rattle.std.specs.List.{flat_map}
use Rattle.std.specs.Io.KnownBytes.{Appends}
use Rattle.packrun_lines.specs.Lines.{placement_text}
use Rattle.packrun_lines.proofs.print.print_packed.Given as goal

abbrev pub invariant-loop-placement : goal.invariant-loop-placement
invariant-loop-placement g l =
    Appends (g.W.Write.contents l.initial.out) (g.W.Write.contents l.out) (flat_map placement_text (take l.placement-index l.placements))
