use Rattle.std.proofs.Common.{take}
use Rattle.std.specs.List.{flat_map}
use Rattle.std.specs.Io.KnownBytes.{Appends}
use Rattle.packrun_lines.specs.Lines.{cuboid_text}
use Rattle.packrun_lines.proofs.print.print_list.Given as goal

abbrev pub invariant-loop-section : goal.invariant-loop-section
invariant-loop-section g l =
    Appends (g.W.Write.contents l.initial.out) (g.W.Write.contents l.out) (flat_map cuboid_text (take l.section-index l.sections))
