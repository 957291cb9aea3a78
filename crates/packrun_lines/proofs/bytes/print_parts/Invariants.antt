use Rattle.std.proofs.Common.{take}
use Rattle.std.specs.Io.KnownBytes.{Appends}
use Rattle.packrun_lines.specs.private.Printing.{bytes_of_parts}
use Rattle.packrun_lines.proofs.bytes.print_parts.Given as goal

abbrev pub invariant-loop-part : goal.invariant-loop-part
invariant-loop-part g l =
    Appends (g.W.Write.contents l.initial.out) (g.W.Write.contents l.out) (bytes_of_parts (take l.part-index l.parts))
