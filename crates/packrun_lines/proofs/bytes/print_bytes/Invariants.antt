use Rattle.std.proofs.Common.{◌≡◌, ℕ, List, ◌++◌}
use Rattle.std.specs.Io.KnownBytes.{Appends}
use Rattle.packrun_lines.proofs.bytes.print_bytes.Given as goal

-- what is printed is what stands before the rest
abbrev pub invariant-loop : goal.invariant-loop
invariant-loop g l =
    (front : List ℕ) × (l.bytes ≡ front ++ l.rest)
    × Appends (g.W.Write.contents l.initial.out) (g.W.Write.contents l.out) front
