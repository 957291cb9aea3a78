use Rattle.std.proofs.Common.{◌≢◌, ◌≤◌, All, length}
use Rattle.std.specs.Io.KnownBytes.{Consumes}
use Rattle.packrun_lines.proofs.input.read_line.Given as goal

abbrev pub invariant-loop : goal.invariant-loop
invariant-loop g l = All (λ b. b ≢ 10) l.line.items × (length l.line.items ≤ 4096)
    × Consumes (g.B.Read.remaining l.initial.input) (g.B.Read.remaining l.input) l.line.items
