--- How a run ends, and its exit status.
use Rattle.std.specs.Prelude.{ℕ, Result, Ok, Err}
use Rattle.packrun_lines.specs.declared.stop.Stop.{Stop}
use Rattle.packrun_lines.specs.declared.stop.Stop.TheVariants.{BadLine, NoMemory, IoFailed}

-- how a run ends: at the end of its input, or by what stops it
abbrev pub Ended : Type 0
Ended = Result (Unit {0}) Stop

-- the exit status with which each end is told
-- Example: 0 done, 1 a failed read or write, 2 a bad line, 3 no memory
abbrev pub status_of : Ended → ℕ
status_of (Ok done) = 0
status_of (Err (BadLine number)) = 2
status_of (Err NoMemory) = 3
status_of (Err IoFailed) = 1
