use Rattle.std.proofs.Common.{◌≢◌, All, take}
use Rattle.packrun_lines.proofs.input.length_of_part.Given as goal

abbrev pub invariant-loop-index : goal.invariant-loop-index
invariant-loop-index l = All (λ b. b ≢ 10) (take l.index l.bytes)
