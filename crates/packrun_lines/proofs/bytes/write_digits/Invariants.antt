use Rattle.packrun_lines.proofs.lemmas.Decimals.{IsSpelling}
use Rattle.packrun_lines.proofs.bytes.write_digits.Given as goal

abbrev pub invariant-loop-rest : goal.invariant-loop-rest
invariant-loop-rest l = IsSpelling l.number l.fn.line l.end l.rest l.line l.at

abbrev pub decreases-loop-rest : goal.decreases-loop-rest
decreases-loop-rest l = l.rest
