use Rattle.std.proofs.Common.{◌+◌, ◌-◌, ◌^◌, ◌≤◌}
use Rattle.std.specs.Io.Buffered.{reader_remaining}
use Rattle.packrun_lines.proofs.lemmas.Transcripts.{Obeyed}
use Rattle.packrun_lines.proofs.run.obey_each.Given as goal

-- each line has a byte
abbrev pub invariant-loop-number : goal.invariant-loop-number
invariant-loop-number g l = record {
  obeyed : Obeyed (reader_remaining g.R.Read.remaining l.initial.input) l.initial.store (g.W.Write.contents l.initial.out)
      (reader_remaining g.R.Read.remaining l.input) (l.number + 1) l.store (g.W.Write.contents l.out);
  few : l.number ≤ l.total;
}

abbrev pub decreases-loop-number : goal.decreases-loop-number
decreases-loop-number g l = 2 ^ 64 - l.total
