use Rattle.packrun_lines.proofs.lemmas.Transcripts.{ends-as_stopped, transcript-kept, transcript-unflushed}
use Rattle.packrun_lines.proofs.run.run_buffered.Goals as goal
use Rattle.packrun_lines.proofs.run.run_buffered.Goals.{then-eq-via-then-eq, then-eq-via-else-eq+then-is_err}

pub returns-then-eq-clause-transcript : goal.returns-then-eq-clause-transcript
returns-then-eq-clause-transcript g c =
    let ended = c.end-ended.ensures in
    let printed = ends-as_stopped _ _ _ _ c.obey_all-ended.result c.end-ended.result c.obey_all-ended.ensures ended.ended ended.printed ended.begun in
    elim c.then-eq.branch [
      | then-eq-via-then-eq w ↦ rw w.out-is (transcript-unflushed _ _ _ c.end-ended.result printed)
      | then-eq-via-else-eq+then-is_err w ↦
          rw w.out-is (transcript-unflushed _ _ _ c.end-ended.result (transcript-kept _ _ _ _ c.end-ended.result printed w.flush.ensures.bytes))
    ]

pub returns-clause-transcript : goal.returns-clause-transcript
returns-clause-transcript g c =
    let ended = c.end-ended.ensures in
    let printed = ends-as_stopped _ _ _ _ c.obey_all-ended.result c.end-ended.result c.obey_all-ended.ensures ended.ended ended.printed ended.begun in
    transcript-kept _ _ _ _ c.end-ended.result printed c.flush.ensures.bytes
