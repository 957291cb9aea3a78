use Rattle.packrun_lines.proofs.lemmas.Transcripts.{ends-as_stopped}
use Rattle.packrun_lines.proofs.run.run_lines.Goals as goal

pub returns : goal.returns
returns g c = record {
  transcript = ends-as_stopped _ _ _ _ c.obey_all-ended.result c.end.result c.obey_all-ended.ensures c.end.ensures.ended c.end.ensures.printed c.end.ensures.begun;
}
