use Rattle.packrun_lines.proofs.lemmas.OneTranscript.{IsTranscript-one, IsTranscript-begins, PrintsTranscript-one}
use Rattle.packrun_lines.proofs.laws.input_has_one_transcript.Goals as goal

pub returns-clause-one : goal.returns-clause-one
returns-clause-one c = IsTranscript-one

pub returns-clause-runs : goal.returns-clause-runs
returns-clause-runs c = PrintsTranscript-one

pub returns-clause-without_memory : goal.returns-clause-without_memory
returns-clause-without_memory c = IsTranscript-begins
