use Rattle.std.proofs.Common.{subst}
use Rattle.packrun_lines.specs.Store.{empty_store}
use Rattle.packrun_lines.specs.Transcripts.{AreAnswered}
use Rattle.packrun_lines.proofs.lemmas.Stores.{PacksBoxes-promised}
use Rattle.packrun_lines.proofs.lemmas.Kept.{Answers-kept, AreAnswered-kept, AreAnswered-split, IsSession-empty}
use Rattle.packrun_lines.proofs.laws.answers_keep_sessions.Goals as goal

pub returns-clause-request : goal.returns-clause-request
returns-clause-request c = Answers-kept

pub returns-clause-lines : goal.returns-clause-lines
returns-clause-lines c = AreAnswered-kept

pub returns-clause-begun : goal.returns-clause-begun
returns-clause-begun c = λ lines new text answers. AreAnswered-kept lines (empty_store 0) new text answers (IsSession-empty 0)

pub returns-clause-transcript : goal.returns-clause-transcript
returns-clause-transcript c = λ input printed ended whole before behind splits.
    let (text, later, between, front, back, is) = AreAnswered-split before behind (empty_store 0) whole.store whole.text
    (subst (λ lines. AreAnswered (empty_store 0) lines whole.text whole.store) splits whole.answers) in
    (text, later, between, front, back, is, AreAnswered-kept before (empty_store 0) between text front (IsSession-empty 0))

pub returns-clause-packings : goal.returns-clause-packings
returns-clause-packings c = λ old new answer packs. PacksBoxes-promised old answer new packs
