use Rattle.std.proofs.Common.{◌∷◌, sym, subst, ap, ◌∙◌}
use Rattle.packrun_lines.specs.Words.{words_in}
use Rattle.packrun_lines.specs.Requests.{IsPlain}
use Rattle.packrun_lines.specs.private.Commands.{words_left, IsReading}
use Rattle.packrun_lines.proofs.lemmas.Requests.{IsReading-read}
use Rattle.packrun_lines.proofs.command.parse.Goals as goal

pub returns-in_err-words : goal.returns-in_err-words
returns-in_err-words c =
    subst (IsReading _) (sym c.from_residual.ensures) λ request asks.
    c.in_err-words.ensures (subst IsPlain (sym c.without_line_feed.ensures) asks.plain)

pub returns-in-None : goal.returns-in-None
returns-in-None c =
    let (plain, words_are) = c.in_ok-words.ensures in
    record {
      plain = subst IsPlain c.without_line_feed.ensures plain;
      says = ap words_in (sym c.without_line_feed.ensures) ∙ sym words_are ∙ c.in-None.ensures.0;
    }

pub returns-in-Some-rect : goal.returns-in-Some-rect
returns-in-Some-rect c =
    let (plain, words_are) = c.in_ok-words.ensures in
    let left = words_left c.next_word.new.words in
    subst (λ line. IsReading line c.next_rect.result) c.without_line_feed.ensures
    (IsReading-read _ _ left _ plain
    (sym words_are ∙ c.in-Some-rect.ensures ∙ ap (λ word. word ∷ left) c.in-Some-rect.is-rect)
    c.next_rect.ensures)

pub returns-in-Some : goal.returns-in-Some
returns-in-Some c =
    let (plain, words_are) = c.in_ok-words.ensures in
    subst (λ line. IsReading line c.next_command.result) c.without_line_feed.ensures
    (IsReading-read _ _ (words_left c.next_word.new.words) _ plain
    (sym words_are ∙ c.in-Some.ensures) c.next_command.ensures)
