use Rattle.std.proofs.Common.{◌≡◌, ◌∷◌, [], ◌++◌, Some, None, List, ℕ, sym, ap, ◌∙◌, append_assoc, append-nil}
use Rattle.std.specs.Str.Iter.{split_ascii_whitespace_text}
use Rattle.packrun_lines.specs.private.Commands.{words_left}
use Rattle.packrun_lines.proofs.lemmas.Words.{IsNextWord-of_step}
use Rattle.packrun_lines.proofs.word.push_words.Goals as goal

pub loop-name-preserved : goal.loop-name-preserved
loop-name-preserved g c =
    let items = c.loop-name.words.items in
    let left = words_left c.next.new.self in
    let next : words_left c.loop-name.name-iterator ≡ c.in-Some.name.now ∷ left =
    IsNextWord-of_step (split_ascii_whitespace_text c.loop-name.name-iterator) (split_ascii_whitespace_text c.next.new.self) (Some c.in-Some.name)
    c.in-Some.ensures.steps in
    ap (λ l. l ++ left) (c.in_ok-push.ensures.items ∙ ap (λ (w : List ℕ). items ++ w ∷ []) c.in_ok-new.ensures)
    ∙ append_assoc items (c.in-Some.name.now ∷ []) left ∙ ap (λ l. items ++ l) (sym next) ∙ c.loop-name.invariant

pub returns : goal.returns
returns g c =
    let items = c.loop-name.words.items in
    let none = IsNextWord-of_step (split_ascii_whitespace_text c.loop-name.name-iterator) (split_ascii_whitespace_text c.next.new.self) None
    c.in-None.ensures.steps in
    sym (append-nil items) ∙ ap (λ l. items ++ l) (sym none.0) ∙ c.loop-name.invariant
