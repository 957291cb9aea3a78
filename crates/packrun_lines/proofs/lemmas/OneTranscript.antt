-- An input has one transcript, where memory is not refused.
use Rattle.std.proofs.Common.{◌≡◌, ◌≢◌, ℕ, ◌+◌, List, [], ◌∷◌, ◌++◌, Option, Some, None, Ok, Err, length, refl, ap, sym, ◌∙◌, subst, arith, append_assoc}
use Rattle.std.specs.Io.KnownBytes.{Appends}
use Rattle.rectangle_pack.specs.Session.{IsSession}
use Rattle.packrun_lines.specs.Requests.{Request, Asks}
use Rattle.packrun_lines.specs.Answers.{Answers}
use Rattle.packrun_lines.specs.Store.{name_cmp, Store, empty_store}
use Rattle.packrun_lines.specs.Transcripts.{AreAnswered, MayEnd, IsTranscript, PrintsTranscript, last_line}
use Rattle.packrun_lines.specs.Ends.{Ended}
use Rattle.packrun_lines.specs.declared.stop.Stop.TheVariants.{BadLine, NoMemory, IoFailed}
use Rattle.packrun_lines.proofs.lemmas.Kept.{Answers-kept, IsSession-empty}
use Rattle.packrun_lines.proofs.lemmas.OneRequest.{Asks-one}
use Rattle.packrun_lines.proofs.lemmas.OneAnswer.{AreStoresAlike, Answers-one}

-- a run does not end before a line that asks for something
ends_not : (n : ℕ) (left : List (List ℕ)) (end : Ended) (line : List ℕ) (later : List (List ℕ)) (request : Request) → end ≢ Err NoMemory → MayEnd n left end
    → left ≡ line ∷ later → ¬ Asks line request
ends_not n left (Ok done) line later request memory ends is asks = cc (ends, is)
ends_not n left (Err (BadLine number)) line later request memory (_, bad, behind, are, is_bad) is asks =
    let same : line ≡ bad = cc (are, is) in is_bad request (subst (λ l. Asks l request) same asks)
ends_not n left (Err NoMemory) line later request memory ends is asks = memory refl
ends_not n left (Err IoFailed) line later request memory ends is asks = ends

-- where the same lines are left, a run ends in one way
ends_one : (n : ℕ) (left : List (List ℕ)) (end other : Ended) → end ≢ Err NoMemory → other ≢ Err NoMemory → MayEnd n left end → MayEnd n left other → end ≡ other
ends_one n left (Ok done) (Ok other_done) memory other_memory ends other_ends = refl
ends_one n left (Ok done) (Err (BadLine number)) memory other_memory ends (_, line, later, are, bad) = absurd (cc (ends, are))
ends_one n left (Err (BadLine number)) (Ok done) memory other_memory (_, line, later, are, bad) other_ends = absurd (cc (are, other_ends))
ends_one n left (Err (BadLine number)) (Err (BadLine other_number)) memory other_memory ends other_ends = ap (λ (k : ℕ). Err (BadLine k)) (ends.0 ∙ sym other_ends.0)
ends_one n left (Err NoMemory) other memory other_memory ends other_ends = absurd (memory refl)
ends_one n left end (Err NoMemory) memory other_memory ends other_ends = absurd (other_memory refl)
ends_one n left (Err IoFailed) other memory other_memory ends other_ends = absurd ends
ends_one n left end (Err IoFailed) memory other_memory ends other_ends = absurd other_ends

-- the first line of two lists of lines is answered alike, and leaves stores that are alike
record IsFirstAlike (next other_next : Store) (first other_first : List ℕ) (lines left others other_left : List (List ℕ)) : Type 0 where
  pub text : first ≡ other_first
  pub alike : AreStoresAlike next other_next
  pub session : IsSession name_cmp next.session
  pub rest : lines ++ left ≡ others ++ other_left

first_alike : (old other next other_next : Store) (first other_first line other_line : List ℕ) (request other_request : Request)
    (lines left others other_left : List (List ℕ)) → AreStoresAlike old other → IsSession name_cmp old.session
    → Asks line request → Answers request old first next → Asks other_line other_request → Answers other_request other other_first other_next
    → line ∷ (lines ++ left) ≡ other_line ∷ (others ++ other_left) → IsFirstAlike next other_next first other_first lines left others other_left
first_alike old other next other_next first other_first line other_line request other_request lines left others other_left alike h asks answers other_asks other_answers are =
    let heads : line ≡ other_line = cc are in
    let one : request ≡ other_request = Asks-one line request other_request asks (subst (λ l. Asks l other_request) (sym heads) other_asks) in
    let same = Answers-one old other alike first other_first next other_next request h answers
    (subst (λ r. Answers r other other_first other_next) (sym one) other_answers) in
    record { text = same.0; alike = same.1; session = Answers-kept request old next first answers h; rest = cc are }

-- so lines that are answered up to where a run ends are answered alike
lines_one : (lines others left other_left : List (List ℕ)) (n : ℕ) (old other new other_new : Store) (text other_text : List ℕ) (end other_end : Ended)
    → lines ++ left ≡ others ++ other_left → AreStoresAlike old other → IsSession name_cmp old.session
    → AreAnswered old lines text new → AreAnswered other others other_text other_new → end ≢ Err NoMemory → other_end ≢ Err NoMemory
    → MayEnd (n + length lines) left end → MayEnd (n + length others) other_left other_end → (text ≡ other_text) × (end ≡ other_end)
lines_one [] [] left other_left n old other new other_new text other_text end other_end are alike h a b memory other_memory ends other_ends =
    (a.0 ∙ sym b.0, ends_one (n + 0) left end other_end memory other_memory ends (subst (λ l. MayEnd (n + 0) l other_end) (sym are) other_ends))
lines_one [] (line ∷ others) left other_left n old other new other_new text other_text end other_end are alike h a b memory other_memory ends other_ends =
    absurd (ends_not (n + 0) left end line (others ++ other_left) b.0 memory ends are b.1)
lines_one (line ∷ lines) [] left other_left n old other new other_new text other_text end other_end are alike h a b memory other_memory ends other_ends =
    absurd (ends_not (n + 0) other_left other_end line (lines ++ left) a.0 other_memory other_ends (sym are) a.1)
lines_one (line ∷ lines) (other_line ∷ others) left other_left n old other new other_new text other_text end other_end are alike h
    (request, asks, first, next, answers, later, rest, is) (other_request, other_asks, other_first, other_next, other_answers, other_later, other_rest, other_is)
    memory other_memory ends other_ends =
    let one = first_alike old other next other_next first other_first line other_line request other_request lines left others other_left alike h asks answers
    other_asks other_answers are in
    let count : n + length (line ∷ lines) ≡ (n + 1) + length lines = omega arith in
    let other_count : n + length (other_line ∷ others) ≡ (n + 1) + length others = omega arith in
    let (texts, same_end) = lines_one lines others left other_left (n + 1) next other_next new other_new later other_later end other_end one.rest one.alike one.session
    rest other_rest memory other_memory (subst (λ k. MayEnd k left end) count ends) (subst (λ k. MayEnd k other_left other_end) other_count other_ends) in
    (is ∙ ap (λ t. t ++ later) one.text ∙ ap (λ t. other_first ++ t) texts ∙ sym other_is, same_end)

-- and those that are answered up to anywhere are a beginning of these
lines_begin : (lines others left other_left : List (List ℕ)) (n : ℕ) (old other new other_new : Store) (text other_text : List ℕ) (other_end : Ended)
    → lines ++ left ≡ others ++ other_left → AreStoresAlike old other → IsSession name_cmp old.session
    → AreAnswered old lines text new → AreAnswered other others other_text other_new → other_end ≢ Err NoMemory
    → MayEnd (n + length others) other_left other_end → (more : List ℕ) × (other_text ≡ text ++ more)
lines_begin [] others left other_left n old other new other_new text other_text other_end are alike h a b memory ends = (other_text, ap (λ t. t ++ other_text) (sym a.0))
lines_begin (line ∷ lines) [] left other_left n old other new other_new text other_text other_end are alike h a b memory ends =
    absurd (ends_not (n + 0) other_left other_end line (lines ++ left) a.0 memory ends (sym are) a.1)
lines_begin (line ∷ lines) (other_line ∷ others) left other_left n old other new other_new text other_text other_end are alike h
    (request, asks, first, next, answers, later, rest, is) (other_request, other_asks, other_first, other_next, other_answers, other_later, other_rest, other_is) memory ends =
    let one = first_alike old other next other_next first other_first line other_line request other_request lines left others other_left alike h asks answers
    other_asks other_answers are in
    let count : n + length (other_line ∷ others) ≡ (n + 1) + length others = omega arith in
    let (more, texts) = lines_begin lines others left other_left (n + 1) next other_next new other_new later other_later other_end one.rest one.alike one.session
    rest other_rest memory (subst (λ k. MayEnd k other_left other_end) count ends) in (
      more,
      other_is ∙ ap (λ t. other_first ++ t) texts ∙ sym (append_assoc other_first later more) ∙ ap (λ t. (t ++ later) ++ more) (sym one.text)
          ∙ ap (λ t. t ++ more) (sym is),
    )

-- the first store is alike to itself
empty-alike : AreStoresAlike (empty_store 0) (empty_store 0)
empty-alike = record { session = refl; boxes = record { sizes = tt; groups = tt; excluded = λ a b. refl } }

pub IsTranscript-one : (input printed other : List ℕ) (ended other_ended : Ended) → IsTranscript input printed ended → IsTranscript input other other_ended
    → ended ≢ Err NoMemory → other_ended ≢ Err NoMemory → (printed ≡ other) × (ended ≡ other_ended)
IsTranscript-one input printed other ended other_ended a b memory other_memory =
    let (texts, ends) = lines_one a.answered b.answered a.left b.left 1 (empty_store 0) (empty_store 0) a.store b.store a.text b.text ended other_ended
    (sym a.lines_are ∙ b.lines_are) empty-alike (IsSession-empty 0) a.answers b.answers memory other_memory a.ends b.ends in
    (a.printed_is ∙ ap (λ t. t ++ last_line ended) texts ∙ ap (λ e. b.text ++ last_line e) ends ∙ sym b.printed_is, ends)

pub IsTranscript-begins : (input printed other : List ℕ) (ended : Ended) → (stopped : IsTranscript input printed (Err NoMemory)) → (whole : IsTranscript input other ended)
    → ended ≢ Err NoMemory → (later : List ℕ) × (whole.text ≡ stopped.text ++ later)
IsTranscript-begins input printed other ended stopped whole memory =
    lines_begin stopped.answered whole.answered stopped.left whole.left 1 (empty_store 0) (empty_store 0) stopped.store whole.store stopped.text whole.text ended
    (sym stopped.lines_are ∙ whole.lines_are) empty-alike (IsSession-empty 0) stopped.answers whole.answers memory whole.ends

-- what is printed by a run that ends so
transcript_of : (before after : Option (List ℕ)) (ended : Ended) (input : List ℕ) → ended ≢ Err IoFailed → PrintsTranscript before after ended input
    → (printed : List ℕ) × IsTranscript input printed ended × Appends before after printed
transcript_of before after (Err IoFailed) input written p = absurd (written refl)
transcript_of before after ended input written p = p

one_after : (before printed : List ℕ) (after other : Option (List ℕ)) → Appends (Some before) after printed → Appends (Some before) other printed → after ≡ other
one_after before printed (Some x) (Some y) a b = ap (λ bytes. Some bytes) (a ∙ sym b)
one_after before printed None other a b = absurd a
one_after before printed (Some x) None a b = absurd b

pub PrintsTranscript-one : (input before : List ℕ) (after other_after : Option (List ℕ)) (ended other_ended : Ended)
    → PrintsTranscript (Some before) after ended input → PrintsTranscript (Some before) other_after other_ended input
    → ended ≢ Err NoMemory → ended ≢ Err IoFailed → other_ended ≢ Err NoMemory → other_ended ≢ Err IoFailed → (after ≡ other_after) × (ended ≡ other_ended)
PrintsTranscript-one input before after other_after ended other_ended a b memory written other_memory other_written =
    let (printed, transcript, appended) = transcript_of (Some before) after ended input written a in
    let (other, other_transcript, other_appended) = transcript_of (Some before) other_after other_ended input other_written b in
    let (same, ends) = IsTranscript-one input printed other ended other_ended transcript other_transcript memory other_memory in
    (one_after before printed after other_after appended (subst (λ text. Appends (Some before) other_after text) (sym same) other_appended), ends)
