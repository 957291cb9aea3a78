-- Lines that are obeyed one after another, up to where they stop.
use Rattle.std.proofs.Common.{◌≡◌, ◌≢◌, ℕ, ◌+◌, ◌<◌, inl, inr, nat_lt, true, false, List, [], ◌∷◌, ◌++◌, Option, Some, None, IfSome, IsErrAnd, Result, Ok, Err, length, refl, sym, ap, ◌∙◌, subst, arith, length-append, append_assoc, append-nil}
use Rattle.std.specs.Io.BufRead.{strip_last}
use Rattle.std.specs.Io.KnownBytes.{Appends, Keeps}
use Rattle.std.proofs.KnownBytes.{Appends-nil, Appends-trans, Appends-kept}
use Rattle.packrun_lines.specs.Answers.{Answers}
use Rattle.packrun_lines.specs.Ends.{Ended}
use Rattle.packrun_lines.specs.Input.{lines_of}
use Rattle.packrun_lines.specs.Printing.{AppendsStart}
use Rattle.packrun_lines.specs.Requests.{Request, Asks, IsBad}
use Rattle.packrun_lines.specs.Store.{Store, empty_store}
use Rattle.packrun_lines.specs.Transcripts.{AreAnswered, MayEnd, IsTranscript, PrintsTranscript, last_line}
use Rattle.packrun_lines.specs.private.Obeying.{AreFirstAnswered, AreObeyed, IsObeyed, StopsSo}
use Rattle.packrun_lines.specs.private.Reading.{IsLineRead}
use Rattle.packrun_lines.specs.declared.stop.Stop.{Stop}
use Rattle.packrun_lines.specs.declared.stop.Stop.TheVariants.{BadLine, NoMemory, IoFailed}
use Rattle.packrun_lines.proofs.lemmas.NextLines.{lines_of-none, lines_of-some, Asks-first, IsBad-first}
use Rattle.packrun_lines.proofs.lemmas.Printing.{AppendsStart-behind, AppendsStart-longer, AppendsStart-all, AppendsStart-kept}

-- one line more is answered
AreAnswered-more : (lines : List (List ℕ)) (a b c : Store) (text more line : List ℕ) (request : Request) → AreAnswered a lines text b
    → Asks line request → Answers request b more c → AreAnswered a (lines ++ line ∷ []) (text ++ more) c
AreAnswered-more [] a b c text more line request (none, same) asks answers =
    (request, asks, more, c, subst (λ d. Answers request d more c) same answers, [], (refl, refl), ap (λ t. t ++ more) none ∙ sym (append-nil more))
AreAnswered-more (first ∷ lines) a b c text more line request (asked, asks_first, one, next, answers_first, later, others, text_is) asks answers = (
  asked,
  asks_first,
  one,
  next,
  answers_first,
  later ++ more,
  AreAnswered-more lines next b c later more line request others asks answers,
  ap (λ t. t ++ more) text_is ∙ append_assoc one later more,
)

-- the only beginning of nothing is nothing
Keeps-begun : (a b : Option (List ℕ)) → AppendsStart a b [] → Keeps a b
Keeps-begun a b ([], rest, is, appends) = none a b appends
  where
    none : (a b : Option (List ℕ)) → Appends a b [] → Keeps a b
    none None b p = tt
    none (Some x) None p = absurd p
    none (Some x) (Some y) p = p ∙ append-nil x
Keeps-begun a b (x ∷ front, rest, is, appends) = absurd (cc is)

-- where something was read, a line is left
left_some : (rest next read : List ℕ) → IsLineRead (Some rest) read (Some next) → 0 < length read → 0 < length (lines_of rest)
left_some rest next read is_read some =
    let (line, later, lines_are, first) = lines_of-some rest next read is_read some in
    subst (λ (lines : List (List ℕ)). 0 < length lines) (sym lines_are) (omega arith)

module _ (bytes : List ℕ) (old : Store) (before : Option (List ℕ)) where
  -- the line that was read is answered behind the first ones
  answered-more : (rest read next : List ℕ) (n : ℕ) (mid new : Store) (text more : List ℕ) (request : Request) → AreFirstAnswered bytes old text mid (lines_of rest) n
      → IsLineRead (Some rest) read (Some next) → 0 < length read → Asks (strip_last 10 read) request → Answers request mid more new
      → AreFirstAnswered bytes old (text ++ more) new (lines_of next) (n + 1)
  answered-more rest read next n mid new text more request done is_read some asks answers =
      let (line, later, lines_are, first) = lines_of-some rest next read is_read some in
      let (asked, later_is) = Asks-first read next line later first request asks in
      record {
        answered = done.answered ++ line ∷ [];
        lines_are = done.lines_are ∙ ap (λ ls. done.answered ++ ls) (lines_are ∙ ap (λ ls. line ∷ ls) later_is) ∙ sym (append_assoc done.answered (line ∷ []) (lines_of next));
        answers = AreAnswered-more done.answered old mid new text more line request done.answers asked answers;
        number_is = omega (arith, done.number_is, length-append done.answered (line ∷ []));
      }

  AreObeyed-none : AreObeyed bytes old before old (lines_of bytes) 1 before
  AreObeyed-none = ([], record { answered = []; lines_are = refl; answers = (refl, refl); number_is = refl }, Appends-nil before)

  AreObeyed-kept : (new : Store) (left : List (List ℕ)) (n : ℕ) (a b : Option (List ℕ)) → AreObeyed bytes old before new left n a → Keeps a b
      → AreObeyed bytes old before new left n b
  AreObeyed-kept new left n a b (text, done, printed) kept = (text, done, Appends-kept before a b text printed kept)

  AreObeyed-more : (rest read next : List ℕ) (n : ℕ) (mid new : Store) (a b : Option (List ℕ)) → AreObeyed bytes old before mid (lines_of rest) n a
      → IsLineRead (Some rest) read (Some next) → 0 < length read → (request : Request) → Asks (strip_last 10 read) request
      → IsObeyed request mid a (Ok tt) new b → AreObeyed bytes old before new (lines_of next) (n + 1) b
  AreObeyed-more rest read next n mid new a b (text, done, printed) is_read some request asks (more, answers, appends) = (
    text ++ more,
    answered-more rest read next n mid new text more request done is_read some asks answers,
    Appends-trans before a b text more printed appends,
  )

  stops-by : (rest read next : List ℕ) (n : ℕ) (mid new : Store) (a b : Option (List ℕ)) (why : Stop) → AreObeyed bytes old before mid (lines_of rest) n a
      → IsLineRead (Some rest) read (Some next) → 0 < length read → (request : Request) → Asks (strip_last 10 read) request
      → IsObeyed request mid a (Err why) new b → StopsSo (Err why) bytes old before b
  stops-by rest read next n mid new a b (BadLine number) done is_read some request asks (more, answers, (is, begun)) = absurd (cc is)
  stops-by rest read next n mid new a b NoMemory done is_read some request asks kept =
      (mid, lines_of rest, n, AreObeyed-kept mid (lines_of rest) n a b done kept, inr (left_some rest next read is_read some))
  stops-by rest read next n mid new a b IoFailed (text, done, printed) is_read some request asks (more, answers, (_, begun)) = record {
    left = lines_of next;
    number = n + 1;
    new = new;
    text = text ++ more;
    first = answered-more rest read next n mid new text more request done is_read some asks answers;
    printed = AppendsStart-behind before a b text more printed begun;
  }

  stops-bad : (rest read next : List ℕ) (n : ℕ) (mid : Store) (a : Option (List ℕ)) → AreObeyed bytes old before mid (lines_of rest) n a
      → IsLineRead (Some rest) read (Some next) → 0 < length read → IsBad (strip_last 10 read) → StopsSo (Err (BadLine n)) bytes old before a
  stops-bad rest read next n mid a done is_read some bad =
      let (line, later, lines_are, first) = lines_of-some rest next read is_read some in
      (mid, lines_of rest, n, done, (refl, line, later, lines_are, IsBad-first read next line later first bad))

  stops-failed : (new : Store) (left : List (List ℕ)) (n : ℕ) (a : Option (List ℕ)) → AreObeyed bytes old before new left n a → StopsSo (Err IoFailed) bytes old before a
  stops-failed new left n a (text, done, printed) =
      record { left = left; number = n; new = new; text = text; first = done; printed = AppendsStart-all before a text printed }

-- the first lines of what is known are obeyed, and these bytes are left
abbrev pub Obeyed : (known : Option (List ℕ)) (old : Store) (before now : Option (List ℕ)) (n : ℕ) (new : Store) (after : Option (List ℕ)) → Type 0
Obeyed known old before now n new after =
    IfSome known (λ bytes. (rest : List ℕ) × (now ≡ Some rest) × AreObeyed bytes old before new (lines_of rest) n after)

module _ (known : Option (List ℕ)) (old : Store) (before now next : Option (List ℕ)) (read : List ℕ) (n : ℕ) (mid : Store) (a b : Option (List ℕ)) where
  -- a line is read, and what is printed is kept: what holds then of what is known
  Obeyed-read : (Q : List ℕ → Type 0) → Obeyed known old before now n mid a → IsLineRead now read next → Keeps a b
      → ((bytes rest left : List ℕ) → AreObeyed bytes old before mid (lines_of rest) n b → IsLineRead (Some rest) read (Some left) → next ≡ Some left → Q bytes)
      → IfSome known Q
  Obeyed-read Q obeyed is_read kept so = by known now next obeyed is_read so
    where
      by : (known now next : Option (List ℕ)) → Obeyed known old before now n mid a → IsLineRead now read next
          → ((bytes rest left : List ℕ) → AreObeyed bytes old before mid (lines_of rest) n b → IsLineRead (Some rest) read (Some left) → next ≡ Some left → Q bytes)
          → IfSome known Q
      by None now next obeyed is_read so = tt
      by (Some bytes) None next (rest, is, done) is_read so = absurd (cc is)
      by (Some bytes) (Some now) None (rest, is, done) is_read so = absurd is_read.consumed
      by (Some bytes) (Some now) (Some next) (rest, is, done) is_read so =
          let same : rest ≡ now = cc is in
          let here = subst (λ r. AreObeyed bytes old before mid (lines_of r) n a) same done in
          so bytes now next (AreObeyed-kept bytes old before mid (lines_of now) n a b here kept) is_read refl

  pub Obeyed-more : (new : Store) (c : Option (List ℕ)) → Obeyed known old before now n mid a → IsLineRead now read next → Keeps a b → 0 < length read
      → (request : Request) → Asks (strip_last 10 read) request → IsObeyed request mid b (Ok tt) new c → Obeyed known old before next (n + 1) new c
  Obeyed-more new c obeyed is_read kept some request asks line =
      Obeyed-read (λ bytes. (rest : List ℕ) × (next ≡ Some rest) × AreObeyed bytes old before new (lines_of rest) (n + 1) c) obeyed is_read kept
      (λ bytes rest left done is_read is. (left, is, AreObeyed-more bytes old before rest read left n mid new b c done is_read some request asks line))

  pub Obeyed-at_end : Obeyed known old before now n mid a → IsLineRead now read next → Keeps a b → length read ≡ 0
      → IfSome known (λ bytes. StopsSo (Ok tt) bytes old before b)
  Obeyed-at_end obeyed is_read kept none =
      Obeyed-read (λ bytes. StopsSo (Ok tt) bytes old before b) obeyed is_read kept
      (λ bytes rest left done is_read is. (mid, lines_of rest, n, done, lines_of-none rest left read is_read none))

  pub Obeyed-stopped : (new : Store) (c : Option (List ℕ)) (why : Stop) → Obeyed known old before now n mid a → IsLineRead now read next → Keeps a b → 0 < length read
      → (request : Request) → Asks (strip_last 10 read) request → IsObeyed request mid b (Err why) new c → IfSome known (λ bytes. StopsSo (Err why) bytes old before c)
  Obeyed-stopped new c why obeyed is_read kept some request asks line =
      Obeyed-read (λ bytes. StopsSo (Err why) bytes old before c) obeyed is_read kept
      (λ bytes rest left done is_read is. stops-by bytes old before rest read left n mid new b c why done is_read some request asks line)

  pub Obeyed-bad : Obeyed known old before now n mid a → IsLineRead now read next → Keeps a b → 0 < length read → IsBad (strip_last 10 read)
      → IfSome known (λ bytes. StopsSo (Err (BadLine n)) bytes old before b)
  Obeyed-bad obeyed is_read kept some bad =
      Obeyed-read (λ bytes. StopsSo (Err (BadLine n)) bytes old before b) obeyed is_read kept
      (λ bytes rest left done is_read is. stops-bad bytes old before rest read left n mid b done is_read some bad)

-- what a test of a length says
pub none_is : (n : ℕ) → nat_lt 0 n ≡ false → n ≡ 0
none_is n h = grind arith

pub some_is : (n : ℕ) → nat_lt 0 n ≡ true → 0 < n
some_is n h = grind arith

-- an error that is handed on
pub err_is : {T E : Type 0} (r : Result T E) (e : E) → IsErrAnd r (λ f. f ≡ e) → r ≡ Err e
err_is (Ok x) e h = absurd h
err_is (Err f) e h = ap Err h

-- a line could not be read
pub Obeyed-failed : (known : Option (List ℕ)) (old : Store) (before now : Option (List ℕ)) (n : ℕ) (mid : Store) (a b : Option (List ℕ))
    → Obeyed known old before now n mid a → Keeps a b → IfSome known (λ bytes. StopsSo (Err IoFailed) bytes old before b)
Obeyed-failed None old before now n mid a b obeyed kept = tt
Obeyed-failed (Some bytes) old before now n mid a b (rest, is, done) kept =
    stops-failed bytes old before mid (lines_of rest) n b (AreObeyed-kept bytes old before mid (lines_of rest) n a b done kept)

-- memory is refused before the first line
pub stops-without_memory : (known : Option (List ℕ)) (old : Store) (before : Option (List ℕ)) → IfSome known (λ bytes. StopsSo (Err NoMemory) bytes old before before)
stops-without_memory None old before = tt
stops-without_memory (Some bytes) old before = (old, lines_of bytes, 1, AreObeyed-none bytes old before, inl refl)

-- what stopped the lines, and the last line behind them, make a transcript
module _ (bytes : List ℕ) (before a after : Option (List ℕ)) where
  transcript-ended : (ended : Ended) (text : List ℕ) (new : Store) (left : List (List ℕ)) (n : ℕ) → AreFirstAnswered bytes (empty_store 0) text new left n → MayEnd n left ended
      → IsTranscript bytes (text ++ last_line ended) ended
  transcript-ended ended text new left n done ends = record {
    answered = done.answered;
    left = left;
    lines_are = done.lines_are;
    text = text;
    store = new;
    answers = done.answers;
    ends = subst (λ k. MayEnd k left ended) done.number_is ends;
    printed_is = refl;
  }

  transcript-of : (ended : Ended) (new : Store) (left : List (List ℕ)) (n : ℕ) → AreObeyed bytes (empty_store 0) before new left n a → MayEnd n left ended
      → Appends a after (last_line ended) → (printed : List ℕ) × IsTranscript bytes printed ended × Appends before after printed
  transcript-of ended new left n (text, done, printed) ends last =
      (text ++ last_line ended, transcript-ended ended text new left n done ends, Appends-trans before a after text (last_line ended) printed last)

  transcript-stopped : (stopped : Ended) → StopsSo stopped bytes (empty_store 0) before a → stopped ≢ Err IoFailed → Appends a after (last_line stopped)
      → PrintsTranscript before after stopped bytes
  transcript-stopped (Err IoFailed) so fine last = absurd (fine refl)
  transcript-stopped stopped (new, left, n, obeyed, ends) fine last = transcript-of stopped new left n obeyed ends last

  -- a beginning of a transcript: of some answers, of which some may be left unprinted, as where memory is refused behind them
  begun-of : (text : List ℕ) (new : Store) (left : List (List ℕ)) (n : ℕ) → AreFirstAnswered bytes (empty_store 0) text new left n → AppendsStart before after text
      → PrintsTranscript before after (Err IoFailed) bytes
  begun-of text new [] n done printed =
      (Ok tt, text ++ [], transcript-ended (Ok tt) text new [] n done refl, AppendsStart-longer before after text [] printed)
  begun-of text new (line ∷ later) n done printed = (
    Err NoMemory,
    text ++ last_line (Err NoMemory),
    transcript-ended (Err NoMemory) text new (line ∷ later) n done (inr (omega arith)),
    AppendsStart-longer before after text (last_line (Err NoMemory)) printed,
  )

  -- or of all answers, and a beginning of the last line
  begun-last : (ended : Ended) (new : Store) (left : List (List ℕ)) (n : ℕ) → AreObeyed bytes (empty_store 0) before new left n a → MayEnd n left ended
      → AppendsStart a after (last_line ended) → PrintsTranscript before after (Err IoFailed) bytes
  begun-last ended new left n (text, done, printed) ends last =
      (ended, text ++ last_line ended, transcript-ended ended text new left n done ends, AppendsStart-behind before a after text (last_line ended) printed last)

  begun-stopped : (stopped : Ended) → StopsSo stopped bytes (empty_store 0) before a → AppendsStart a after (last_line stopped) → PrintsTranscript before after (Err IoFailed) bytes
  begun-stopped (Err IoFailed) begun last =
      begun-of begun.text begun.new begun.left begun.number begun.first (AppendsStart-kept before a after begun.text begun.printed (Keeps-begun a after last))
  begun-stopped stopped (new, left, n, obeyed, ends) last = begun-last stopped new left n obeyed ends last

-- a run that ends as its lines stopped, or by a write that failed
pub ends-as_stopped : (known before a after : Option (List ℕ)) (stopped ended : Ended) → IfSome known (λ bytes. StopsSo stopped bytes (empty_store 0) before a)
    → (ended ≢ Err IoFailed → ended ≡ stopped) → (ended ≢ Err IoFailed → Appends a after (last_line ended)) → AppendsStart a after (last_line stopped)
    → IfSome known (PrintsTranscript before after ended)
ends-as_stopped None before a after stopped ended so same last begun = tt
ends-as_stopped (Some bytes) before a after stopped ended so same last begun = by ended same last
  where
    as_stopped : (ended : Ended) → ended ≢ Err IoFailed → (ended ≢ Err IoFailed → ended ≡ stopped) → (ended ≢ Err IoFailed → Appends a after (last_line ended))
        → PrintsTranscript before after ended bytes
    as_stopped ended fine same last =
        transcript-stopped bytes before a after ended (subst (λ e. StopsSo e bytes (empty_store 0) before a) (sym (same fine)) so) fine (last fine)

    by : (ended : Ended) → (ended ≢ Err IoFailed → ended ≡ stopped) → (ended ≢ Err IoFailed → Appends a after (last_line ended)) → PrintsTranscript before after ended bytes
    by (Err IoFailed) same last = begun-stopped bytes before a after stopped so begun
    by ended same last = as_stopped ended (λ e. absurd (cc e)) same last

-- what a run printed stays printed where it is kept
pub transcript-kept : (known before a after : Option (List ℕ)) (ended : Ended) → IfSome known (PrintsTranscript before a ended) → Keeps a after
    → IfSome known (PrintsTranscript before after ended)
transcript-kept None before a after ended p kept = tt
transcript-kept (Some bytes) before a after (Err IoFailed) (end, printed, is, begun) kept = (end, printed, is, AppendsStart-kept before a after printed begun kept)
transcript-kept (Some bytes) before a after ended p kept = (p.0, p.1, Appends-kept before a after p.0 p.2 kept)

-- and where it could not be flushed, a beginning of a transcript is printed
pub transcript-unflushed : (known before after : Option (List ℕ)) (ended : Ended) → IfSome known (PrintsTranscript before after ended)
    → IfSome known (PrintsTranscript before after (Err IoFailed))
transcript-unflushed None before after ended p = tt
transcript-unflushed (Some bytes) before after (Err IoFailed) p = p
transcript-unflushed (Some bytes) before after ended p = (ended, p.0, p.1, AppendsStart-all before after p.0 p.2)
