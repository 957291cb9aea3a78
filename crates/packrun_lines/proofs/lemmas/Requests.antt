-- What words do not say.
use Rattle.std.proofs.Common.{◌≡◌, ℕ, ◌<◌, true, Option, Some, None, MatchOption, Result, Ok, Err, MatchResult, List, ◌∷◌, refl, sym, ap, subst, arith, codes}
use Rattle.std.specs.Option.{is_some}
use Rattle.std.specs.Result.{is_ok}
use Rattle.std.specs.Str.{IsUtf8}
use Rattle.std.proofs.lemmas.Str.{IsUtf8-from_ascii}
use Rattle.std.proofs.lemmas.Str.Ascii.{IsAscii-from_all}
use Rattle.std.proofs.lemmas.List.Elements.{All-weaker}
use Rattle.packrun_lines.specs.declared.command.Command.{Command}
use Rattle.packrun_lines.specs.Words.{may_stand, words_in, Writes}
use Rattle.packrun_lines.specs.Requests.{Request, Say, IsPlain}
use Rattle.packrun_lines.specs.Requests.Request.{Nothing, Bin, Rect, Exclude, Pack, Release, Sections, Coalesce, Sweep, Stats}
use Rattle.packrun_lines.specs.private.Verbs.{verb_of, Take, AreOf}
use Rattle.packrun_lines.specs.private.Commands.{IsNextRequest, IsNextSize, IsNumberBelow, IsRead, IsReading, request_of}

-- a word that writes a number below a bound is one
pub IsNumberBelow-written : (bound : ℕ) (word : List ℕ) (n : ℕ) → Writes bound word n → IsNumberBelow bound word
IsNumberBelow-written bound word n (numeral, is, less) = (numeral, subst (λ m. m < bound) is less)

is_ascii_where_it_may_stand : (b : ℕ) → may_stand b ≡ true → b < 128
is_ascii_where_it_may_stand b h = grind arith

-- a line of which each byte may stand in it is text
pub IsUtf8-plain : (line : List ℕ) → IsPlain line → IsUtf8 line
IsUtf8-plain line plain = IsUtf8-from_ascii line (IsAscii-from_all line (All-weaker (λ b. may_stand b ≡ true) (λ b. b < 128) is_ascii_where_it_may_stand line plain.bytes))

-- what is no text is no plain line
pub not-plain : {S E W : Type 0} (line : List ℕ) (read : Result S E) (text : Option S) (words : Option W) (P : S → Type 0) (F : E → Type 0) (Q : W → Type 0)
    → MatchResult read P (λ e. ¬ IsUtf8 line × F e) → is_some text ≡ is_ok read → text ≡ None → words ≡ None → MatchOption words (¬ IsPlain line) Q
not-plain line (Ok s) text words P F Q h same none no_words = absurd (cc (same, ap is_some none))
not-plain line (Err e) text words P F Q (bad, _) same none no_words =
    subst (λ w. MatchOption w (¬ IsPlain line) Q) (sym no_words) (λ plain. bad (IsUtf8-plain line plain))

-- no size, so no bin
pub no-bin : (r : Option Command) → r ≡ None → (old later new : List (List ℕ)) (name : List ℕ) → old ≡ name ∷ later → IsNextSize later None new
    → IsNextRequest (codes "bin") old r new
no-bin r is_none old later new name old_is none = subst (λ r. IsNextRequest (codes "bin") old r new) (sym is_none) says
  where
    says : (request : Request) (rest : List (List ℕ)) → codes "bin" ≡ verb_of request → ¬ Take old request rest
    says Nothing rest verb t = t
    says (Bin n size) rest verb (w, h, d, e, writes) = none w h d rest size (cc (old_is, e)) writes
    says request rest verb t = absurd (cc verb)

-- no size, so no box
pub no-box : (r : Option Command) → r ≡ None → (old later new : List (List ℕ)) (id : List ℕ) → old ≡ id ∷ later → IsNextSize later None new → IsRead (codes "rect") old r
no-box r is_none old later new id old_is none = subst (λ r. IsRead (codes "rect") old r) (sym is_none) says
  where
    says : (request : Request) → ¬ AreOf (codes "rect") old request
    says Nothing (_, t) = t
    says (Rect i size groups) (verb, (w, h, d, e, writes, _)) = none w h d groups size (cc (old_is, e)) writes
    says request (verb, t) = absurd (cc verb)

-- words that are of a request say it, and the other way round
pub Say-of : (verb : List ℕ) (words : List (List ℕ)) (request : Request) → AreOf verb words request → Say (verb ∷ words) request
Say-of verb words Nothing (is, t) = absurd t
Say-of verb words (Bin name size) (is, (w, h, d, e, writes)) = (w, h, d, cc (is, e), writes)
Say-of verb words (Rect id size groups) (is, (w, h, d, e, writes, _)) = (w, h, d, cc (is, e), writes)
Say-of verb words (Exclude one other) (is, (e, differ)) = (cc (is, e), differ)
Say-of verb words Pack (is, e) = cc (is, e)
Say-of verb words (Release number) (is, (n, e, writes)) = (n, cc (is, e), writes)
Say-of verb words (Sections name) (is, e) = cc (is, e)
Say-of verb words (Coalesce name idx start end) (is, (i, lo, hi, e, one, two, three)) = (i, lo, hi, cc (is, e), one, two, three)
Say-of verb words (Sweep name) (is, e) = cc (is, e)
Say-of verb words (Stats name) (is, e) = cc (is, e)

pub AreOf-said : (verb : List ℕ) (words : List (List ℕ)) (request : Request) → Say (verb ∷ words) request → AreOf verb words request
AreOf-said verb words Nothing e = absurd (cc e)
AreOf-said verb words (Bin name size) (w, h, d, e, writes) = (cc e, (w, h, d, cc e, writes))
AreOf-said verb words (Rect id size groups) (w, h, d, e, writes) = (cc e, (w, h, d, cc e, writes, refl))
AreOf-said verb words (Exclude one other) (e, differ) = (cc e, (cc e, differ))
AreOf-said verb words Pack e = (cc e, cc e)
AreOf-said verb words (Release number) (n, e, writes) = (cc e, (n, cc e, writes))
AreOf-said verb words (Sections name) e = (cc e, cc e)
AreOf-said verb words (Coalesce name idx start end) (i, lo, hi, e, one, two, three) = (cc e, (i, lo, hi, cc e, one, two, three))
AreOf-said verb words (Sweep name) e = (cc e, cc e)
AreOf-said verb words (Stats name) e = (cc e, cc e)

-- a line is read by its words
pub IsReading-read : (line verb : List ℕ) (words : List (List ℕ)) (r : Option Command) → IsPlain line → words_in line ≡ verb ∷ words → IsRead verb words r → IsReading line r
IsReading-read line verb words (Some command) plain words_are read =
    record { plain = plain; says = subst (λ ws. Say ws (request_of command)) (sym words_are) (Say-of verb words (request_of command) read) }
IsReading-read line verb words None plain words_are none = λ request asks. none request (AreOf-said verb words request (subst (λ ws. Say ws request) words_are asks.says))
