-- What was read of an input is its first line.
use Rattle.std.proofs.Common.{◌≡◌, ◌≢◌, ℕ, suc, ◌+◌, ◌-◌, ◌<◌, ◌≤◌, ◌⊎◌, inl, inr, ◌||◌, Bool, true, false, Some, List, [], ◌∷◌, ◌++◌, length, take, get_or, All, refl, sym, ap, ◌∙◌, subst, arith, append-nil, append_assoc, take_all, if◌then◌else◌, ne_eqb}
use Rattle.std.specs.Io.BufRead.{ends_with_byte, strip_last}
use Rattle.std.proofs.lemmas.List.Elements.{All-head, All-tail}
use Rattle.std.proofs.lemmas.List.{take_more}
use Rattle.std.proofs.lemmas.Bool.{cases_lt}
use Rattle.packrun_lines.specs.Words.{put_before}
use Rattle.packrun_lines.specs.Requests.{Asks, IsBad}
use Rattle.packrun_lines.specs.Input.{lines_of}
use Rattle.packrun_lines.specs.private.Reading.{IsLineRead, has_ended}
use Rattle.packrun_lines.proofs.lemmas.ReadLines.{no_line_feed}

-- no byte is a line feed
abbrev pub NoLineFeed : List ℕ → Type 0
NoLineFeed bs = All (λ b. b ≢ 10) bs

lines_of-other : (b : ℕ) (bs : List ℕ) → b ≢ 10 → lines_of (b ∷ bs) ≡ put_before b (lines_of bs)
lines_of-other b bs h = ap (λ t. if t then [] ∷ lines_of bs else put_before b (lines_of bs)) (ne_eqb b 10 h)

-- a line that ends with a line feed
lines_of-ended : (line rest : List ℕ) → NoLineFeed line → lines_of (line ++ 10 ∷ rest) ≡ line ∷ lines_of rest
lines_of-ended [] rest h = refl
lines_of-ended (b ∷ line) rest h =
    lines_of-other b (line ++ 10 ∷ rest) (All-head (λ x. x ≢ 10) b line h)
    ∙ ap (put_before b) (lines_of-ended line rest (All-tail (λ x. x ≢ 10) b line h))

-- a line that ends with the input
lines_of-last : (b : ℕ) (line : List ℕ) → NoLineFeed (b ∷ line) → lines_of (b ∷ line) ≡ (b ∷ line) ∷ []
lines_of-last b [] h = lines_of-other b [] (All-head (λ x. x ≢ 10) b [] h)
lines_of-last b (c ∷ line) h =
    lines_of-other b (c ∷ line) (All-head (λ x. x ≢ 10) b (c ∷ line) h)
    ∙ ap (put_before b) (lines_of-last c line (All-tail (λ x. x ≢ 10) b (c ∷ line) h))

-- the first of these lines is at least so long
abbrev BeginsLong : ℕ → List (List ℕ) → Type 0
BeginsLong n lines = (line : List ℕ) × (later : List (List ℕ)) × (lines ≡ line ∷ later) × (n ≤ length line)

put_before-long : (b n : ℕ) (lines : List (List ℕ)) → BeginsLong n lines → BeginsLong (suc n) (put_before b lines)
put_before-long b n lines (line, later, is, long) = (b ∷ line, later, ap (put_before b) is, omega arith)

begins_with : (b : ℕ) (lines : List (List ℕ)) → BeginsLong 1 (put_before b lines)
begins_with b [] = (b ∷ [], [], refl, omega arith)
begins_with b (line ∷ later) = (b ∷ line, later, refl, omega arith)

-- a line that begins with a part
lines_of-long : (b : ℕ) (part rest : List ℕ) → NoLineFeed (b ∷ part) → BeginsLong (length (b ∷ part)) (lines_of ((b ∷ part) ++ rest))
lines_of-long b [] rest h = subst (BeginsLong 1) (sym (lines_of-other b rest (All-head (λ x. x ≢ 10) b [] h))) (begins_with b (lines_of rest))
lines_of-long b (c ∷ part) rest h =
    subst (BeginsLong (length (b ∷ c ∷ part))) (sym (lines_of-other b ((c ∷ part) ++ rest) (All-head (λ x. x ≢ 10) b (c ∷ part) h)))
    (put_before-long b (length (c ∷ part)) (lines_of ((c ∷ part) ++ rest)) (lines_of-long c part rest (All-tail (λ x. x ≢ 10) b (c ∷ part) h)))

-- the first line is what was read of it, and the others are those of the rest; or both are too long
abbrev pub IsFirstLine : List ℕ → List ℕ → List ℕ → List (List ℕ) → Type 0
IsFirstLine read rest line later = ((line ≡ strip_last 10 read) × (later ≡ lines_of rest)) ⊎ ((4096 < length line) × (4096 < length (strip_last 10 read)))

-- a line that is too long is bad
IsBad-long : (line : List ℕ) → 4096 < length line → IsBad line
IsBad-long line long request asks = absurd (omega (arith, asks.plain.short))

-- what was read of a line is bad where the line is
pub IsBad-first : (read rest line : List ℕ) (later : List (List ℕ)) → IsFirstLine read rest line later → IsBad (strip_last 10 read) → IsBad line
IsBad-first read rest line later (inl (is, _)) bad = subst IsBad (sym is) bad
IsBad-first read rest line later (inr (long, _)) bad = IsBad-long line long

-- what is asked by what was read of a line is asked by the line
pub Asks-first : (read rest line : List ℕ) (later : List (List ℕ)) → IsFirstLine read rest line later → (request : _) → Asks (strip_last 10 read) request
    → Asks line request × (later ≡ lines_of rest)
Asks-first read rest line later (inl (is, others)) request asks = (subst (λ l. Asks l request) (sym is) asks, others)
Asks-first read rest line later (inr (_, long)) request asks = absurd (omega (arith, asks.plain.short))

-- nothing was read: there are no lines
pub lines_of-none : (xs rest read : List ℕ) → IsLineRead (Some xs) read (Some rest) → length read ≡ 0 → lines_of xs ≡ []
lines_of-none xs rest [] h none = ap lines_of (h.consumed ∙ h.whole refl (omega arith))
lines_of-none xs rest (b ∷ read) h none = absurd (omega arith)

ends_with_byte-last : (read : List ℕ) → ends_with_byte 10 read ≡ true → get_or read (length read - 1) 0 ≡ 10
ends_with_byte-last read h = grind arith

not_ended : (b : ℕ) (read : List ℕ) → ends_with_byte 10 (b ∷ read) ≡ false → has_ended (b ∷ read) ≡ false
not_ended b read h = ap (λ t. t || ends_with_byte 10 (b ∷ read)) (ne_eqb (length (b ∷ read)) 0 (λ e. absurd (omega (arith, e)))) ∙ h

last-of_read : (b : ℕ) (read : List ℕ) → ends_with_byte 10 (b ∷ read) ≡ true → get_or (b ∷ read) (length read) 0 ≡ 10
last-of_read b read h = ap (λ n. get_or (b ∷ read) n 0) {y = length (b ∷ read) - 1} (omega arith) ∙ ends_with_byte-last (b ∷ read) h

-- a text that ends with a line feed, without it
unended : (read : List ℕ) → ends_with_byte 10 read ≡ true → read ≡ take (length read - 1) read ++ 10 ∷ []
unended [] h = absurd (cc h)
unended (b ∷ read) h =
    sym (take_all (length read + 1) (b ∷ read) (omega arith)) ∙ take_more (b ∷ read) (length read) 0 (omega arith)
    ∙ ap (λ x. take (length read) (b ∷ read) ++ x ∷ []) (last-of_read b read h)
    ∙ ap (λ n. take n (b ∷ read) ++ 10 ∷ []) (omega arith)

module _ (xs rest : List ℕ) (b : ℕ) (read : List ℕ) (h : IsLineRead (Some xs) (b ∷ read) (Some rest)) where
  abbrev HasFirstLine : Type 0
  HasFirstLine = (line : List ℕ) × (later : List (List ℕ)) × (lines_of xs ≡ line ∷ later) × IsFirstLine (b ∷ read) rest line later

  first-ended : ends_with_byte 10 (b ∷ read) ≡ true → HasFirstLine
  first-ended ended =
      let front = take (length (b ∷ read) - 1) (b ∷ read) in
      let xs_are : xs ≡ front ++ 10 ∷ rest = h.consumed ∙ ap (λ r. r ++ rest) (unended (b ∷ read) ended) ∙ append_assoc front (10 ∷ []) rest in
      let stripped : strip_last 10 (b ∷ read) ≡ front = ap (λ t. if t then front else b ∷ read) ended in
      (front, lines_of rest, ap lines_of xs_are ∙ lines_of-ended front rest h.stops, inl (sym stripped, refl))

  first-last : ends_with_byte 10 (b ∷ read) ≡ false → NoLineFeed (b ∷ read) → (4096 < length (b ∷ read)) ⊎ (length (b ∷ read) ≤ 4096) → HasFirstLine
  first-last open_end clean (inr fits) =
      let none : rest ≡ [] = h.whole open_end fits in
      let xs_are : xs ≡ b ∷ read = h.consumed ∙ ap (λ r. (b ∷ read) ++ r) none ∙ append-nil (b ∷ read) in
      let stripped : strip_last 10 (b ∷ read) ≡ b ∷ read = ap (λ t. if t then take (length (b ∷ read) - 1) (b ∷ read) else b ∷ read) open_end in
      (b ∷ read, [], ap lines_of xs_are ∙ lines_of-last b read clean, inl (sym stripped, ap lines_of (sym none)))
  first-last open_end clean (inl long) =
      let (line, later, is, at_least) = subst (λ bytes. BeginsLong (length (b ∷ read)) (lines_of bytes)) (sym h.consumed) (lines_of-long b read rest clean) in
      let stripped : strip_last 10 (b ∷ read) ≡ b ∷ read = ap (λ t. if t then take (length (b ∷ read) - 1) (b ∷ read) else b ∷ read) open_end in
      (line, later, is, inr (omega arith, subst (λ l. 4096 < length l) (sym stripped) long))

  first_line : HasFirstLine
  first_line = by (ends_with_byte 10 (b ∷ read)) refl
    where
      by : (ended : Bool) → ends_with_byte 10 (b ∷ read) ≡ ended → HasFirstLine
      by true ended = first-ended ended
      by false open_end = first-last open_end (no_line_feed (b ∷ read) h.stops (not_ended b read open_end)) (cases_lt 4096 (length (b ∷ read)))

-- something was read: there is a first line
pub lines_of-some : (xs rest read : List ℕ) → IsLineRead (Some xs) read (Some rest) → 0 < length read
    → (line : List ℕ) × (later : List (List ℕ)) × (lines_of xs ≡ line ∷ later) × IsFirstLine read rest line later
lines_of-some xs rest [] h some = absurd (omega arith)
lines_of-some xs rest (b ∷ read) h some = first_line xs rest b read h
