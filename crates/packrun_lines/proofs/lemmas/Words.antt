-- The words of a text, one after another.
use Rattle.std.proofs.Common.{◌≡◌, ℕ, ◌<◌, ◌≤◌, ◌⊎◌, inl, inr, true, false, Option, Some, None, List, [], ◌∷◌, ◌++◌, length, get_or, All, refl, ap, ◌∙◌, arith}
use Rattle.std.specs.Borrow.{Bor}
use Rattle.std.specs.Char.{is_ascii_whitespace}
use Rattle.std.specs.Str.{NoCharPasses}
use Rattle.std.specs.Str.Iter.{CutsAsciiWord}
use Rattle.std.proofs.lemmas.Bool.{cases_lt}
use Rattle.std.proofs.lemmas.Str.{NoCharPasses-byte}
use Rattle.std.proofs.lemmas.List.Elements.{All-from_get_or, All-head, All-tail}
use Rattle.packrun_lines.specs.Words.{words_in, begins_word, put_before}
use Rattle.packrun_lines.specs.private.Commands.{IsNextWord}

-- the byte separates words
abbrev Separates : ℕ → Type 0
Separates b = is_ascii_whitespace b ≡ true

-- the byte is one of a word
abbrev IsOfWord : ℕ → Type 0
IsOfWord b = is_ascii_whitespace b ≡ false

-- a byte that is none of ASCII does not separate words
past_ascii : (b : ℕ) → 128 ≤ b → IsOfWord b
past_ascii b h = grind arith

is_of_word : (bs : List ℕ) → NoCharPasses is_ascii_whitespace bs → (i : ℕ) → i < length bs → (get_or bs i 0 < 128) ⊎ (128 ≤ get_or bs i 0) → IsOfWord (get_or bs i 0)
is_of_word bs h i below (inr far) = past_ascii (get_or bs i 0) far
is_of_word bs h i below (inl near) = NoCharPasses-byte is_ascii_whitespace bs i h below near

all_of_word : (bs : List ℕ) → NoCharPasses is_ascii_whitespace bs → All IsOfWord bs
all_of_word bs h = All-from_get_or IsOfWord bs 0 (λ i below. is_of_word bs h i below (cases_lt (get_or bs i 0) 128))

-- what separates words in front of a text changes none of them
words_in-gap : (gap rest : List ℕ) → All Separates gap → words_in (gap ++ rest) ≡ words_in rest
words_in-gap [] rest h = refl
words_in-gap (b ∷ gap) rest h = rw (All-head Separates b gap h) (words_in-gap gap rest (All-tail Separates b gap h))

words_in-gap_alone : (gap : List ℕ) → All Separates gap → words_in gap ≡ []
words_in-gap_alone [] h = refl
words_in-gap_alone (b ∷ gap) h = rw (All-head Separates b gap h) (words_in-gap_alone gap (All-tail Separates b gap h))

-- a word, and behind it what begins no word
words_in-word : (b : ℕ) (word rest : List ℕ) → All IsOfWord (b ∷ word) → begins_word rest ≡ false → words_in ((b ∷ word) ++ rest) ≡ (b ∷ word) ∷ words_in rest
words_in-word b [] rest h ends = rw (All-head IsOfWord b [] h) (rw ends refl)
words_in-word b (c ∷ word) rest h ends =
    let others : All IsOfWord (c ∷ word) = All-tail IsOfWord b (c ∷ word) h in
    let later : words_in ((c ∷ word) ++ rest) ≡ (c ∷ word) ∷ words_in rest = words_in-word c word rest others ends in
    let next : IsOfWord c = All-head IsOfWord c word others in
    rw (All-head IsOfWord b (c ∷ word) h) (rw next (ap (put_before b) (rw next at later)))

words_in-whole : (word rest : List ℕ) → 0 < length word → All IsOfWord word → begins_word rest ≡ false → words_in (word ++ rest) ≡ word ∷ words_in rest
words_in-whole [] rest some h ends = absurd (omega arith)
words_in-whole (b ∷ word) rest some h ends = words_in-word b word rest h ends

-- one byte that separates words, or the end, begins no word
begins_word-not : (sep rest : List ℕ) → All Separates sep → (length sep ≡ 0 → length rest ≡ 0) → begins_word (sep ++ rest) ≡ false
begins_word-not [] [] h ends = refl
begins_word-not [] (b ∷ rest) h ends = absurd (omega (arith, ends refl))
begins_word-not (b ∷ sep) rest h ends = rw (All-head Separates b sep h) refl

words_in-none : (rest : List ℕ) → length rest ≡ 0 → words_in rest ≡ []
words_in-none [] h = refl
words_in-none (b ∷ rest) h = absurd (omega arith)

-- what an iterator over words answers is the next of the words that it has left
pub IsNextWord-of_step : (old new : List ℕ) (r : Option (Bor (List ℕ))) → CutsAsciiWord old r new (λ gap x sep. gap ++ (x ++ (sep ++ new)))
    → IsNextWord (words_in old) r (words_in new)
IsNextWord-of_step old new None (gap, none) = (words_in-gap_alone old gap, words_in-none new none)
IsNextWord-of_step old new (Some x) (some, plain, _, (gap, sep, old_is, is_gap, (is_sep, _, ends))) =
    ap words_in old_is ∙ words_in-gap gap (x.now ++ (sep ++ new)) is_gap
    ∙ words_in-whole x.now (sep ++ new) some (all_of_word x.now plain) (begins_word-not sep new is_sep ends)
    ∙ ap (λ ws. x.now ∷ ws) (words_in-gap sep new is_sep)
