-- What a command asks for, and what functions take from the words that are left.
use Rattle.std.specs.Prelude.{◌≡◌, ◌≢◌, ℕ, ◌<◌, List, [], ◌∷◌, All, Option, Some, None}
use Rattle.std.specs.Borrow.{Bor}
use Rattle.std.specs.Str.Iter.{split_ascii_whitespace_text}
use Rattle.std.specs.declared.str.SplitAsciiWhitespace.{SplitAscii}
use Rattle.std.specs.Str.Parse.{IsNumeral, digits_value}
use Rattle.packrun_lines.specs.Words.{words_in, Writes}
use Rattle.packrun_lines.specs.Requests as asks
use Rattle.packrun_lines.specs.Requests.{Request, Asks, IsBad, WriteSize}
use Rattle.packrun_lines.specs.private.Verbs.{verb_of, Take, AreOf}
use Rattle.packrun_lines.specs.declared.command.Size.{Size}
use Rattle.packrun_lines.specs.declared.command.Command.{Command}
use Rattle.packrun_lines.specs.declared.command.Command.TheVariants.{Nothing, Bin, Rect, Exclude, Pack, Release, Sections, Coalesce, Sweep, Stats}

-- the words that an iterator over words has left
abbrev pub words_left : SplitAscii → List (List ℕ)
words_left words = words_in (split_ascii_whitespace_text words)

-- what a command asks for
abbrev pub request_of : Command → Request
request_of Nothing = asks.Nothing
request_of (Bin name size) = asks.Bin name.now size
request_of (Rect id size groups) = asks.Rect id.now size (words_left groups)
request_of (Exclude one other) = asks.Exclude one.now other.now
request_of Pack = asks.Pack
request_of (Release number) = asks.Release number
request_of (Sections name) = asks.Sections name.now
request_of (Coalesce name idx range) = asks.Coalesce name.now idx range.start range.end
request_of (Sweep name) = asks.Sweep name.now
request_of (Stats name) = asks.Stats name.now

-- decimal digits, with any zeros before them, whose number is below the bound
abbrev pub IsNumberBelow : ℕ → List ℕ → Type 0
IsNumberBelow bound word = IsNumeral 10 word × (digits_value 10 word < bound)

-- the number that the word writes, where it is below the bound, else none
abbrev pub IsNumberAnswer : ℕ → List ℕ → Option ℕ → Type 0
IsNumberAnswer bound word (Some n) = Writes bound word n
IsNumberAnswer bound word None = ¬ IsNumberBelow bound word

-- a line is read as this command, or as none where it is bad
abbrev pub IsReading : List ℕ → Option Command → Type 0
IsReading line (Some command) = Asks line (request_of command)
IsReading line None = IsBad line

-- words behind this first one are read as this command, or as none
abbrev pub IsRead : List ℕ → List (List ℕ) → Option Command → Type 0
IsRead verb words (Some command) = AreOf verb words (request_of command)
IsRead verb words None = (request : Request) → ¬ AreOf verb words request

-- the request that begins with this word is taken from the words, and the new ones are left; or there is none
abbrev pub IsNextRequest : List ℕ → (old : List (List ℕ)) → Option Command → (new : List (List ℕ)) → Type 0
IsNextRequest verb old (Some command) new = (verb ≡ verb_of (request_of command)) × Take old (request_of command) new
IsNextRequest verb old None new = (request : Request) (rest : List (List ℕ)) → verb ≡ verb_of request → ¬ Take old request rest

-- the next of the words, and those that are left behind it
abbrev pub IsNextWord : (old : List (List ℕ)) → Option (Bor (List ℕ)) → (new : List (List ℕ)) → Type 0
IsNextWord old (Some word) new = old ≡ word.now ∷ new
IsNextWord old None new = (old ≡ []) × (new ≡ [])

-- the number that the next word writes, which is below the bound
abbrev pub IsNextNumber : (bound : ℕ) (old : List (List ℕ)) → Option ℕ → (new : List (List ℕ)) → Type 0
IsNextNumber bound old (Some n) new = (word : List ℕ) × (old ≡ word ∷ new) × Writes bound word n
IsNextNumber bound old None new = (word : List ℕ) (rest : List (List ℕ)) → old ≡ word ∷ rest → ¬ IsNumberBelow bound word

-- the size that the next three words write
abbrev pub IsNextSize : (old : List (List ℕ)) → Option Size → (new : List (List ℕ)) → Type 0
IsNextSize old (Some size) new = (w h d : List ℕ) × (old ≡ w ∷ h ∷ d ∷ new) × WriteSize w h d size
IsNextSize old None new = (w h d : List ℕ) (rest : List (List ℕ)) (size : Size) → old ≡ w ∷ h ∷ d ∷ rest → ¬ WriteSize w h d size

-- the word is none of these
abbrev pub IsNoneOf : List ℕ → List (List ℕ) → Type 0
IsNoneOf word words = All (λ w. word ≢ w) words
