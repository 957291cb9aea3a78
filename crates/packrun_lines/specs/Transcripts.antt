-- What a run prints, line after line.
use Rattle.std.specs.Prelude.{◌≡◌, ◌⊎◌, ℕ, ◌+◌, ◌<◌, List, [], ◌∷◌, ◌++◌, Option, Ok, Err, length, codes}
use Rattle.std.specs.Fmt.{decimal}
use Rattle.std.specs.Io.KnownBytes.{Appends}
use Rattle.packrun_lines.specs.Requests.{Request, Asks, IsBad}
use Rattle.packrun_lines.specs.Input.{lines_of}
use Rattle.packrun_lines.specs.Printing.{AppendsStart}
use Rattle.packrun_lines.specs.Answers.{Answers}
use Rattle.packrun_lines.specs.Store.{Store, empty_store}
use Rattle.packrun_lines.specs.Ends.{Ended}
use Rattle.packrun_lines.specs.declared.stop.Stop.TheVariants.{BadLine, NoMemory, IoFailed}

-- lines are answered, each on the store that those before it leave: the texts of their answers, one after another, are
-- this text, and the last leaves that store
abbrev pub AreAnswered : Store → List (List ℕ) → List ℕ → Store → Type 0
AreAnswered old [] text new = (text ≡ []) × (new ≡ old)
AreAnswered old (line ∷ lines) text new =
    (request : Request) × Asks line request × (first : List ℕ) × (next : Store) × Answers request old first next
    × (later : List ℕ) × AreAnswered next lines later new × (text ≡ first ++ later)

-- how a run may end where these lines are left, of which the first has the number n. At the end of the input: none is
-- left. At a bad line: it is the first of them. For want of memory: at the first of them, whatever it says; or before line
-- 1, also where there is no line. Ends by a failed read or write are not told here
abbrev pub MayEnd : ℕ → List (List ℕ) → Ended → Type 0
MayEnd n lines (Ok done) = lines ≡ []
MayEnd n lines (Err (BadLine number)) = (number ≡ n) × (line : List ℕ) × (later : List (List ℕ)) × (lines ≡ line ∷ later) × IsBad line
MayEnd n lines (Err NoMemory) = (n ≡ 1) ⊎ (0 < length lines)
MayEnd n lines (Err IoFailed) = ⊥

-- the last line of a run that ends so, where it has one of its own
-- Example: `line 8 is bad`
abbrev pub last_line : Ended → List ℕ
last_line (Ok done) = []
last_line (Err (BadLine number)) = codes "line " ++ decimal number ++ codes " is bad\n"
last_line (Err NoMemory) = codes "Out of memory.\n"
last_line (Err IoFailed) = []

-- a transcript of an input: on a store without bins and boxes its first lines are answered, and then the run ends; what is
-- printed is the text of these answers, and the last line
-- Example: three lines, `bin a 100 100 1`, `rect one 50 90 1`, `pack`: `ok`, `ok`, `0 one a 0 0 0 50 90 1`, `packed 1`,
-- and `Ok`
pub record IsTranscript (input : List ℕ) (printed : List ℕ) (ended : Ended) : Type 0 where
  pub answered : List (List ℕ)
  pub left : List (List ℕ)
  pub lines_are : lines_of input ≡ answered ++ left
  pub text : List ℕ
  pub store : Store
  pub answers : AreAnswered (empty_store 0) answered text store
  pub ends : MayEnd (1 + length answered) left ended
  pub printed_is : printed ≡ text ++ last_line ended

-- a transcript of the input is printed behind what was there before, and nothing else; of a run that ends as `IoFailed` a
-- beginning of one, which may be any that the input has. Where what was there is not known, nothing is said of what is
-- printed
-- Example: `ok` and a line feed of `ok`, `ok`, `packed 0`, where the read of the second line failed
abbrev pub PrintsTranscript : (before after : Option (List ℕ)) → Ended → (input : List ℕ) → Type 0
PrintsTranscript before after (Err IoFailed) input =
    (end : Ended) × (printed : List ℕ) × IsTranscript input printed end × AppendsStart before after printed
PrintsTranscript before after ended input = (printed : List ℕ) × IsTranscript input printed ended × Appends before after printed
