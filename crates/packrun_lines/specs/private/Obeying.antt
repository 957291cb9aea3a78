-- How lines are obeyed, one after another.
use Rattle.std.specs.Prelude.{◌≡◌, ℕ, ◌+◌, List, ◌++◌, Option, Result, Err, length}
use Rattle.std.specs.Io.KnownBytes.{Appends, Keeps}
use Rattle.rectangle_pack.specs.declared.session.command.Packed.{Packed}
use Rattle.rectangle_pack.specs.declared.session.command.SessionError.{SessionError}
use Rattle.rectangle_pack.specs.Promise.{PacksAsPromised}
use Rattle.rectangle_pack.specs.Session.{packed_reply}
use Rattle.packrun_lines.specs.Answers.{Answers, pack_text}
use Rattle.packrun_lines.specs.Ends.{Ended}
use Rattle.packrun_lines.specs.Input.{lines_of}
use Rattle.packrun_lines.specs.Printing.{AppendsStart}
use Rattle.packrun_lines.specs.Requests.{Request}
use Rattle.packrun_lines.specs.Store.{Store, PacksBoxes, group_order, volume_rules}
use Rattle.packrun_lines.specs.Transcripts.{AreAnswered, MayEnd}
use Rattle.packrun_lines.specs.private.Printing.{Prints, PrintsAnswer}
use Rattle.packrun_lines.specs.declared.stop.Stop.TheVariants.{NoMemory, IoFailed}

-- a request is answered, and its text printed, or a beginning of it where a write failed; or memory is refused, and
-- nothing is printed
abbrev pub IsObeyed : Request → Store → Option (List ℕ) → Ended → Store → Option (List ℕ) → Type 0
IsObeyed request old before (Err NoMemory) new after = Keeps before after
IsObeyed request old before ended new after = (text : List ℕ) × Answers request old text new × Prints before after ended text

-- the boxes to place are packed, as is promised of packings, and the text of the answer is printed; or memory is refused,
-- and nothing is printed
pub record IsPackObeyed (old : Store) (before : Option (List ℕ)) (ended : Ended) (new : Store) (after : Option (List ℕ)) : Type 0 where
  pub answer : Result Packed SessionError
  pub packs : PacksBoxes old answer new
  pub promised : PacksAsPromised group_order volume_rules old.boxes old.session (packed_reply answer) new.session
  pub prints : PrintsAnswer before after ended (pack_text old answer new)

-- the first lines of an input are answered on a store by this text; the others are left, of which the first has this number
pub record AreFirstAnswered (input : List ℕ) (old : Store) (text : List ℕ) (new : Store) (left : List (List ℕ)) (number : ℕ) : Type 0 where
  pub answered : List (List ℕ)
  pub lines_are : lines_of input ≡ answered ++ left
  pub answers : AreAnswered old answered text new
  pub number_is : number ≡ 1 + length answered

-- the same, and the text is printed
abbrev pub AreObeyed : (input : List ℕ) → Store → Option (List ℕ) → Store → (left : List (List ℕ)) (number : ℕ) → Option (List ℕ) → Type 0
AreObeyed input old before new left number after = (text : List ℕ) × AreFirstAnswered input old text new left number × Appends before after text

-- some first lines of an input are answered on a store, and a beginning of their text is printed
pub record AreBegun (input : List ℕ) (old : Store) (before after : Option (List ℕ)) : Type 0 where
  pub left : List (List ℕ)
  pub number : ℕ
  pub new : Store
  pub text : List ℕ
  pub first : AreFirstAnswered input old text new left number
  pub printed : AppendsStart before after text

-- the first lines of an input are obeyed, and then they stop so, in which case the run may end; or a read or a write failed
abbrev pub StopsSo : Ended → (input : List ℕ) → Store → Option (List ℕ) → Option (List ℕ) → Type 0
StopsSo (Err IoFailed) input old before after = AreBegun input old before after
StopsSo ended input old before after =
    (new : Store) × (left : List (List ℕ)) × (number : ℕ) × AreObeyed input old before new left number after × MayEnd number left ended
