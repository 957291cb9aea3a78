-- Lines that are read part by part.
use Rattle.std.specs.Prelude.{◌≡◌, ◌≢◌, ℕ, ◌+◌, ◌<◌, ◌≤◌, ◌^◌, ◌==◌, Bool, true, false, ◌||◌, OnSome, List, All, Option, length}
use Rattle.std.specs.Io.{StopsAt, IsEmptyOrEndsWith, appended_bytes}
use Rattle.std.specs.Io.KnownBytes.{Consumes, IsAtEnd}
use Rattle.std.specs.Io.BufRead.{ends_with_byte}

-- what was read of a reader's bytes: all up to the first line feed, itself among them, and at most 4097; fewer without
-- a line feed only where the input ends
pub record IsLineRead (old : Option (List ℕ)) (line : List ℕ) (new : Option (List ℕ)) : Type 0 where
  pub consumed : Consumes old new line
  pub stops : StopsAt line 10
  pub within : length line ≤ 4097
  pub whole : ends_with_byte 10 line ≡ false → length line ≤ 4096 → OnSome old (IsAtEnd new)

-- a part of a line with which the line has ended: it ends with a line feed, or is empty
abbrev pub has_ended : List ℕ → Bool
has_ended part = (length part == 0) || ends_with_byte 10 part

-- a further part of a line was read; the line has ended, or is too long, or no line feed was met
pub record IsPartRead (old : Option (List ℕ)) (before after : List ℕ) (new : Option (List ℕ)) (ended : Bool) : Type 0 where
  pub consumed : Consumes old new (appended_bytes before after)
  pub stops : StopsAt (appended_bytes before after) 10
  pub within : length after ≤ 4097
  pub goes_on : ended ≡ false → All (λ b. b ≢ 10) (appended_bytes before after) × (length after ≤ 4096)
  pub ends : ended ≡ true → length after ≤ 4096 → IsEmptyOrEndsWith (appended_bytes before after) 10
  pub at_end : ended ≡ true → length after ≤ 4096 → length (appended_bytes before after) ≡ 0 → OnSome old (IsAtEnd new)

-- so many more bytes were read, and all of them are fewer than 2^64
abbrev pub IsCounted : (old more new : ℕ) → Type 0
IsCounted old more new = (new ≡ old + more) × (new < 2 ^ 64)
