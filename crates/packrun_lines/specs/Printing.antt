-- What a failed write leaves.
use Rattle.std.specs.Prelude.{◌≡◌, ℕ, List, ◌++◌, Option}
use Rattle.std.specs.Io.KnownBytes.{Appends}

-- known bytes grow by a beginning of the text: by none of it, by some of it, or by all
-- Example: `ok` behind what was there, of `ok` and a line feed
abbrev pub AppendsStart : Option (List ℕ) → Option (List ℕ) → List ℕ → Type 0
AppendsStart old new text = (front rest : List ℕ) × (text ≡ front ++ rest) × Appends old new front
