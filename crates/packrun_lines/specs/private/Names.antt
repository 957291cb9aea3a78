-- How a word holds a name.
use Rattle.std.specs.Prelude.{◌≡◌, ℕ, zero, suc, ◌+◌, ◌≤◌, List, [], ◌∷◌, take, slice_index}
use Rattle.std.specs.Int.{w64, from_be_bytes}
use Rattle.std.specs.Rc.{rc_str_bytes}
use Rattle.packrun_lines.specs.declared.word.Text.{Text}
use Rattle.packrun_lines.specs.declared.word.Text.TheVariants.{Short, Long}

-- the bytes, and zeros behind them up to so many places
abbrev pub padded : ℕ → List ℕ → List ℕ
padded zero bytes = []
padded (suc places) [] = 0 ∷ padded places []
padded (suc places) (x ∷ bytes) = x ∷ padded places bytes

-- the first n of fourteen bytes are a name, and behind it are zeros
abbrev pub IsPadded : ℕ → List ℕ → Type 0
IsPadded n bytes = (n ≤ 14) × (bytes ≡ padded 14 (take n bytes))

-- the bytes of a name
abbrev pub bytes_of : {A : Type 0} → Text A → List ℕ
bytes_of (Short n bytes) = take n bytes
bytes_of (Long text) = rc_str_bytes text

-- a short name is padded
abbrev pub IsText : {A : Type 0} → Text A → Type 0
IsText (Short n bytes) = IsPadded n bytes
IsText (Long text) = Unit {0}

-- the number that eight bytes from a place on spell, the first as its highest
abbrev pub eight_from : ℕ → List ℕ → ℕ
eight_from i bytes =
    from_be_bytes w64 (slice_index bytes i ∷ slice_index bytes (i + 1) ∷ slice_index bytes (i + 2) ∷ slice_index bytes (i + 3)
    ∷ slice_index bytes (i + 4) ∷ slice_index bytes (i + 5) ∷ slice_index bytes (i + 6) ∷ slice_index bytes (i + 7) ∷ [])
