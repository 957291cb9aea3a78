-- Which places of a list are gaps: a flag for each, in the bits of bytes. Each block of eight places has a byte.
use Rattle.std.specs.Prelude.{ℕ, ◌==◌, Bool, List, [], ◌∷◌, ◌++◌, map}
use Rattle.std.specs.Int.{bit_at}

-- the flags of a block of eight places: one for each bit of its byte, the lowest first, and true where the bit is 1
-- Example: of 6 the flags 1 and 2 are true, and the others are false
unfoldable pub bits_of : ℕ → List Bool
bits_of byte = map (λ i. bit_at byte i == 1) (0 ∷ 1 ∷ 2 ∷ 3 ∷ 4 ∷ 5 ∷ 6 ∷ 7 ∷ [])

-- the flags of all blocks, in order
-- Example: of 6 and 1 the flags 1, 2 and 8 are true, of sixteen
unfoldable pub flags_of : List ℕ → List Bool
flags_of [] = []
flags_of (byte ∷ bytes) = bits_of byte ++ flags_of bytes
