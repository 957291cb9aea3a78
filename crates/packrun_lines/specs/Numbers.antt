-- Numbers of a line that is printed, as bytes: 32 is a space, 10 a line feed.
use Rattle.std.specs.Prelude.{ℕ, List, [], ◌∷◌, ◌++◌}
use Rattle.std.specs.Fmt.{decimal}

-- three numbers in decimal, a space behind each but the last, and behind that the byte
-- Example: 5, 0, 12 and the byte of a comma: `5 0 12,`
abbrev pub three_text : (x y z behind : ℕ) → List ℕ
three_text x y z behind = decimal x ++ 32 ∷ decimal y ++ 32 ∷ decimal z ++ behind ∷ []
