--- The lines of an input.
use Rattle.std.specs.Prelude.{ℕ, ◌==◌, List, [], ◌∷◌, if◌then◌else◌}
use Rattle.packrun_lines.specs.Words.{put_before}

-- the lines of an input, in order: each ends with a line feed, which is no part of it, or with the input
-- Example: `a`, LF, LF, `b`: `a`, an empty line, `b`
abbrev pub lines_of : List ℕ → List (List ℕ)
lines_of [] = []
lines_of (b ∷ bs) = if b == 10 then [] ∷ lines_of bs else put_before b (lines_of bs)
