--- What a line asks for.
use Rattle.std.specs.Prelude.{◌≡◌, ◌≢◌, ℕ, ◌≤◌, ◌^◌, List, [], ◌∷◌, All, true, length, codes}
use Rattle.packrun_lines.specs.Words.{may_stand, words_in, Writes}
use Rattle.packrun_lines.specs.declared.command.Size.{Size}

-- what a line asks for, with the names as lists of bytes: nothing, a new bin, a box in groups, an excluded pair, a
-- packing, a release, a list of sections, a join, a sweep, sums
pub data Request : Type 0 where
  -- nothing: a line without words
  Nothing : Request
  -- a new bin
  Bin : (name : List ℕ) (size : Size) → Request
  -- a box to place, in these groups, or alone where there are none
  Rect : (id : List ℕ) (size : Size) (groups : List (List ℕ)) → Request
  -- that two groups share no bin
  Exclude : (one other : List ℕ) → Request
  -- that the boxes are placed
  Pack : Request
  -- that a placement is given back
  Release : (number : ℕ) → Request
  -- the free sections of a bin
  Sections : (name : List ℕ) → Request
  -- that a free section of a bin is joined with those of a range
  Coalesce : (name : List ℕ) (idx start end : ℕ) → Request
  -- that the free sections of a bin are joined
  Sweep : (name : List ℕ) → Request
  -- what is free and what is placed in a bin
  Stats : (name : List ℕ) → Request

-- three words write the sides of a size, each below 2^32
pub record WriteSize (width height depth : List ℕ) (size : Size) : Type 0 where
  pub width_is : Writes (2 ^ 32) width size.width
  pub height_is : Writes (2 ^ 32) height size.height
  pub depth_is : Writes (2 ^ 32) depth size.depth

-- what words say: no words nothing, and else the first word is a command, and the others are all that it takes: numbers
-- below their bounds, and for `exclude` two groups that differ
-- Example: `bin`, `a`, `7`, `02`, `1`: a new bin `a` of 7x2x1
abbrev pub Say : List (List ℕ) → Request → Type 0
Say words Nothing = words ≡ []
Say words (Bin name size) = (w h d : List ℕ) × (words ≡ codes "bin" ∷ name ∷ w ∷ h ∷ d ∷ []) × WriteSize w h d size
Say words (Rect id size groups) = (w h d : List ℕ) × (words ≡ codes "rect" ∷ id ∷ w ∷ h ∷ d ∷ groups) × WriteSize w h d size
Say words (Exclude one other) = (words ≡ codes "exclude" ∷ one ∷ other ∷ []) × (one ≢ other)
Say words Pack = words ≡ codes "pack" ∷ []
Say words (Release number) = (n : List ℕ) × (words ≡ codes "release" ∷ n ∷ []) × Writes (2 ^ 64) n number
Say words (Sections name) = words ≡ codes "sections" ∷ name ∷ []
Say words (Coalesce name idx start end) =
    (i lo hi : List ℕ) × (words ≡ codes "coalesce" ∷ name ∷ i ∷ lo ∷ hi ∷ []) × Writes (2 ^ 64) i idx × Writes (2 ^ 64) lo start × Writes (2 ^ 64) hi end
Say words (Sweep name) = words ≡ codes "sweep" ∷ name ∷ []
Say words (Stats name) = words ≡ codes "stats" ∷ name ∷ []

-- a line that has at most 4096 bytes, its line feed not counted, and each of them may stand in it
pub record IsPlain (line : List ℕ) : Type 0 where
  pub short : length line ≤ 4096
  pub bytes : All (λ b. may_stand b ≡ true) line

-- a line, without its line feed, asks for this: it is plain (`IsPlain`), and its words say so (`Say`)
pub record Asks (line : List ℕ) (request : Request) : Type 0 where
  pub plain : IsPlain line
  pub says : Say (words_in line) request

-- a line is bad: there is no request that it asks for
-- Example: `exclude A A`, `bin a 1 1`, and `pack` in upper case
abbrev pub IsBad : List ℕ → Type 0
IsBad line = (request : Request) → ¬ Asks line request
