-- What the words of a line are, one after another.
use Rattle.std.specs.Prelude.{◌≡◌, ◌≢◌, ℕ, ◌^◌, List, [], ◌∷◌, codes}
use Rattle.packrun_lines.specs.Words.{Writes}
use Rattle.packrun_lines.specs.Requests.{Request, WriteSize}
use Rattle.packrun_lines.specs.Requests.Request.{Nothing, Bin, Rect, Exclude, Pack, Release, Sections, Coalesce, Sweep, Stats}

-- the first word of a line with this request, where it has one
abbrev pub verb_of : Request → List ℕ
verb_of Nothing = []
verb_of (Bin name size) = codes "bin"
verb_of (Rect id size groups) = codes "rect"
verb_of (Exclude one other) = codes "exclude"
verb_of Pack = codes "pack"
verb_of (Release number) = codes "release"
verb_of (Sections name) = codes "sections"
verb_of (Coalesce name idx start end) = codes "coalesce"
verb_of (Sweep name) = codes "sweep"
verb_of (Stats name) = codes "stats"

-- the words behind the first are those of this request, and then `rest`
abbrev pub Take : List (List ℕ) → Request → (rest : List (List ℕ)) → Type 0
Take words Nothing rest = ⊥
Take words (Bin name size) rest = (w h d : List ℕ) × (words ≡ name ∷ w ∷ h ∷ d ∷ rest) × WriteSize w h d size
Take words (Rect id size groups) rest = (w h d : List ℕ) × (words ≡ id ∷ w ∷ h ∷ d ∷ groups) × WriteSize w h d size × (rest ≡ [])
Take words (Exclude one other) rest = (words ≡ one ∷ other ∷ rest) × (one ≢ other)
Take words Pack rest = words ≡ rest
Take words (Release number) rest = (n : List ℕ) × (words ≡ n ∷ rest) × Writes (2 ^ 64) n number
Take words (Sections name) rest = words ≡ name ∷ rest
Take words (Coalesce name idx start end) rest =
    (i lo hi : List ℕ) × (words ≡ name ∷ i ∷ lo ∷ hi ∷ rest) × Writes (2 ^ 64) i idx × Writes (2 ^ 64) lo start × Writes (2 ^ 64) hi end
Take words (Sweep name) rest = words ≡ name ∷ rest
Take words (Stats name) rest = words ≡ name ∷ rest

-- where it excludes two groups, their names differ
abbrev pub NamesTwo : Request → Type 0
NamesTwo (Exclude one other) = one ≢ other
NamesTwo request = Unit {0}

-- the first word is that of this request, and the others are all its own
abbrev pub AreOf : List ℕ → List (List ℕ) → Request → Type 0
AreOf verb words request = (verb ≡ verb_of request) × Take words request []
