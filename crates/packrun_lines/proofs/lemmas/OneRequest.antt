-- A line asks for one request.
use Rattle.std.proofs.Common.{◌≡◌, ℕ, List, [], ◌∷◌, refl, sym, ◌∙◌, codes, if◌then◌else◌}
use Rattle.std.specs.Str.{bytes_eq}
use Rattle.std.specs.Str.Parse.{digits_value}
use Rattle.packrun_lines.specs.declared.command.Size.{Size}
use Rattle.packrun_lines.specs.Words.{words_in}
use Rattle.packrun_lines.specs.Requests.{Request, Asks, Say, WriteSize}
use Rattle.packrun_lines.specs.Requests.Request.{Nothing, Bin, Rect, Exclude, Pack, Release, Sections, Coalesce, Sweep, Stats}

-- the size that three words write
size_by : List ℕ → List ℕ → List ℕ → Size
size_by w h d = record { width = digits_value 10 w; height = digits_value 10 h; depth = digits_value 10 d }

size_by-written : (w h d : List ℕ) (size : Size) → WriteSize w h d size → size ≡ size_by w h d
unfolding size_by
size_by-written w h d size writes = λ i. record { width = writes.width_is.1 i; height = writes.height_is.1 i; depth = writes.depth_is.1 i }

-- the request of which the words behind a word are, by that word
abbrev bin_by : List (List ℕ) → Request
bin_by (name ∷ w ∷ h ∷ d ∷ words) = Bin name (size_by w h d)
bin_by words = Nothing

abbrev rect_by : List (List ℕ) → Request
rect_by (name ∷ w ∷ h ∷ d ∷ words) = Rect name (size_by w h d) words
rect_by words = Nothing

abbrev exclude_by : List (List ℕ) → Request
exclude_by (one ∷ other ∷ words) = Exclude one other
exclude_by words = Nothing

abbrev release_by : List (List ℕ) → Request
release_by (n ∷ words) = Release (digits_value 10 n)
release_by words = Nothing

abbrev coalesce_by : List (List ℕ) → Request
coalesce_by (name ∷ i ∷ lo ∷ hi ∷ words) = Coalesce name (digits_value 10 i) (digits_value 10 lo) (digits_value 10 hi)
coalesce_by words = Nothing

abbrev named_by : (List ℕ → Request) → List (List ℕ) → Request
named_by of (name ∷ words) = of name
named_by of words = Nothing

-- the request that words are, if they are one
abbrev read_by : List (List ℕ) → Request
read_by [] = Nothing
read_by (verb ∷ words) =
    if bytes_eq verb (codes "bin") then bin_by words else
    (if bytes_eq verb (codes "rect") then rect_by words else
    (if bytes_eq verb (codes "exclude") then exclude_by words else
    (if bytes_eq verb (codes "pack") then Pack else
    (if bytes_eq verb (codes "release") then release_by words else
    (if bytes_eq verb (codes "sections") then named_by Sections words else
    (if bytes_eq verb (codes "coalesce") then coalesce_by words else
    (if bytes_eq verb (codes "sweep") then named_by Sweep words else named_by Stats words)))))))

read_by-said : (words : List (List ℕ)) (request : Request) → Say words request → request ≡ read_by words
read_by-said words Nothing are = rw are refl
read_by-said words (Bin name size) (w, h, d, are, writes) = rw (are, size_by-written w h d size writes) refl
read_by-said words (Rect id size groups) (w, h, d, are, writes) = rw (are, size_by-written w h d size writes) refl
read_by-said words (Exclude one other) (are, differ) = rw are refl
read_by-said words Pack are = rw are refl
read_by-said words (Release number) (n, are, writes) = rw (are, writes.1) refl
read_by-said words (Sections name) are = rw are refl
read_by-said words (Coalesce name idx start end) (i, lo, hi, are, is_idx, is_start, is_end) = rw (are, is_idx.1, is_start.1, is_end.1) refl
read_by-said words (Sweep name) are = rw are refl
read_by-said words (Stats name) are = rw are refl

pub Asks-one : (line : List ℕ) (request other : Request) → Asks line request → Asks line other → request ≡ other
Asks-one line request other a b = read_by-said (words_in line) request a.says ∙ sym (read_by-said (words_in line) other b.says)
