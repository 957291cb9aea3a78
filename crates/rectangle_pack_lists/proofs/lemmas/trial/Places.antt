-- The places of lists of sections with gaps, and the sections of places.
use Rattle.std.proofs.Common.{replicate, le_refl}
use Rattle.std.proofs.Math.Seq.{take-nil, drop-nil}
use Rattle.rectangle_pack_sections.proofs.Std.{◌≡◌, ◌≤◌, ◌<◌, ◌+◌, ◌-◌, ◌*◌, ◌/◌, ℕ, suc, List, [], ◌∷◌, ◌++◌, length, take, drop, get_or, refl, sym, ap, arith}
use Rattle.rectangle_pack_sections.proofs.Std.{length-append, length-drop, ◌∙◌, Option, Some, None, drop-cons, take-append-drop, drop-drop, length-take-le}
use Rattle.rectangle_pack_sections.proofs.Std.{IsSome, Bool, true, false, zero, set, map, if◌then◌else◌, take_more, nil_from_length, All-nil, All-append, All-cons, append_assoc, length-take, take-append_seam}
use Rattle.rectangle_pack_sections.specs.Boxes.{Cuboid, Size, Holds}
use Rattle.rectangle_pack_lists.specs.Joining.{entry}
use Rattle.rectangle_pack_lists.specs.private.GapBits.{bits_of, flags_of}
use Rattle.rectangle_pack_lists.specs.private.Places.{places_of, sections_of, IsLastHolding, NoneHolds}
use Rattle.rectangle_pack_lists.proofs.lemmas.trial.GapBits.{length-bits_of, take-flags_of, block-flags_of}

-- there are as many places as sections, gaps too
pub length-places_of : (s : List Cuboid) (g : List Bool) → length (places_of s g) ≡ length s
length-places_of [] g = refl
length-places_of (x ∷ s) [] = ap suc (length-places_of s [])
length-places_of (x ∷ s) (true ∷ g) = ap suc (length-places_of s g)
length-places_of (x ∷ s) (false ∷ g) = ap suc (length-places_of s g)

-- and so many, where the places are given
pub counted : (s : List Cuboid) (g : List Bool) (all : List (Option Cuboid)) → places_of s g ≡ all → length s ≡ length all
counted s g all is = sym (length-places_of s g) ∙ ap length is

-- an end within the sections is within the places
pub within-places : (s : List Cuboid) (g : List Bool) (end : ℕ) → end ≤ length s → end ≤ length (places_of s g)
within-places s g end within = omega (arith, length-places_of s g)

-- the first places
pub take-places_of : (n : ℕ) (s : List Cuboid) (g : List Bool) → take n (places_of s g) ≡ places_of (take n s) (take n g)
take-places_of zero s g = refl
take-places_of (suc n) [] g = refl
take-places_of (suc n) (x ∷ s) [] = ap (λ l. Some x ∷ l) (take-places_of n s [] ∙ ap (places_of (take n s)) (take-nil n))
take-places_of (suc n) (x ∷ s) (true ∷ g) = ap (λ l. None ∷ l) (take-places_of n s g)
take-places_of (suc n) (x ∷ s) (false ∷ g) = ap (λ l. Some x ∷ l) (take-places_of n s g)

-- the places from an index on
pub drop-places_of : (n : ℕ) (s : List Cuboid) (g : List Bool) → drop n (places_of s g) ≡ places_of (drop n s) (drop n g)
drop-places_of zero s g = refl
drop-places_of (suc n) [] g = refl
drop-places_of (suc n) (x ∷ s) [] = drop-places_of n s [] ∙ ap (places_of (drop n s)) (drop-nil n)
drop-places_of (suc n) (x ∷ s) (true ∷ g) = drop-places_of n s g
drop-places_of (suc n) (x ∷ s) (false ∷ g) = drop-places_of n s g

-- a stretch of places
pub stretch-places_of : (w n : ℕ) (s : List Cuboid) (g : List Bool) → take w (drop n (places_of s g)) ≡ places_of (take w (drop n s)) (take w (drop n g))
stretch-places_of w n s g = ap (take w) (drop-places_of n s g) ∙ take-places_of w (drop n s) (drop n g)

-- flags beyond the sections say nothing
pub places_of-take : (n : ℕ) (s : List Cuboid) (g : List Bool) → length s ≤ n → places_of s (take n g) ≡ places_of s g
places_of-take n [] g short = refl
places_of-take zero (x ∷ s) g short = absurd (omega arith)
places_of-take (suc n) (x ∷ s) [] short = refl
places_of-take (suc n) (x ∷ s) (true ∷ g) short = ap (λ l. None ∷ l) (places_of-take n s g (omega arith))
places_of-take (suc n) (x ∷ s) (false ∷ g) short = ap (λ l. Some x ∷ l) (places_of-take n s g (omega arith))

places_of-append : (s : List Cuboid) (g h : List Bool) → length s ≤ length g → places_of s (g ++ h) ≡ places_of s g
places_of-append s g h short = sym (places_of-take (length g) s (g ++ h) short) ∙ ap (places_of s) (take-append_seam g h)

-- the places of a block
pub block-places_of : (w k : ℕ) (s : List Cuboid) (bytes : List ℕ) (d : ℕ) → w ≤ 8 → k < length bytes
    → take w (drop (k * 8) (places_of s (flags_of bytes))) ≡ places_of (take w (drop (k * 8) s)) (bits_of (get_or bytes k d))
block-places_of w k s bytes d short within =
    let block = bits_of (get_or bytes k d) in
    let t = take w (drop (k * 8) s) in
    let fits : length t ≤ length block = omega (arith, length-take w (drop (k * 8) s), length-bits_of (get_or bytes k d)) in
    stretch-places_of w (k * 8) s (flags_of bytes) ∙ places_of-take w t (drop (k * 8) (flags_of bytes)) (omega (arith, length-take w (drop (k * 8) s)))
    ∙ ap (places_of t) (block-flags_of k bytes d within) ∙ places_of-append t block (flags_of (drop (suc k) bytes)) fits

-- the first places, of which a byte stands for up to eight
pub cut-places_of : (n : ℕ) (s : List Cuboid) (bytes : List ℕ)
    → take n (places_of s (flags_of bytes)) ≡ places_of (take n s) (flags_of (take ((n + 7) / 8) bytes))
cut-places_of n s bytes =
    let m = (n + 7) / 8 * 8 in
    let short : length (take n s) ≤ n = omega (arith, length-take n s) in
    take-places_of n s (flags_of bytes) ∙ places_of-take n (take n s) (flags_of bytes) short
    ∙ sym (places_of-take m (take n s) (flags_of bytes) (omega arith)) ∙ ap (places_of (take n s)) (take-flags_of ((n + 7) / 8) bytes)

-- a section more
places_of-push : (s : List Cuboid) (g rest : List Bool) (x : Cuboid) → length g ≡ length s
    → places_of (s ++ x ∷ []) (g ++ false ∷ rest) ≡ places_of s g ++ Some x ∷ []
places_of-push [] [] rest x long = refl
places_of-push [] (b ∷ g) rest x long = absurd (omega arith)
places_of-push (y ∷ s) [] rest x long = absurd (omega arith)
places_of-push (y ∷ s) (true ∷ g) rest x long = ap (λ l. None ∷ l) (places_of-push s g rest x (omega arith))
places_of-push (y ∷ s) (false ∷ g) rest x long = ap (λ l. Some y ∷ l) (places_of-push s g rest x (omega arith))

pub more-places_of : (s : List Cuboid) (g now rest : List Bool) (x : Cuboid) → length s ≤ length g → now ≡ take (length s) g ++ false ∷ rest
    → places_of (s ++ x ∷ []) now ≡ places_of s g ++ Some x ∷ []
more-places_of s g now rest x long is =
    ap (places_of (s ++ x ∷ [])) is ∙ places_of-push s (take (length s) g) rest x (length-take-le (length s) g long)
    ∙ ap (λ l. l ++ Some x ∷ []) (places_of-take (length s) s g (le_refl (length s)))

-- a place that is marked, as a gap or not
pub mark-places_of : (s : List Cuboid) (g : List Bool) (i : ℕ) (b : Bool) → length s ≤ length g
    → places_of s (set g i b) ≡ set (places_of s g) i (if b then None else Some (entry s i))
mark-places_of [] g i b long = refl
mark-places_of (y ∷ s) [] i b long = absurd (omega arith)
mark-places_of (y ∷ s) (true ∷ g) zero true long = refl
mark-places_of (y ∷ s) (true ∷ g) zero false long = refl
mark-places_of (y ∷ s) (false ∷ g) zero true long = refl
mark-places_of (y ∷ s) (false ∷ g) zero false long = refl
mark-places_of (y ∷ s) (true ∷ g) (suc i) b long = ap (λ l. None ∷ l) (mark-places_of s g i b (omega arith))
mark-places_of (y ∷ s) (false ∷ g) (suc i) b long = ap (λ l. Some y ∷ l) (mark-places_of s g i b (omega arith))

-- what a place is: a gap, or its section
pub place-gap : (s : List Cuboid) (g : List Bool) (i : ℕ) (b : Bool) (d : Option Cuboid) → length s ≤ length g → i < length s
    → get_or g i b ≡ true → get_or (places_of s g) i d ≡ None
place-gap [] g i b d long within read = absurd (omega arith)
place-gap (y ∷ s) [] i b d long within read = absurd (omega arith)
place-gap (y ∷ s) (true ∷ g) zero b d long within read = refl
place-gap (y ∷ s) (false ∷ g) zero b d long within read = cc
place-gap (y ∷ s) (true ∷ g) (suc i) b d long within read = place-gap s g i b d (omega arith) (omega arith) read
place-gap (y ∷ s) (false ∷ g) (suc i) b d long within read = place-gap s g i b d (omega arith) (omega arith) read

pub place-section : (s : List Cuboid) (g : List Bool) (i : ℕ) (x : Cuboid) (b : Bool) (d : Option Cuboid) → length s ≤ length g → i < length s
    → get_or g i b ≡ false → x ≡ get_or s i x → get_or (places_of s g) i d ≡ Some x
place-section [] g i x b d long within read is = absurd (omega arith)
place-section (y ∷ s) [] i x b d long within read is = absurd (omega arith)
place-section (y ∷ s) (true ∷ g) zero x b d long within read is = cc
place-section (y ∷ s) (false ∷ g) zero x b d long within read is = ap (λ (c : Cuboid). Some c) (sym is)
place-section (y ∷ s) (true ∷ g) (suc i) x b d long within read is = place-section s g i x b d (omega arith) (omega arith) read is
place-section (y ∷ s) (false ∷ g) (suc i) x b d long within read is = place-section s g i x b d (omega arith) (omega arith) read is

-- what is read there where it is no gap
pub place-full : (s : List Cuboid) (g : List Bool) (i : ℕ) (x : Cuboid) (d : Option Cuboid) → length s ≤ length g → i < length s
    → IsSome (get_or (places_of s g) i d) → x ≡ get_or s i x → get_or (places_of s g) i d ≡ Some x
place-full [] g i x d long within full is = absurd (omega arith)
place-full (y ∷ s) [] i x d long within full is = absurd (omega arith)
place-full (y ∷ s) (true ∷ g) zero x d long within full is = cc
place-full (y ∷ s) (false ∷ g) zero x d long within full is = ap (λ (c : Cuboid). Some c) (sym is)
place-full (y ∷ s) (true ∷ g) (suc i) x d long within full is = place-full s g i x d (omega arith) (omega arith) full is
place-full (y ∷ s) (false ∷ g) (suc i) x d long within full is = place-full s g i x d (omega arith) (omega arith) full is

-- where there is no gap, each place has its section
pub places_of-full : (s : List Cuboid) (n : ℕ) → places_of s (replicate n false) ≡ map (λ x. Some x) s
places_of-full [] n = refl
places_of-full (x ∷ s) zero = ap (λ l. Some x ∷ l) (places_of-full s zero)
places_of-full (x ∷ s) (suc n) = ap (λ l. Some x ∷ l) (places_of-full s n)

-- the sections of two lists of places, one after the other
pub sections_of-append : (a b : List (Option Cuboid)) → sections_of (a ++ b) ≡ sections_of a ++ sections_of b
sections_of-append [] b = refl
sections_of-append (None ∷ a) b = sections_of-append a b
sections_of-append (Some x ∷ a) b = ap (λ l. x ∷ l) (sections_of-append a b)

-- there are no more sections than places
pub length-sections_of : (a : List (Option Cuboid)) → length (sections_of a) ≤ length a
length-sections_of [] = omega arith
length-sections_of (None ∷ a) = omega (arith, length-sections_of a)
length-sections_of (Some x ∷ a) = omega (arith, length-sections_of a)

-- where no section of two lists holds a size, none of both does
pub NoneHolds-append : (a b : List (Option Cuboid)) (size : Size) (m n : ℕ) → NoneHolds a size m → NoneHolds b size n → NoneHolds (a ++ b) size (n + m)
NoneHolds-append a b size m n p q =
    let e = sections_of-append a b in
    record {
      none = rw e (All-append (λ s. ¬ Holds s size) (sections_of a) (sections_of b) p.none q.none);
      tests_are = rw e (omega (arith, p.tests_are, q.tests_are, length-append (sections_of a) (sections_of b)));
    }

-- no more sections are tested than there are places
pub NoneHolds-most : (s : List (Option Cuboid)) (i : ℕ) (size : Size) (n : ℕ) → NoneHolds (drop i s) size n → n ≤ length s - i
NoneHolds-most s i size n p = omega (arith, p.tests_are, length-sections_of (drop i s), length-drop i s)

-- past the last place stands none
pub NoneHolds-past : (s : List (Option Cuboid)) (end : ℕ) (size : Size) → length s ≤ end → NoneHolds (drop end s) size 0
NoneHolds-past s end size past =
    let none : drop end s ≡ [] = nil_from_length _ (omega (arith, length-drop end s)) in
    rw none (record { none = All-nil _; tests_are = refl })

-- a stretch, and the places from its end on
pub NoneHolds-skip : (s : List (Option Cuboid)) (begin end : ℕ) (size : Size) (m n : ℕ)
    → begin ≤ end → NoneHolds (take (end - begin) (drop begin s)) size m → NoneHolds (drop end s) size n → NoneHolds (drop begin s) size (n + m)
NoneHolds-skip s begin end size m n h p q =
    let ends : begin + (end - begin) ≡ end = omega arith in
    let rest : drop (end - begin) (drop begin s) ≡ drop end s = rw (drop-drop (end - begin) begin s, ends) refl in
    let both = NoneHolds-append (take (end - begin) (drop begin s)) (drop (end - begin) (drop begin s)) size m n p (rw rest q) in
    rw (take-append-drop (end - begin) (drop begin s)) at both

module _ (s : List (Option Cuboid)) (end : ℕ) (some : 0 < end) (within : end ≤ length s) (size : Size) (n : ℕ) (later : NoneHolds (drop end s) size n) where
  drop-place : (x d : Option Cuboid) → x ≡ get_or s (end - 1) d → drop (end - 1) s ≡ x ∷ drop end s
  drop-place x d read =
      let next : suc (end - 1) ≡ end = omega arith in
      rw read (rw next at (drop-cons s (end - 1) d (omega arith)))

  -- one more place is empty
  pub NoneHolds-empty : (d : Option Cuboid) → None ≡ get_or s (end - 1) d → NoneHolds (drop (end - 1) s) size n
  NoneHolds-empty d read = rw (drop-place None d read) (record { none = later.none; tests_are = later.tests_are })

  -- the section in one more place does not hold the size
  pub NoneHolds-section : (x : Cuboid) (d : Option Cuboid) → Some x ≡ get_or s (end - 1) d → ¬ Holds x size → NoneHolds (drop (end - 1) s) size (n + 1)
  NoneHolds-section x d read apart = rw (drop-place (Some x) d read) (record {
    none = All-cons (λ y. ¬ Holds y size) x _ apart later.none;
    tests_are = omega (arith, later.tests_are);
  })

  -- the section in one more place holds the size
  pub IsLastHolding-at : (x : Cuboid) (d : Option Cuboid) → Some x ≡ get_or s (end - 1) d → Holds x size → IsLastHolding s size (end - 1) (n + 1)
  IsLastHolding-at x d read held = record {
    before = take (end - 1) s;
    section = x;
    after = drop end s;
    splits = sym (take-append-drop (end - 1) s) ∙ ap (λ t. take (end - 1) s ++ t) (drop-place (Some x) d read);
    place_is = sym (length-take-le (end - 1) s (omega arith));
    held = held;
    newest = later.none;
    tests_are = omega (arith, later.tests_are);
  }

-- the last of a stretch that holds the size is the last of all, where none does from the stretch's end on
pub IsLastHolding-in : (s : List (Option Cuboid)) (begin end : ℕ) (size : Size) (at m n : ℕ) → begin ≤ end → begin ≤ length s
    → IsLastHolding (take (end - begin) (drop begin s)) size at m → NoneHolds (drop end s) size n → IsLastHolding s size (begin + at) (n + m)
IsLastHolding-in s begin end size at m n h within last later =
    let ends : begin + (end - begin) ≡ end = omega arith in
    let rest : drop (end - begin) (drop begin s) ≡ drop end s = rw (drop-drop (end - begin) begin s, ends) refl in
    let all : s ≡ take begin s ++ (last.before ++ Some last.section ∷ (last.after ++ drop end s)) =
    sym (take-append-drop begin s) ∙ ap (λ t. take begin s ++ t)
    (sym (take-append-drop (end - begin) (drop begin s)) ∙ rw (rest, last.splits)
    (append_assoc last.before (Some last.section ∷ last.after) (drop end s))) in
    let behind = sections_of-append last.after (drop end s) in
    record {
      before = take begin s ++ last.before;
      section = last.section;
      after = last.after ++ drop end s;
      splits = all ∙ sym (append_assoc (take begin s) last.before (Some last.section ∷ (last.after ++ drop end s)));
      place_is = omega (arith, length-append (take begin s) last.before, length-take-le begin s within, last.place_is);
      held = last.held;
      newest = rw behind (All-append (λ x. ¬ Holds x size) (sections_of last.after) (sections_of (drop end s)) last.newest later.none);
      tests_are = rw behind (omega (arith, last.tests_are, later.tests_are, length-append (sections_of last.after) (sections_of (drop end s))));
    }

-- a stretch has no more places than lie between its ends
pub length-stretch : {X : Type 0} (s : List X) (begin end : ℕ) → length (take (end - begin) (drop begin s)) ≤ end - begin
length-stretch s begin end = omega (arith, length-take (end - begin) (drop begin s))

-- where the block begins in which the places before an end lie
pub block-within : (end n : ℕ) → end ≤ n → (end - 1) / 8 * 8 ≤ n
block-within end n within = omega arith

-- where a summed stretch ends, and no section in it holds a size
pub NoneHolds-stretch : (w end n : ℕ) (places all : List (Option Cuboid)) (size : Size) → w ≤ end → places ≡ all
    → NoneHolds (take w (drop (end - w) places)) size n → NoneHolds (take (end - (end - w)) (drop (end - w) all)) size n
NoneHolds-stretch w end n places all size within same none =
    let long : end - (end - w) ≡ w = omega arith in
    rw (long, ← same) none

-- the sections of a place more
pub sections_of-more : (s : List (Option Cuboid)) (i : ℕ) (x d : Option Cuboid)
    → i < length s → get_or s i d ≡ x → sections_of (take (i + 1) s) ≡ sections_of (take i s) ++ sections_of (x ∷ [])
sections_of-more s i x d l e = rw (take_more s i d l, e) (sections_of-append (take i s) (x ∷ []))
