-- The flags of blocks of places, one bit each.
use Rattle.std.proofs.Common.{replicate, ◌%◌}
use Rattle.std.proofs.Math.Seq.{take-nil, drop-nil}
use Rattle.std.proofs.lemmas.List.{ext_get_or, set-append_left, set-append_right, replicate-append-replicate}
use Rattle.std.specs.Int.{bit_at}
use Rattle.rectangle_pack_sections.proofs.Std.{◌≡◌, ◌≢◌, ◌≤◌, ◌<◌, ◌+◌, ◌-◌, ◌*◌, ◌/◌, ℕ, zero, suc, Bool, false, eqb, List, [], ◌∷◌, ◌++◌, length, take, drop, get_or, set, refl, sym, ap, ◌∙◌, arith}
use Rattle.rectangle_pack_sections.proofs.Std.{inl, inr, length-append, length-set, drop-cons, drop-drop, take-add, cases_eq}
use Rattle.rectangle_pack_sections.proofs.Std.{get_or_append_left, get_or-drop, get_or-set_same, get_or-set_other}
use Rattle.rectangle_pack_lists.specs.private.GapBits.{bits_of, flags_of}

-- a block has eight flags
pub length-bits_of : (b : ℕ) → length (bits_of b) ≡ 8
unfolding bits_of
length-bits_of b = refl

-- each of which says whether its bit is 1
pub get_or-bits_of : (b i : ℕ) (d : Bool) → i < 8 → get_or (bits_of b) i d ≡ eqb (bit_at b i) 1
unfolding bits_of
get_or-bits_of b zero d within = refl
get_or-bits_of b (suc zero) d within = refl
get_or-bits_of b (suc (suc zero)) d within = refl
get_or-bits_of b (suc (suc (suc zero))) d within = refl
get_or-bits_of b (suc (suc (suc (suc zero)))) d within = refl
get_or-bits_of b (suc (suc (suc (suc (suc zero))))) d within = refl
get_or-bits_of b (suc (suc (suc (suc (suc (suc zero)))))) d within = refl
get_or-bits_of b (suc (suc (suc (suc (suc (suc (suc zero))))))) d within = refl
get_or-bits_of b (suc (suc (suc (suc (suc (suc (suc (suc i)))))))) d within = absurd (omega arith)

-- no flag of a byte 0 is true
pub bits_of-zero : bits_of 0 ≡ replicate 8 false
unfolding bits_of
bits_of-zero = refl

-- where one bit is turned to what a flag says, and the others stay, that flag is written
pub set-bits_of : (old new i : ℕ) (v : Bool) → i < 8 → eqb (bit_at new i) 1 ≡ v
    → ((j : ℕ) → j < 8 → j ≢ i → bit_at new j ≡ bit_at old j) → bits_of new ≡ set (bits_of old) i v
set-bits_of old new i v within here others =
    ext_get_or false (bits_of new) (set (bits_of old) i v) (length-bits_of new ∙ sym (length-set (bits_of old) i v ∙ length-bits_of old)) (λ j below.
    let inside : j < 8 = omega (arith, length-bits_of new) in
    get_or-bits_of new j false inside ∙ (elim (cases_eq j i) [
      | inl same ↦ rw same (here ∙ sym (get_or-set_same (bits_of old) i v false (omega (arith, length-bits_of old))))
      | inr other ↦
          ap (λ n. eqb n 1) (others j inside other) ∙ sym (get_or-bits_of old j false inside)
          ∙ sym (get_or-set_other (bits_of old) i j v false other)
    ]))

-- all blocks together have eight flags each
pub length-flags_of : (bytes : List ℕ) → length (flags_of bytes) ≡ length bytes * 8
unfolding flags_of
length-flags_of [] = refl
length-flags_of (b ∷ bytes) = omega (arith, length-append (bits_of b) (flags_of bytes), length-bits_of b, length-flags_of bytes)

-- so there is a flag for each of no more places
pub fits-bits_of : {X : Type 0} (s : List X) (b : ℕ) → length s ≤ 8 → length s ≤ length (bits_of b)
fits-bits_of s b few = omega (arith, length-bits_of b)

pub fits-flags_of : {X : Type 0} (s : List X) (bytes : List ℕ) → length s ≤ length bytes * 8 → length s ≤ length (flags_of bytes)
fits-flags_of s bytes few = omega (arith, length-flags_of bytes)

pub all-flags_of : {X : Type 0} (s : List X) (bytes : List ℕ) → length bytes ≡ (length s + 7) / 8 → length s ≤ length (flags_of bytes)
all-flags_of s bytes long = fits-flags_of s bytes (omega arith)

-- those of the first block, and those of the others
flags_of-cons : (b : ℕ) (bytes : List ℕ) → flags_of (b ∷ bytes) ≡ bits_of b ++ flags_of bytes
unfolding flags_of
flags_of-cons b bytes = refl

take-first : (b : ℕ) (bytes : List ℕ) → take 8 (flags_of (b ∷ bytes)) ≡ bits_of b
unfolding flags_of bits_of
take-first b bytes = refl

drop-first : (b : ℕ) (bytes : List ℕ) → drop 8 (flags_of (b ∷ bytes)) ≡ flags_of bytes
unfolding flags_of bits_of
drop-first b bytes = refl

-- those of the first blocks
pub take-flags_of : (k : ℕ) (bytes : List ℕ) → take (k * 8) (flags_of bytes) ≡ flags_of (take k bytes)
unfolding flags_of
take-flags_of zero bytes = refl
take-flags_of (suc k) [] = take-nil (suc k * 8)
take-flags_of (suc k) (b ∷ bytes) =
    let more : suc k * 8 ≡ 8 + k * 8 = omega arith in
    ap (λ n. take n (flags_of (b ∷ bytes))) more ∙ take-add 8 (k * 8) (flags_of (b ∷ bytes))
    ∙ ap (λ l. l ++ take (k * 8) (drop 8 (flags_of (b ∷ bytes)))) (take-first b bytes)
    ∙ ap (λ l. bits_of b ++ take (k * 8) l) (drop-first b bytes) ∙ ap (λ l. bits_of b ++ l) (take-flags_of k bytes)

-- those from a block on
pub drop-flags_of : (k : ℕ) (bytes : List ℕ) → drop (k * 8) (flags_of bytes) ≡ flags_of (drop k bytes)
unfolding flags_of
drop-flags_of zero bytes = refl
drop-flags_of (suc k) [] = drop-nil (suc k * 8)
drop-flags_of (suc k) (b ∷ bytes) =
    let more : suc k * 8 ≡ 8 + k * 8 = omega arith in
    ap (λ n. drop n (flags_of (b ∷ bytes))) more ∙ sym (drop-drop (k * 8) 8 (flags_of (b ∷ bytes)))
    ∙ ap (drop (k * 8)) (drop-first b bytes) ∙ drop-flags_of k bytes

-- those of one block, and those behind it
pub block-flags_of : (k : ℕ) (bytes : List ℕ) (d : ℕ) → k < length bytes
    → drop (k * 8) (flags_of bytes) ≡ bits_of (get_or bytes k d) ++ flags_of (drop (suc k) bytes)
block-flags_of k bytes d within =
    drop-flags_of k bytes ∙ ap flags_of (drop-cons bytes k d within) ∙ flags_of-cons (get_or bytes k d) (drop (suc k) bytes)

-- the flag of a place stands in its block
pub get_or-flags_of : (bytes : List ℕ) (n d : ℕ) (v : Bool) → n < length bytes * 8
    → get_or (flags_of bytes) n v ≡ get_or (bits_of (get_or bytes (n / 8) d)) (n % 8) v
get_or-flags_of bytes n d v within =
    let parts : n ≡ n / 8 * 8 + n % 8 = omega arith in
    let block = get_or bytes (n / 8) d in
    ap (λ m. get_or (flags_of bytes) m v) parts ∙ sym (get_or-drop (n / 8 * 8) (flags_of bytes) (n % 8) v)
    ∙ ap (λ l. get_or l (n % 8) v) (block-flags_of (n / 8) bytes d (omega arith))
    ∙ get_or_append_left (bits_of block) (flags_of (drop (suc (n / 8)) bytes)) v (n % 8) (omega (arith, length-bits_of block))

-- and is written there
set-at : (bytes : List ℕ) (k i new d : ℕ) (v : Bool) → k < length bytes → i < 8 → bits_of new ≡ set (bits_of (get_or bytes k d)) i v
    → flags_of (set bytes k new) ≡ set (flags_of bytes) (k * 8 + i) v
set-at [] k i new d v within inside is = absurd (omega arith)
set-at (b ∷ bytes) zero i new d v within inside is =
    let first : 0 * 8 + i ≡ i = omega arith in
    flags_of-cons new bytes ∙ ap (λ l. l ++ flags_of bytes) is
    ∙ sym (set-append_left (bits_of b) (flags_of bytes) i v (omega (arith, length-bits_of b)))
    ∙ ap (λ l. set l i v) (sym (flags_of-cons b bytes)) ∙ ap (λ n. set (flags_of (b ∷ bytes)) n v) (sym first)
set-at (b ∷ bytes) (suc k) i new d v within inside is =
    let behind : suc k * 8 + i - 8 ≡ k * 8 + i = omega arith in
    flags_of-cons b (set bytes k new) ∙ ap (λ l. bits_of b ++ l) (set-at bytes k i new d v (omega arith) inside is)
    ∙ ap (λ n. bits_of b ++ set (flags_of bytes) n v) (sym behind)
    ∙ sym (set-append_right (bits_of b) (flags_of bytes) 8 (suc k * 8 + i) v (length-bits_of b) (omega arith))
    ∙ ap (λ l. set l (suc k * 8 + i) v) (sym (flags_of-cons b bytes))

pub set-flags_of : (bytes : List ℕ) (n new d : ℕ) (v : Bool) → n < length bytes * 8
    → bits_of new ≡ set (bits_of (get_or bytes (n / 8) d)) (n % 8) v → flags_of (set bytes (n / 8) new) ≡ set (flags_of bytes) n v
set-flags_of bytes n new d v within is =
    let parts : n / 8 * 8 + n % 8 ≡ n = omega arith in
    set-at bytes (n / 8) (n % 8) new d v (omega arith) (omega arith) is ∙ ap (λ m. set (flags_of bytes) m v) parts

-- a block more, whose byte is 0
pub flags_of-push : (bytes : List ℕ) → flags_of (bytes ++ 0 ∷ []) ≡ flags_of bytes ++ replicate 8 false
unfolding flags_of bits_of
flags_of-push [] = refl
flags_of-push (b ∷ bytes) = ap (λ l. bits_of b ++ l) (flags_of-push bytes)

-- where all bytes are 0, no flag is true
pub flags_of-none : (n : ℕ) → flags_of (replicate n 0) ≡ replicate (n * 8) false
unfolding flags_of
flags_of-none zero = refl
flags_of-none (suc n) =
    let more : suc n * 8 ≡ 8 + n * 8 = omega arith in
    ap (λ l. l ++ flags_of (replicate n 0)) bits_of-zero ∙ ap (λ l. replicate 8 false ++ l) (flags_of-none n)
    ∙ replicate-append-replicate 8 (n * 8) false ∙ ap (λ m. replicate m false) (sym more)
