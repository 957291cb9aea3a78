-- How a word holds a name: its bytes can be read again, and are ordered as the names are.
use Rattle.std.proofs.Common.{◌≡◌, ℕ, zero, suc, ◌+◌, ◌-◌, ◌*◌, ◌<◌, ◌≤◌, min, List, [], ◌∷◌, ◌++◌, length, take, drop, get_or, replicate, drop-cons}
use Rattle.std.proofs.Common.{length-drop, length-take, take_all, refl, sym, ap, ◌∙◌, arith}
use Rattle.std.specs.declared.cmp.Ordering.{Ordering}
use Rattle.std.specs.declared.cmp.Ordering.TheVariants.{Less, Equal, Greater}
use Rattle.std.specs.Ordering.{nat_cmp, ordering_then, MatchOrdering}
use Rattle.std.specs.Cmp.Lexicographic.{slice_cmp}
use Rattle.packrun_lines.specs.private.Names.{IsPadded, eight_from, padded}
use Rattle.std.specs.Cmp.{nat_cmp_is, ranks}

length-padded : (k : ℕ) (xs : List ℕ) → length (padded k xs) ≡ k
length-padded zero xs = refl
length-padded (suc k) [] = ap suc (length-padded k [])
length-padded (suc k) (x ∷ xs) = ap suc (length-padded k xs)

pub append-padded : (k : ℕ) (xs : List ℕ) → length xs ≤ k → xs ++ drop (length xs) (replicate k 0) ≡ padded k xs
append-padded zero [] h = refl
append-padded zero (x ∷ xs) h = absurd (omega arith)
append-padded (suc k) [] h = ap (λ l. 0 ∷ l) (append-padded k [] (omega arith))
append-padded (suc k) (x ∷ xs) h = ap (λ l. x ∷ l) (append-padded k xs (omega arith))

-- ---- the order of padded names

below : {x y : ℕ} → x < y → nat_cmp x y ≡ Less
below {x} {y} h = sym (nat_cmp_is x y Less h)

above : {x y : ℕ} → y < x → nat_cmp x y ≡ Greater
above {x} {y} h = sym (nat_cmp_is x y Greater h)

level : (x : ℕ) → nat_cmp x x ≡ Equal
level x = sym (nat_cmp_is x x Equal refl)

then_level : (x : ℕ) (o : Ordering) → ordering_then (nat_cmp x x) o ≡ o
then_level x o = ap (λ r. ordering_then r o) (level x)

then_assoc : (a b c : Ordering) → ordering_then (ordering_then a b) c ≡ ordering_then a (ordering_then b c)
then_assoc Less b c = refl
then_assoc Equal b c = refl
then_assoc Greater b c = refl

abbrev order_padded : ℕ → List ℕ → List ℕ → ℕ → ℕ → Ordering
order_padded k xs ys m n = ordering_then (slice_cmp nat_cmp (padded k xs) (padded k ys)) (nat_cmp m n)

shorter : (k m n : ℕ) (ys : List ℕ) → m < n → order_padded k [] ys m n ≡ Less
shorter zero m n ys h = below h
shorter (suc k) m n [] h = shorter k m n [] h
shorter (suc k) m n (zero ∷ ys) h = shorter k m n ys h
shorter (suc k) m n (suc y ∷ ys) h =
    ap (λ r. ordering_then (ordering_then r (slice_cmp nat_cmp (padded k []) (padded k ys))) (nat_cmp m n)) (below {x = 0} {y = suc y} (omega arith))

longer : (k m n : ℕ) (xs : List ℕ) → n < m → order_padded k xs [] m n ≡ Greater
longer zero m n xs h = above h
longer (suc k) m n [] h = longer k m n [] h
longer (suc k) m n (zero ∷ xs) h = longer k m n xs h
longer (suc k) m n (suc x ∷ xs) h =
    ap (λ r. ordering_then (ordering_then r (slice_cmp nat_cmp (padded k xs) (padded k []))) (nat_cmp m n)) (above {x = suc x} {y = 0} (omega arith))

same : (k m : ℕ) → order_padded k [] [] m m ≡ Equal
same zero m = level m
same (suc k) m = same k m

-- padded names and then their lengths are ordered as the names are, where the lengths are counted from c on
ordered : (k c m n : ℕ) (xs ys : List ℕ) → length xs ≤ k → length ys ≤ k → m ≡ c + length xs → n ≡ c + length ys
    → order_padded k xs ys m n ≡ slice_cmp nat_cmp xs ys
ordered k c m n [] [] a b d e = let z : n ≡ m = omega arith in ap (λ i. order_padded k [] [] m i) z ∙ same k m
ordered k c m n [] (y ∷ ys) a b d e = shorter k m n (y ∷ ys) (omega arith)
ordered k c m n (x ∷ xs) [] a b d e = longer k m n (x ∷ xs) (omega arith)
ordered zero c m n (x ∷ xs) (y ∷ ys) a b d e = absurd (omega arith)
ordered (suc k) c m n (x ∷ xs) (y ∷ ys) a b d e =
    then_assoc (nat_cmp x y) (slice_cmp nat_cmp (padded k xs) (padded k ys)) (nat_cmp m n)
    ∙ ap (ordering_then (nat_cmp x y)) (ordered k (c + 1) m n xs ys (omega arith) (omega arith) (omega arith) (omega arith))

length-held : (n : ℕ) (bytes : List ℕ) → IsPadded n bytes → length (take n bytes) ≡ n
length-held n bytes h =
    let long = ap length (h.1) ∙ length-padded 14 (take n bytes) in
    omega (arith, length-take n bytes, h.0, long)

-- what words hold of short names is ordered as the names are
pub slice_cmp-held : (n m : ℕ) (bytes others : List ℕ) → IsPadded n bytes → IsPadded m others
    → ordering_then (slice_cmp nat_cmp bytes others) (nat_cmp n m) ≡ slice_cmp nat_cmp (take n bytes) (take m others)
slice_cmp-held n m bytes others h g =
    let a = length-held n bytes h in
    let b = length-held m others g in
    (λ i. ordering_then (slice_cmp nat_cmp (h.1 i) (g.1 i)) (nat_cmp n m))
    ∙ ordered 14 0 n m (take n bytes) (take m others) (omega (arith, a, h.0)) (omega (arith, b, g.0)) (omega (arith, a)) (omega (arith, b))

-- ---- eight bytes at a time

then_tied : (a : Ordering) → ordering_then a Equal ≡ a
then_tied Less = refl
then_tied Equal = refl
then_tied Greater = refl

then_again : (a b c : Ordering) → ordering_then (ordering_then a b) (ordering_then a c) ≡ ordering_then a (ordering_then b c)
then_again Less b c = refl
then_again Equal b c = refl
then_again Greater b c = refl

decided : (x y : ℕ) (o : Ordering) → (x ≡ y → ⊥) → ordering_then (nat_cmp x y) o ≡ nat_cmp x y
decided x y o h = by (nat_cmp x y) (ranks x y)
  where
    by : (r : Ordering) → MatchOrdering r (x < y) (x ≡ y) (y < x) → ordering_then r o ≡ r
    by Less l = refl
    by Equal l = absurd (h l)
    by Greater l = refl

-- the number that the bytes spell behind n, the first as its highest
abbrev spelt : ℕ → List ℕ → ℕ
spelt n [] = n
spelt n (x ∷ xs) = spelt (n * 256 + x) xs

-- one byte more decides where the numbers before it are equal
nat_cmp-byte : (a b x y : ℕ) → x < 256 → y < 256 → nat_cmp (a * 256 + x) (b * 256 + y) ≡ ordering_then (nat_cmp a b) (nat_cmp x y)
nat_cmp-byte a b x y small less = sym (by (nat_cmp a b) refl (ranks a b))
  where
    by : (r : Ordering) → nat_cmp a b ≡ r → MatchOrdering r (a < b) (a ≡ b) (b < a) → ordering_then r (nat_cmp x y) ≡ nat_cmp (a * 256 + x) (b * 256 + y)
    by Less e h = let l : a < b = h in sym (below {x = a * 256 + x} {y = b * 256 + y} (omega arith))
    by Greater e h = let l : b < a = h in sym (above {x = a * 256 + x} {y = b * 256 + y} (omega arith))
    by Equal e h =
        let t : a ≡ b = h in
        nat_cmp_is (a * 256 + x) (b * 256 + y) (nat_cmp x y) (last t (nat_cmp x y) (ranks x y))
      where
        last : a ≡ b → (r : Ordering) → MatchOrdering r (x < y) (x ≡ y) (y < x)
            → MatchOrdering r (a * 256 + x < b * 256 + y) (a * 256 + x ≡ b * 256 + y) (b * 256 + y < a * 256 + x)
        last t Less h = let l : x < y = h in let g : a * 256 + x < b * 256 + y = omega arith in g
        last t Equal h = let l : x ≡ y = h in let g : a * 256 + x ≡ b * 256 + y = omega arith in g
        last t Greater h = let l : y < x = h in let g : b * 256 + y < a * 256 + x = omega arith in g

nat_cmp-spelt : (a b : ℕ) (xs ys : List ℕ) → ((k : ℕ) → get_or xs k 0 < 256) → ((k : ℕ) → get_or ys k 0 < 256) → length xs ≡ length ys
    → nat_cmp (spelt a xs) (spelt b ys) ≡ ordering_then (nat_cmp a b) (slice_cmp nat_cmp xs ys)
nat_cmp-spelt a b [] [] f g e = sym (then_tied (nat_cmp a b))
nat_cmp-spelt a b [] (y ∷ ys) f g e = absurd (omega arith)
nat_cmp-spelt a b (x ∷ xs) [] f g e = absurd (omega arith)
nat_cmp-spelt a b (x ∷ xs) (y ∷ ys) f g e =
    nat_cmp-spelt (a * 256 + x) (b * 256 + y) xs ys (λ k. f (suc k)) (λ k. g (suc k)) (omega arith)
    ∙ ap (λ r. ordering_then r (slice_cmp nat_cmp xs ys)) (nat_cmp-byte a b x y (f 0) (g 0))
    ∙ then_assoc (nat_cmp a b) (nat_cmp x y) (slice_cmp nat_cmp xs ys)

-- the front decides nothing that the whole does not
front_first : (n : ℕ) (xs ys : List ℕ) → n ≤ length xs → n ≤ length ys
    → ordering_then (slice_cmp nat_cmp (take n xs) (take n ys)) (slice_cmp nat_cmp xs ys) ≡ slice_cmp nat_cmp xs ys
front_first zero xs ys p q = refl
front_first (suc n) [] ys p q = absurd (omega arith)
front_first (suc n) (x ∷ xs) [] p q = absurd (omega arith)
front_first (suc n) (x ∷ xs) (y ∷ ys) p q =
    then_again (nat_cmp x y) (slice_cmp nat_cmp (take n xs) (take n ys)) (slice_cmp nat_cmp xs ys)
    ∙ ap (ordering_then (nat_cmp x y)) (front_first n xs ys (omega arith) (omega arith))

-- bytes may be read twice
slice_cmp-overlap : (i n : ℕ) (xs ys : List ℕ) → i ≤ n → n ≤ length xs → n ≤ length ys
    → ordering_then (slice_cmp nat_cmp (take n xs) (take n ys)) (slice_cmp nat_cmp (drop i xs) (drop i ys)) ≡ slice_cmp nat_cmp xs ys
slice_cmp-overlap zero n xs ys h p q = front_first n xs ys p q
slice_cmp-overlap (suc i) zero xs ys h p q = absurd (omega arith)
slice_cmp-overlap (suc i) (suc n) [] ys h p q = absurd (omega arith)
slice_cmp-overlap (suc i) (suc n) (x ∷ xs) [] h p q = absurd (omega arith)
slice_cmp-overlap (suc i) (suc n) (x ∷ xs) (y ∷ ys) h p q =
    then_assoc (nat_cmp x y) (slice_cmp nat_cmp (take n xs) (take n ys)) (slice_cmp nat_cmp (drop i xs) (drop i ys))
    ∙ ap (ordering_then (nat_cmp x y)) (slice_cmp-overlap i n xs ys (omega arith) (omega arith) (omega arith))

-- n elements from place i on
abbrev reads : List ℕ → ℕ → ℕ → List ℕ
reads xs i zero = []
reads xs i (suc n) = get_or xs i 0 ∷ reads xs (suc i) n

take-drop-reads : (n i : ℕ) (xs : List ℕ) → i + n ≤ length xs → take n (drop i xs) ≡ reads xs i n
take-drop-reads zero i xs h = refl
take-drop-reads (suc n) i xs h =
    ap (take (suc n)) (drop-cons xs i 0 (omega arith)) ∙ ap (λ l. get_or xs i 0 ∷ l) (take-drop-reads n (suc i) xs (omega arith))

first_eight : (xs : List ℕ) → 8 ≤ length xs → eight_from 0 xs ≡ spelt 0 (take 8 xs)
first_eight xs h =
    let e : eight_from 0 xs ≡ spelt 0 (reads xs 0 8) = omega arith in
    e ∙ ap (spelt 0) (sym (take-drop-reads 8 0 xs (omega arith)))

last_eight : (xs : List ℕ) → length xs ≡ 14 → eight_from 6 xs ≡ spelt 0 (drop 6 xs)
last_eight xs h =
    let e : eight_from 6 xs ≡ spelt 0 (reads xs 6 8) = omega arith in
    e ∙ ap (spelt 0) (sym (take-drop-reads 8 6 xs (omega arith)) ∙ take_all 8 (drop 6 xs) (omega (arith, length-drop 6 xs)))

abbrev AreBytes : List ℕ → Type 0
AreBytes xs = (k : ℕ) → get_or xs k 0 < 256

bytes-take : (n : ℕ) (xs : List ℕ) → AreBytes xs → AreBytes (take n xs)
bytes-take zero xs b k = omega arith
bytes-take (suc n) [] b k = b k
bytes-take (suc n) (x ∷ xs) b zero = b zero
bytes-take (suc n) (x ∷ xs) b (suc k) = bytes-take n xs (λ j. b (suc j)) k

bytes-drop : (n : ℕ) (xs : List ℕ) → AreBytes xs → AreBytes (drop n xs)
bytes-drop zero xs b = b
bytes-drop (suc n) [] b = b
bytes-drop (suc n) (x ∷ xs) b = bytes-drop n xs (λ j. b (suc j))

-- fourteen bytes are ordered by the numbers that the first and the last eight spell
module _ (xs ys : List ℕ) (b : (k : ℕ) → get_or xs k 0 < 256) (d : (k : ℕ) → get_or ys k 0 < 256) (e : length xs ≡ 14) (f : length ys ≡ 14) where
  front : nat_cmp (eight_from 0 xs) (eight_from 0 ys) ≡ slice_cmp nat_cmp (take 8 xs) (take 8 ys)
  front =
      (λ i. nat_cmp (first_eight xs (omega arith) i) (first_eight ys (omega arith) i))
      ∙ nat_cmp-spelt 0 0 (take 8 xs) (take 8 ys) (bytes-take 8 xs b) (bytes-take 8 ys d)
      (length-take 8 xs ∙ (λ i. min 8 ((e ∙ sym f) i)) ∙ sym (length-take 8 ys))

  back : nat_cmp (eight_from 6 xs) (eight_from 6 ys) ≡ slice_cmp nat_cmp (drop 6 xs) (drop 6 ys)
  back =
      (λ i. nat_cmp (last_eight xs e i) (last_eight ys f i))
      ∙ nat_cmp-spelt 0 0 (drop 6 xs) (drop 6 ys) (bytes-drop 6 xs b) (bytes-drop 6 ys d) (length-drop 6 xs ∙ (λ i. (e ∙ sym f) i - 6) ∙ sym (length-drop 6 ys))

  both : ordering_then (nat_cmp (eight_from 0 xs) (eight_from 0 ys)) (nat_cmp (eight_from 6 xs) (eight_from 6 ys)) ≡ slice_cmp nat_cmp xs ys
  both = (λ i. ordering_then (front i) (back i)) ∙ slice_cmp-overlap 6 8 xs ys (omega arith) (omega arith) (omega arith)

  pub by_first : (eight_from 0 xs ≡ eight_from 0 ys → ⊥) → (o : Ordering)
      → nat_cmp (eight_from 0 xs) (eight_from 0 ys) ≡ ordering_then (slice_cmp nat_cmp xs ys) o
  by_first h o =
      let alone = decided (eight_from 0 xs) (eight_from 0 ys) (nat_cmp (eight_from 6 xs) (eight_from 6 ys)) h in
      sym (decided (eight_from 0 xs) (eight_from 0 ys) o h) ∙ ap (λ r. ordering_then r o) (sym alone ∙ both)

  pub by_last : eight_from 0 xs ≡ eight_from 0 ys → nat_cmp (eight_from 6 xs) (eight_from 6 ys) ≡ slice_cmp nat_cmp xs ys
  by_last h = sym ((λ i. ordering_then (nat_cmp (h i) (eight_from 0 ys)) (nat_cmp (eight_from 6 xs) (eight_from 6 ys)))
      ∙ then_level (eight_from 0 ys) (nat_cmp (eight_from 6 xs) (eight_from 6 ys))) ∙ both
