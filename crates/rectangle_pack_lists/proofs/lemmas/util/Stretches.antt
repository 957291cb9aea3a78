-- Stretches of lists: so many elements from an index on.
use Rattle.rectangle_pack_sections.proofs.Std.{◌≡◌, ◌≤◌, ◌<◌, ◌+◌, ◌-◌, ◌*◌, ℕ, zero, suc, List, [], ◌∷◌, ◌++◌, length, take, drop, set, ap, sym, ◌∙◌, subst, arith, inl, inr, ◌⊎◌, get_or, drop-cons}
use Rattle.rectangle_pack_sections.proofs.Std.{length-drop, mul-le-mul_right, lt_of_mul-lt-mul_right, drop-append-le, take-append-le, drop-set-lt, drop-set-add}
use Rattle.rectangle_pack_sections.proofs.Std.{take-set-le, drop-take, take-take}

-- the stretch of an earlier number ends where the later one begins, or before
pub stretch-ends : (w k n : ℕ) → k < n → k * w + w ≤ n * w
stretch-ends w k n h =
    let le : (k + 1) * w ≤ n * w = mul-le-mul_right w (omega arith) in
    omega (arith, le)

-- the last stretch before an end starts one width before it, and has a summary
pub stretch-before : (w q end n : ℕ) → q * w ≡ end → 0 < end → end < n * w + w → ((q - 1) * w ≡ end - w) × (q - 1 < n)
stretch-before w zero end n e h l = absurd (omega arith)
stretch-before w (suc q) end n e h l =
    let one : suc q - 1 ≡ q = omega arith in
    let all : suc q * w ≡ q * w + w = omega arith in
    let less : q * w < n * w = omega arith in
    rw one (omega arith, lt_of_mul-lt-mul_right w less)

-- a stretch of a list that is longer
pub stretch-append : {X : Type 0} (w n : ℕ) (s t : List X) → n + w ≤ length s → take w (drop n (s ++ t)) ≡ take w (drop n s)
stretch-append w n s t h = rw (drop-append-le n s t (omega arith)) (take-append-le w (drop n s) t (omega (arith, length-drop n s)))

-- a stretch after a write before it or beyond it
pub stretch-set : {X : Type 0} (w n i : ℕ) (s : List X) (v : X) → (i < n) ⊎ (n + w ≤ i) → take w (drop n (set s i v)) ≡ take w (drop n s)
stretch-set w n i s v (inl h) = ap (take w) (drop-set-lt n s i v h)
stretch-set w n i s v (inr h) =
    let e : n + (i - n) ≡ i = omega arith in
    subst (λ q. take w (drop n (set s q v)) ≡ take w (drop n s)) e (rw (drop-set-add n s (i - n) v) (take-set-le w (drop n s) (i - n) v (omega arith)))

-- a stretch of the first elements
pub stretch-take : {X : Type 0} (w n m : ℕ) (s : List X) → n + w ≤ m → take w (drop n (take m s)) ≡ take w (drop n s)
stretch-take w n m s h =
    let e : n + (m - n) ≡ m = omega arith in
    subst (λ q. take w (drop n (take q s)) ≡ take w (drop n s)) e (rw (drop-take n (m - n) s) (take-take w (m - n) (drop n s) (omega arith)))

-- the first element from an index on, and the others
pub drop-head : {X : Type 0} (xs : List X) (i : ℕ) (x : X) (rest : List X) → drop i xs ≡ x ∷ rest
    → (i < length xs) × (x ≡ get_or xs i x) × (drop (suc i) xs ≡ rest)
drop-head xs i x rest is =
    let within : i < length xs = omega (arith, ap length is, length-drop i xs) in
    let cons : x ∷ rest ≡ get_or xs i x ∷ drop (suc i) xs = sym is ∙ drop-cons xs i x within in
    (within, ap (λ l. get_or l 0 x) cons, sym (ap (drop 1) cons))

-- where elements are left from an index on, there are some
pub drop-some : {X : Type 0} (xs : List X) (i n : ℕ) → drop i xs ≡ [] → i + suc n ≤ length xs → ⊥
drop-some xs i n is within = omega (arith, ap length is, length-drop i xs)
