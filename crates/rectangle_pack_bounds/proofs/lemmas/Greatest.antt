-- The greatest value so far.
use Rattle.std.proofs.Common.{◌≡◌, ℕ, ◌+◌, ◌<◌, max, List, [], ◌∷◌, ◌++◌, length, take, get_or, map, refl, ap, sym, ◌∙◌, arith}
use Rattle.std.proofs.lemmas.List.{take_more}
use Rattle.rectangle_pack_sections.specs.Boxes.{Size}
use Rattle.rectangle_pack_bounds.specs.Bounds.{enclosing}
use Rattle.rectangle_pack_bounds.specs.Ratings.{greatest_by}

-- with one more value at the end
pub greatest_by-push : {X : Type 0} (f : X → ℕ) (xs : List X) (x : X)
    → greatest_by f (xs ++ x ∷ []) ≡ max (greatest_by f xs) (f x)
greatest_by-push f [] x = omega arith
greatest_by-push f (y ∷ ys) x = let e = greatest_by-push f ys x in omega (arith, e)

-- with the value at i
pub greatest_by_more : {X : Type 0} (f : X → ℕ) (xs : List X) (i : ℕ) (d : X) → i < length xs
    → greatest_by f (take (i + 1) xs) ≡ max (greatest_by f (take i xs)) (f (get_or xs i d))
greatest_by_more f xs i d below = rw (take_more xs i d below) (greatest_by-push f (take i xs) (get_or xs i d))

-- the same of a number of each size, where the greatest so far is that of `all`
greatest_extent : (extent : Size → ℕ) (sizes : List Size) (i : ℕ) (size : Size) (so_far after : ℕ) → i < length sizes
    → size ≡ get_or sizes i size → so_far ≡ greatest_by extent (take i sizes) → after ≡ max so_far (extent size)
    → after ≡ greatest_by extent (take (i + 1) sizes)
greatest_extent extent sizes i size so_far after below item b a =
    let more = greatest_by_more extent sizes i size below in
    let here = ap extent item in
    omega (arith, more, here)

-- so the least size that encloses the first sizes grows with the next one
pub enclosing_more : (sizes : List Size) (i : ℕ) (size all : Size) (width height depth : ℕ) → i < length sizes
    → size ≡ get_or sizes i size → all ≡ enclosing (take i sizes)
    → width ≡ max all.width size.width → height ≡ max all.height size.height → depth ≡ max all.depth size.depth
    → record { width = width; height = height; depth = depth } ≡ enclosing (take (i + 1) sizes)
enclosing_more sizes i size all width height depth below item so_far w h d =
    let wide = greatest_extent (λ s. s.width) sizes i size all.width width below item (ap (λ (s : Size). s.width) so_far) w in
    let high = greatest_extent (λ s. s.height) sizes i size all.height height below item (ap (λ (s : Size). s.height) so_far) h in
    let deep = greatest_extent (λ s. s.depth) sizes i size all.depth depth below item (ap (λ (s : Size). s.depth) so_far) d in
    cc

-- a loop's step
pub greatest_more : {X : Type 0} (f : X → ℕ) (xs : List X) (i : ℕ) (x : X) (greatest value more : ℕ)
    → greatest ≡ greatest_by f (take i xs) → i < length xs → x ≡ get_or xs i x
    → value ≡ f x → more ≡ max greatest value → more ≡ greatest_by f (take (i + 1) xs)
greatest_more f xs i x greatest value more before lt is e m =
    let pushed = take_more xs i x lt ∙ ap (λ y. take i xs ++ y ∷ []) (sym is) in
    rw (m, before, e, pushed) (sym (greatest_by-push f (take i xs) x))

-- the greatest of what a map makes
pub greatest_by-map : {X Y : Type 0} (f : Y → ℕ) (g : X → Y) (xs : List X) → greatest_by f (map g xs) ≡ greatest_by (λ x. f (g x)) xs
greatest_by-map f g [] = refl
greatest_by-map f g (x ∷ xs) = ap (max (f (g x))) (greatest_by-map f g xs)

greatest_by-same : {X : Type 0} (f h : X → ℕ) (xs : List X) → ((x : X) → f x ≡ h x) → greatest_by f xs ≡ greatest_by h xs
greatest_by-same f h [] e = refl
greatest_by-same f h (x ∷ xs) e = ap (λ n. max n (greatest_by f xs)) (e x) ∙ ap (max (h x)) (greatest_by-same f h xs e)

-- and over three lists
pub greatest_by-maps : {X Y : Type 0} (f : Y → Y → Y → ℕ) (g : X → Y) (ws hs ds : List X)
    → greatest_by (λ w. greatest_by (λ h. greatest_by (λ d. f w h d) (map g ds)) (map g hs)) (map g ws)
    ≡ greatest_by (λ w. greatest_by (λ h. greatest_by (λ d. f (g w) (g h) (g d)) ds) hs) ws
greatest_by-maps f g ws hs ds =
    greatest_by-map (λ w. greatest_by (λ h. greatest_by (λ d. f w h d) (map g ds)) (map g hs)) g ws
    ∙ greatest_by-same _ _ ws (λ w. greatest_by-map (λ h. greatest_by (λ d. f (g w) h d) (map g ds)) g hs
    ∙ greatest_by-same _ _ hs (λ h. greatest_by-map (λ d. f (g w) (g h) d) g ds))
