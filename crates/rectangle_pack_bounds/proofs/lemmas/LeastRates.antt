-- The least rates of boxes, added up.
use Rattle.std.proofs.Common.{◌≡◌, ℕ, zero, suc, ◌+◌, ◌*◌, ◌<◌, min, Bool, true, false, cond, List, [], ◌∷◌, ◌++◌, map, flat_map, drop, length, get_or, sum_by, refl, ap, sym, ◌∙◌, arith, inl, inr}
use Rattle.std.proofs.lemmas.Bool.{cases_lt}
use Rattle.std.proofs.lemmas.List.{drop_more, map-append, length-map, length-append}
use Rattle.std.proofs.lemmas.List.Sums.{sum_by-cons}
use Rattle.rectangle_pack_bounds.specs.Ratings.{least_of}
use Rattle.rectangle_pack_bounds.specs.private.Rates.{least_added, products}
use Rattle.rectangle_pack_bounds.specs.private.Ways.{firsts}

-- a product of which a factor is capped
pub capped_product : (a b most : ℕ) → min (min a most * b) most ≡ min (a * b) most
capped_product a zero most = omega arith
capped_product a (suc b) most =
    elim (cases_lt a most) [
      | inl lt ↦ ap (λ n. min (n * suc b) most) (omega arith)
      | inr le ↦ grind arith
    ]

-- the same where the least so far is capped
least_capped : (most least : ℕ) (fs : List Bool) (ns : List ℕ) → min (least_added (min least most) fs ns) most ≡ min (least_added least fs ns) most
least_capped most least [] ns = omega arith
least_capped most least (f ∷ fs) [] = omega arith
least_capped most least (true ∷ fs) (n ∷ ns) = omega arith
least_capped most least (false ∷ fs) (n ∷ ns) =
    let e : min (min least most) n ≡ min (min least n) most = omega arith in
    ap (λ l. min (least_added l fs ns) most) e ∙ least_capped most (min least n) fs ns

-- a sum that is capped, with what is left to add, is as that of all
abbrev pub IsSumSoFar : ℕ → List Bool → List ℕ → List ℕ → List ℕ → ℕ → ℕ → ℕ → Type 0
IsSumSoFar most fs ws hs ds at sum least =
    min (sum + least_added least (drop at fs) (products (drop at ws) (drop at hs) (drop at ds))) most ≡ min (least_added 0 fs (products ws hs ds)) most

-- one way more: it begins a box, or not
one_more : (most sum least n rate : ℕ) (f : Bool) (fs : List Bool) (ns : List ℕ) → rate ≡ min n most
    → min (cond f (min (sum + least) most) sum + least_added (cond f rate (min least rate)) fs ns) most ≡ min (sum + least_added least (f ∷ fs) (n ∷ ns)) most
one_more most sum least n rate true fs ns e =
    let capped = least_capped most n fs ns in
    ap (λ r. min (min (sum + least) most + least_added r fs ns) most) e ∙ omega (arith, capped)
one_more most sum least n rate false fs ns e =
    let capped = least_capped most (min least n) fs ns in
    let same : min least rate ≡ min (min least n) most = omega (arith, e) in
    ap (λ l. min (sum + least_added l fs ns) most) same ∙ omega (arith, capped)

-- the products of what is left of three lists
products_left : (ws hs ds : List ℕ) (at w h d : ℕ) → at < length ws → at < length hs → at < length ds
    → products (drop at ws) (drop at hs) (drop at ds)
    ≡ get_or ws at w * get_or hs at h * get_or ds at d ∷ products (drop (at + 1) ws) (drop (at + 1) hs) (drop (at + 1) ds)
products_left ws hs ds at w h d lw lh ld = rw (drop_more ws at w lw, drop_more hs at h lh, drop_more ds at d ld) refl

-- a loop's step
pub sum_more : (most : ℕ) (fs : List Bool) (ws hs ds : List ℕ) (at sum least rate sum_after least_after : ℕ)
    → IsSumSoFar most fs ws hs ds at sum least
    → at < length fs → length ws ≡ length fs → length hs ≡ length fs → length ds ≡ length fs
    → rate ≡ min (get_or ws at 0 * get_or hs at 0 * get_or ds at 0) most
    → sum_after ≡ cond (get_or fs at false) (min (sum + least) most) sum → least_after ≡ cond (get_or fs at false) rate (min least rate)
    → IsSumSoFar most fs ws hs ds (at + 1) sum_after least_after
sum_more most fs ws hs ds at sum least rate sum_after least_after before below lw lh ld e s l =
    let rates = products_left ws hs ds at 0 0 0 (omega arith) (omega arith) (omega arith) in
    let n = get_or ws at 0 * get_or hs at 0 * get_or ds at 0 in
    let more = one_more most sum least n rate (get_or fs at false) (drop (at + 1) fs) (products (drop (at + 1) ws) (drop (at + 1) hs) (drop (at + 1) ds)) e in
    let left = rw (drop_more fs at false below, rates) at before in
    rw (s, l) (more ∙ left)

-- the products of three values of each element
pub products-map : {X : Type 0} (f g h : X → ℕ) (xs : List X) → products (map f xs) (map g xs) (map h xs) ≡ map (λ x. f x * g x * h x) xs
products-map f g h [] = refl
products-map f g h (x ∷ xs) = ap (λ ns. f x * g x * h x ∷ ns) (products-map f g h xs)

least_of_three : (n m : ℕ) (ns : List ℕ) → least_of (min n m ∷ ns) ≡ min n (least_of (m ∷ ns))
least_of_three n m [] = refl
least_of_three n m (k ∷ ns) = omega arith

-- the other ways of a box
others : {X : Type 0} (f : X → ℕ) (least : ℕ) (xs : List X) (fs : List Bool) (ns : List ℕ)
    → least_added least (map (λ _. false) xs ++ fs) (map f xs ++ ns) ≡ least_added (least_of (least ∷ map f xs)) fs ns
others f least [] fs ns = refl
others f least (x ∷ xs) fs ns = others f (min least (f x)) xs fs ns ∙ ap (λ l. least_added l fs ns) (least_of_three least (f x) (map f xs))

-- all ways of a box
of_box : {X : Type 0} (f : X → ℕ) (least : ℕ) (xs : List X) (fs : List Bool) (ns : List ℕ) (sum : ℕ) → ((least : ℕ) → least_added least fs ns ≡ least + sum)
    → least_added least (firsts xs ++ fs) (map f xs ++ ns) ≡ least + (least_of (map f xs) + sum)
of_box f least [] fs ns sum e = e least ∙ omega arith
of_box f least (x ∷ xs) fs ns sum e = ap (λ n. least + n) (others f (f x) xs fs ns ∙ e (least_of (f x ∷ map f xs)))

-- of all boxes
added_from : {X Y : Type 0} (f : Y → ℕ) (ways : X → List Y) (xs : List X) (least : ℕ)
    → least_added least (flat_map (λ x. firsts (ways x)) xs) (map f (flat_map ways xs)) ≡ least + sum_by (λ x. least_of (map f (ways x))) xs
added_from f ways [] least = omega arith
added_from f ways (x ∷ xs) least =
    rw (map-append f (ways x) (flat_map ways xs))
    (of_box f least (ways x) (flat_map (λ x. firsts (ways x)) xs) (map f (flat_map ways xs)) (sum_by (λ x. least_of (map f (ways x))) xs) (added_from f ways xs)
    ∙ ap (λ n. least + n) (sym (sum_by-cons (λ x. least_of (map f (ways x))) x xs)))

pub added_all : {X Y : Type 0} (f : Y → ℕ) (ways : X → List Y) (xs : List X)
    → least_added 0 (flat_map (λ x. firsts (ways x)) xs) (map f (flat_map ways xs)) ≡ sum_by (λ x. least_of (map f (ways x))) xs
added_all f ways xs = let e = added_from f ways xs 0 in omega (arith, e)

-- the same of three rows of rates
pub rows_added : {X Y : Type 0} (f g h : Y → ℕ) (ways : X → List Y) (xs : List X) (ys : List Y) (fs : List Bool) (ws hs ds : List ℕ)
    → ys ≡ flat_map ways xs → fs ≡ flat_map (λ x. firsts (ways x)) xs → ws ≡ map f ys → hs ≡ map g ys → ds ≡ map h ys
    → least_added 0 fs (products ws hs ds) ≡ sum_by (λ x. least_of (map (λ y. f y * g y * h y) (ways x))) xs
rows_added f g h ways xs ys fs ws hs ds y e w x d =
    rw (e, w, x, d, products-map f g h ys, y) (added_all (λ y. f y * g y * h y) ways xs)

-- each way has a flag
length-firsts : {X : Type 0} (xs : List X) → length (firsts xs) ≡ length xs
length-firsts [] = refl
length-firsts (x ∷ xs) = let e = length-map xs (λ _. false) in omega (arith, e)

length-all_firsts : {X Y : Type 0} (ways : X → List Y) (xs : List X) → length (flat_map (λ x. firsts (ways x)) xs) ≡ length (flat_map ways xs)
length-all_firsts ways [] = refl
length-all_firsts ways (x ∷ xs) =
    length-append (firsts (ways x)) _ ∙ omega (arith, length-firsts (ways x), length-all_firsts ways xs) ∙ sym (length-append (ways x) (flat_map ways xs))

-- so a row has a rate for each flag
pub length-row : {X Y Z : Type 0} (f : Y → Z) (ways : X → List Y) (xs : List X) (ys : List Y) (fs : List Bool) (rates : List Z)
    → ys ≡ flat_map ways xs → fs ≡ flat_map (λ x. firsts (ways x)) xs → rates ≡ map f ys → length rates ≡ length fs
length-row f ways xs ys fs rates y e r = rw (r, y, e) (length-map (flat_map ways xs) f ∙ sym (length-all_firsts ways xs))
