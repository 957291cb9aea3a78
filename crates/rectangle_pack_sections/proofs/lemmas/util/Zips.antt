-- Relations between lists, element by element.
use Rattle.rectangle_pack_sections.proofs.Std.{◌≡◌, ℕ, ◌++◌, List, [], ◌∷◌, refl, sym, arith, length, map, map-id, All, AllZip, AllZip-long, sum_by, Ordering}
use Rattle.rectangle_pack_sections.proofs.Std.{Equal, values_of, All-nil, All-cons, All-head, All-tail, sum_by-cons}
use Rattle.rectangle_pack_sections.specs.Alike.{AreMapsAlike}

-- a relation that follows, between what two functions make of the elements
pub AllZip-mapped : {A B C D : Type 0} (R : A → B → Type 0) (S : C → D → Type 0) (f : A → C) (g : B → D) → ((x : A) (y : B) → R x y → S (f x) (g y))
    → (xs : List A) (ys : List B) → AllZip R xs ys → AllZip S (map f xs) (map g ys)
AllZip-mapped R S f g passes [] [] h = tt
AllZip-mapped R S f g passes [] (y ∷ ys) h = absurd h
AllZip-mapped R S f g passes (x ∷ xs) [] h = absurd h
AllZip-mapped R S f g passes (x ∷ xs) (y ∷ ys) h = (passes x y h.0, AllZip-mapped R S f g passes xs ys h.1)

-- or between the elements themselves
pub AllZip-weaker : {A B : Type 0} (R S : A → B → Type 0) → ((x : A) (y : B) → R x y → S x y) → (xs : List A) (ys : List B) → AllZip R xs ys → AllZip S xs ys
AllZip-weaker R S passes xs ys h = simp map-id at (AllZip-mapped R S (λ x. x) (λ y. y) passes xs ys h)

-- a relation of each element to itself
pub AllZip-itself : {A : Type 0} (R : A → A → Type 0) → ((x : A) → R x x) → (xs : List A) → AllZip R xs xs
AllZip-itself R same [] = tt
AllZip-itself R same (x ∷ xs) = (same x, AllZip-itself R same xs)

-- what is equal of the elements of two lists
pub AllZip-equal : {A B C : Type 0} (R : A → B → Type 0) (f : A → C) (g : B → C) → ((x : A) (y : B) → R x y → g y ≡ f x) → (xs : List A) (ys : List B)
    → AllZip R xs ys → map g ys ≡ map f xs
AllZip-equal R f g same [] [] h = refl
AllZip-equal R f g same [] (y ∷ ys) h = absurd h
AllZip-equal R f g same (x ∷ xs) [] h = absurd h
AllZip-equal R f g same (x ∷ xs) (y ∷ ys) h = rw (same x y h.0, AllZip-equal R f g same xs ys h.1) refl

-- what passes between elements that are alike holds of all
pub All-alike : {X Y : Type 0} (R : X → Y → Type 0) (P : X → Type 0) (Q : Y → Type 0) → ((x : X) (y : Y) → R x y → P x → Q y) → (xs : List X) (ys : List Y)
    → AllZip R xs ys → All P xs → All Q ys
All-alike R P Q passes [] [] h all = All-nil Q
All-alike R P Q passes (x ∷ xs) (y ∷ ys) h all = All-cons Q y ys (passes x y h.0 (All-head P x xs all)) (All-alike R P Q passes xs ys h.1 (All-tail P x xs all))
All-alike R P Q passes xs ys h all = absurd h

-- a relation turned round
pub AllZip-back : {X Y : Type 0} (R : X → Y → Type 0) (S : Y → X → Type 0) → ((x : X) (y : Y) → R x y → S y x) → (xs : List X) (ys : List Y)
    → AllZip R xs ys → AllZip S ys xs
AllZip-back R S turns [] [] h = tt
AllZip-back R S turns (x ∷ xs) (y ∷ ys) h = (turns x y h.0, AllZip-back R S turns xs ys h.1)
AllZip-back R S turns xs ys h = absurd h

-- what follows of each element that is paired holds of all
pub All-from_zip : {X Y : Type 0} (R : X → Y → Type 0) (P : X → Type 0) → ((x : X) (y : Y) → R x y → P x)
    → (xs : List X) (ys : List Y) → AllZip R xs ys → All P xs
All-from_zip R P f xs ys h =
    All-alike (λ y x. R x y) (λ y. Unit {0}) P (λ y x r u. f x y r) ys xs (AllZip-back R (λ y x. R x y) (λ x y r. r) xs ys h) (λ k d lt. tt)

-- the values of maps that agree are alike
pub values_alike : {K X : Type 0} (cmp : K → K → Ordering) (Alike : X → X → Type 0) (xs ys : List (K × X)) → AreMapsAlike cmp Alike xs ys
    → AllZip Alike (values_of xs) (values_of ys)
values_alike cmp Alike xs ys h = AllZip-mapped (λ x y. (cmp x.0 y.0 ≡ Equal) × Alike x.1 y.1) Alike (λ x. x.1) (λ y. y.1) (λ x y e. e.1) xs ys h

-- what passes between elements that are alike holds beside another list
pub AllZip-along : {X Y Z : Type 0} (E : X → Y → Type 0) (R : X → Z → Type 0) (S : Y → Z → Type 0) → ((x : X) (y : Y) (z : Z) → E x y → R x z → S y z)
    → (xs : List X) (ys : List Y) (zs : List Z) → AllZip E xs ys → AllZip R xs zs → AllZip S ys zs
AllZip-along E R S passes [] [] [] e h = tt
AllZip-along E R S passes [] [] (z ∷ zs) e h = absurd h
AllZip-along E R S passes [] (y ∷ ys) zs e h = absurd e
AllZip-along E R S passes (x ∷ xs) [] zs e h = absurd e
AllZip-along E R S passes (x ∷ xs) (y ∷ ys) [] e h = absurd h
AllZip-along E R S passes (x ∷ xs) (y ∷ ys) (z ∷ zs) e h = (passes x y z e.0 h.0, AllZip-along E R S passes xs ys zs e.1 h.1)

-- what two lists have in common that match lists that are alike
pub AllZip-join : {A C X Y : Type 0} (E : A → C → Type 0) (P : A → X → Type 0) (Q : C → Y → Type 0) (S : X → Y → Type 0)
    → ((a : A) (c : C) (x : X) (y : Y) → E a c → P a x → Q c y → S x y)
    → (elems : List A) (others : List C) (xs : List X) (ys : List Y) → AllZip E elems others → AllZip P elems xs → AllZip Q others ys → AllZip S xs ys
AllZip-join {A} {C} {X} E P Q S joins elems others xs ys e h k =
    let Both : C → X → Type 0 = λ c x. (a : A) × E a c × P a x in
    AllZip-along Both Q S (λ c x y (a, t, p) q. joins a c x y t p q) others xs ys (AllZip-along E P Both (λ a c x t p. (a, t, p)) elems others xs e h) k

pub AllZip-append : {X Y : Type 0} (R : X → Y → Type 0) (xs : List X) (ys : List Y) (us : List X) (vs : List Y) → AllZip R xs ys → AllZip R us vs
    → AllZip R (xs ++ us) (ys ++ vs)
AllZip-append R [] [] us vs h k = k
AllZip-append R (x ∷ xs) (y ∷ ys) us vs h k = (h.0, AllZip-append R xs ys us vs h.1 k)
AllZip-append R xs ys us vs h k = absurd h

-- what holds of each element, beside what it has in common with another list's element
pub AllZip-beside : {X Y : Type 0} (P : X → Type 0) (R : X → Y → Type 0) (xs : List X) (ys : List Y) → All P xs → AllZip R xs ys
    → AllZip (λ x y. P x × R x y) xs ys
AllZip-beside P R [] [] all h = tt
AllZip-beside P R (x ∷ xs) (y ∷ ys) all h = ((All-head P x xs all, h.0), AllZip-beside P R xs ys (All-tail P x xs all) h.1)
AllZip-beside P R xs ys all h = absurd h

pub length-zip : {X Y : Type 0} (R : X → Y → Type 0) (xs : List X) (ys : List Y) → AllZip R xs ys → length xs ≡ length ys
length-zip R xs ys h = sym (AllZip-long R xs ys h)

-- what counts alike in elements that are alike adds up to the same
pub sums_alike : {X : Type 0} (f : X → ℕ) (R : X → X → Type 0) → ((x y : X) → R x y → f x ≡ f y) → (xs ys : List X) → AllZip R xs ys
    → sum_by f xs ≡ sum_by f ys
sums_alike f R counts [] [] h = refl
sums_alike f R counts (x ∷ xs) (y ∷ ys) h = omega (arith, counts x y h.0, sums_alike f R counts xs ys h.1, sum_by-cons f x xs, sum_by-cons f y ys)
sums_alike f R counts xs ys h = absurd h
