-- Lists: what a filter keeps, and three lists appended.
use Rattle.std.proofs.Common.{◌≡◌, ℕ, Bool, true, false, List, [], ◌∷◌, ◌++◌, map, filter, flat_map, All, Contains, refl, append_assoc, ap, sym, ◌∙◌, ◌+◌, ◌<◌, length, get_or, take}
use Rattle.std.proofs.lemmas.Bool.{both_ways}
use Rattle.std.proofs.lemmas.List.{map-append, take_more}
use Rattle.std.proofs.lemmas.List.Elements.{All-nil, All-cons, All-weaker, All-contains, All-filter, All-contains_itself, Contains-append_left, Contains-append_right, Contains-push, filter_passes}

-- a filter keeps what passes
kept_of : {X : Type 0} (p : X → Bool) (x : X) (xs : List X) (b : Bool) → p x ≡ b → All (λ y. p y ≡ true → Contains (filter p xs) y) xs
    → All (λ y. p y ≡ true → Contains (filter p (x ∷ xs)) y) (x ∷ xs)
kept_of {X} p x xs true e h =
    rw e (All-cons (λ y. p y ≡ true → Contains (x ∷ filter p xs) y) x xs (λ _. Contains-append_left (x ∷ []) (filter p xs) x (Contains-push [] x))
    (All-weaker (λ y. p y ≡ true → Contains (filter p xs) y) (λ y. p y ≡ true → Contains (x ∷ filter p xs) y)
    (λ y k q. Contains-append_right (x ∷ []) (filter p xs) y (k q)) xs h))
kept_of {X} p x xs false e h =
    rw e (All-cons (λ y. p y ≡ true → Contains (filter p xs) y) x xs (λ q. absurd (both_ways (p x) e q)) h)

all_kept : {X : Type 0} (p : X → Bool) (xs : List X) → All (λ y. p y ≡ true → Contains (filter p xs) y) xs
all_kept p [] = All-nil (λ y. p y ≡ true → Contains [] y)
all_kept p (x ∷ xs) = kept_of p x xs (p x) refl (all_kept p xs)

pub Contains-filter : {X : Type 0} (p : X → Bool) (xs : List X) (x : X) → p x ≡ true → Contains xs x → Contains (filter p xs) x
Contains-filter p xs x e h = All-contains (λ y. p y ≡ true → Contains (filter p xs) y) xs x (all_kept p xs) h e

-- and nothing else
pub Contains-from_filter : {X : Type 0} (p : X → Bool) (xs : List X) (x : X) → Contains (filter p xs) x → Contains xs x
Contains-from_filter p xs x h = All-contains (Contains xs) (filter p xs) x (All-filter p (Contains xs) xs (All-contains_itself xs)) h

pub passes-from_filter : {X : Type 0} (p : X → Bool) (xs : List X) (x : X) → Contains (filter p xs) x → p x ≡ true
passes-from_filter p xs x h = All-contains (λ y. p y ≡ true) (filter p xs) x (filter_passes p xs) h

-- three lists, appended one after another
pub appended : {X : Type 0} (old a b d first second third : List X) → first ≡ old ++ a → second ≡ first ++ b → third ≡ second ++ d → third ≡ old ++ (a ++ b ++ d)
appended old a b d first second third e f g = rw (g, f, e) (simp append_assoc)

-- a loop's step: one more, mapped
pub map_more : {X Y : Type 0} (f : X → Y) (xs : List X) (x : X) (ys : List Y) (i : ℕ) → map f xs ≡ take i ys → i < length ys → f x ≡ get_or ys i (f x)
    → map f (xs ++ x ∷ []) ≡ take (i + 1) ys
map_more f xs x ys i e lt is = map-append f xs (x ∷ []) ∙ ap (λ zs. zs ++ f x ∷ []) e ∙ ap (λ y. take i ys ++ y ∷ []) is ∙ sym (take_more ys i (f x) lt)

-- `flat_map`, and a map of it
pub map-flat_map : {X Y Z : Type 0} (g : Y → Z) (f : X → List Y) (xs : List X) → map g (flat_map f xs) ≡ flat_map (λ x. map g (f x)) xs
map-flat_map g f [] = refl
map-flat_map g f (x ∷ xs) = map-append g (f x) (flat_map f xs) ∙ ap (λ zs. map g (f x) ++ zs) (map-flat_map g f xs)
