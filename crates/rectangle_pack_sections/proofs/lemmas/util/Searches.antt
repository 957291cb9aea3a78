-- What a search found, and what no search finds.
use Rattle.rectangle_pack_sections.proofs.Std.{◌≡◌, Bool, false, List, [], ◌∷◌, Option, Some, None, IsSome, All, All-nil, All-cons, list_any, or_parts, refl}

-- a value that is there
pub some_of : {X : Type 0} (found : Option X) → IsSome found → (x : X) × (found ≡ Some x)
some_of None h = absurd cc
some_of (Some x) h = (x, refl)

-- where a test finds none, each fails it
pub none_pass : {X : Type 0} (test : X → Bool) (xs : List X) → list_any test xs ≡ false → All (λ x. test x ≡ false) xs
none_pass test [] h = All-nil _
none_pass test (x ∷ xs) h =
    let (here, later) = or_parts (test x) (list_any test xs) h in All-cons (λ y. test y ≡ false) x xs here (none_pass test xs later)
