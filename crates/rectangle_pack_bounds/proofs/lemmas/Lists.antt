-- What holds of the elements of lists that are mapped, and what passes a test.
use Rattle.rectangle_pack_bounds.proofs.Std.{◌≡◌, Bool, true, List, [], ◌∷◌, map, All, All-head, All-tail, All-cons, All-nil, Contains, list_any, list_any_at}

-- what holds of each that is mapped
pub All-unmap : {X Y : Type 0} (P : Y → Type 0) (f : X → Y) (xs : List X) → All P (map f xs) → All (λ x. P (f x)) xs
All-unmap P f [] h = All-nil (λ x. P (f x))
All-unmap P f (x ∷ xs) h =
    All-cons (λ x. P (f x)) x xs (All-head P (f x) (map f xs) h) (All-unmap P f xs (All-tail P (f x) (map f xs) h))

-- where an element of the list passes, some element does
pub any-from_Contains : {X : Type 0} (test : X → Bool) (xs : List X) (x : X) → Contains xs x → test x ≡ true → list_any test xs ≡ true
any-from_Contains test xs x h passes = list_any_at test xs h.0 x h.1 (rw h.2 passes)
