-- Excluded pairs under keys that are equal.
use Rattle.rectangle_pack_sections.proofs.Std.{◌≡◌, Bool, true, false, List, [], ◌∷◌, refl, ◌∙◌, ap}
use Rattle.rectangle_pack_sections.proofs.Std.{Option, unwrap_or, Ordering, Equal, is_eq, IsTotalOrder, list_any, is_at, or_self}
use Rattle.rectangle_pack_sections.specs.Exclusions.{listed_at, is_listed, are_excluded}
use Rattle.rectangle_pack_sections.proofs.lemmas.util.Maps.{lookup-equal}

-- tests that agree find the same
pub list_any-alike : {X : Type 0} (p q : X → Bool) → ((x : X) → p x ≡ q x) → (xs : List X) → list_any p xs ≡ list_any q xs
list_any-alike p q h [] = refl
list_any-alike p q h (x ∷ xs) = rw (h x, list_any-alike p q h xs) refl

-- a test that fails does not hold
pub not-both : {P : Type 0} (t : Bool) → t ≡ false → t ≡ true → P
not-both true fails holds = absurd cc
not-both false fails holds = absurd cc

module _ {K : Type 0} {cmp : K → K → Ordering} (o : IsTotalOrder cmp) where
  -- equal keys equal the same keys
  pub is_at-equal : (x y z : K) → cmp x y ≡ Equal → is_at (cmp x) z ≡ is_at (cmp y) z
  is_at-equal x y z h = ap is_eq (o.congr x y z h)

  pub listed-alike : (es : List (K × List K)) (x a y b : K) → cmp x a ≡ Equal → cmp y b ≡ Equal → is_listed cmp es x y ≡ is_listed cmp es a b
  listed-alike es x a y b h k =
      list_any-alike (is_at (cmp y)) (is_at (cmp b)) (λ z. is_at-equal y b z k) (listed_at cmp es x)
      ∙ ap (λ (f : Option (List K)). list_any (is_at (cmp b)) (unwrap_or f [])) (lookup-equal o x a h es)

  pub excluded-alike : (es : List (K × List K)) (x a y b : K) → cmp x a ≡ Equal → cmp y b ≡ Equal → are_excluded cmp es x y ≡ are_excluded cmp es a b
  excluded-alike es x a y b h k = rw (listed-alike es x a y b h k, listed-alike es y b x a k h) refl

  -- where it is mutual, one direction tells
  pub excluded-listed : (es : List (K × List K)) → ((x y : K) → is_listed cmp es x y ≡ is_listed cmp es y x) → (x y : K)
      → are_excluded cmp es x y ≡ is_listed cmp es x y
  excluded-listed es m x y = rw (← m x y) (or_self (is_listed cmp es x y))
