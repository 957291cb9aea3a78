-- Appended items, taken back.
use Rattle.rectangle_pack_sections.proofs.Std.{◌≡◌, ℕ, ◌+◌, ◌-◌, ◌<◌, ◌≤◌, List, [], ◌∷◌, ◌++◌, length, take, get_or, refl, ◌∙◌, ap, arith, length-append}
use Rattle.rectangle_pack_sections.proofs.Std.{add-one, take-suc, take-append_seam, Some, IsSome, reverse, Ordering, lookup, set_value, is_at, reverse-append}
use Rattle.rectangle_pack_sections.proofs.Std.{set_value_same}
use Rattle.rectangle_pack_groups.specs.private.Multimaps.{TakesBack}
use Rattle.rectangle_pack_sections.proofs.lemmas.util.Maps.{set_value-twice, lookup-set_here}

-- one more item is appended
pub TakesBack-appended : {K X : Type 0} (cmp : K → K → Ordering) (k : K) (ks : List K) (now start : List (K × List X)) (list : List X) (x : X)
    → lookup (is_at (cmp k)) now ≡ Some list
    → TakesBack cmp ks now start → TakesBack cmp (k ∷ ks) (set_value (is_at (cmp k)) now (list ++ x ∷ [])) start
TakesBack-appended cmp k ks now start list x found h = (
  list,
  x,
  lookup-set_here (is_at (cmp k)) now list (list ++ x ∷ []) found,
  rw (set_value-twice (is_at (cmp k)) now (list ++ x ∷ []) list, set_value_same (is_at (cmp k)) now list found) h,
)

-- the last of the first keys comes first when they are turned round
pub reverse-take_more : {K : Type 0} (keys : List K) (i : ℕ) (k : K) → i < length keys → k ≡ get_or keys i k
    → reverse (take (i + 1) keys) ≡ k ∷ reverse (take i keys)
reverse-take_more keys i k within at = rw (add-one, take-suc keys i k within, reverse-append (take i keys), ← at) refl

pub reverse-take_last : {K : Type 0} (keys : List K) (i : ℕ) (k : K) → 0 < i → i ≤ length keys → k ≡ get_or keys (i - 1) k
    → reverse (take i keys) ≡ k ∷ reverse (take (i - 1) keys)
reverse-take_last keys i k some within at =
    let e : i ≡ i - 1 + 1 = omega arith in
    ap (λ n. reverse (take n keys)) e ∙ reverse-take_more keys (i - 1) k (omega arith) at

-- without the last item
pub take-all_but_last : {X : Type 0} (list : List X) (last : X) → take (length (list ++ last ∷ []) - 1) (list ++ last ∷ []) ≡ list
take-all_but_last list last =
    let long : length (list ++ last ∷ []) - 1 ≡ length list = omega (arith, length-append list (last ∷ [])) in
    rw long (take-append_seam list (last ∷ []))

-- the last key is known
pub TakesBack-known : {K X : Type 0} (cmp : K → K → Ordering) (k : K) (ks : List K) (now start : List (K × List X))
    → TakesBack cmp (k ∷ ks) now start → IsSome (lookup (is_at (cmp k)) now)
TakesBack-known cmp k ks now start (list, last, found, rest) = rw found refl
