-- An insert that is taken back.
use Rattle.rectangle_pack_sections.proofs.Std.{◌≡◌, List, [], ◌∷◌, refl, cond, Some, None, Ordering, Less, Equal, Greater, IsTotalOrder, IsStrictlySortedBy}
use Rattle.rectangle_pack_sections.proofs.Std.{is_eq, match_ordering, lookup, keys_of, remove_entry, set_value, is_at, insert_entry, lookup-none}
use Rattle.rectangle_pack_sections.proofs.Std.{none_below_head, sorted_tail}

module _ {K X : Type 0} {cmp : K → K → Ordering} (o : IsTotalOrder cmp) (x k : K) (same : cmp x k ≡ Equal) where
  -- a new key, taken out again
  pub remove-insert : (es : List (K × X)) (v : X) → lookup (is_at (cmp x)) es ≡ None → remove_entry (is_at (cmp x)) (insert_entry cmp es k v) ≡ es
  remove-insert [] v absent = rw same refl
  remove-insert (e ∷ es) v absent = at (cmp k e.0) (o.congr x k e.0 same) (rw (o.congr x k e.0 same) at absent) (remove-insert es v)
    where
      at : (r : Ordering) → cmp x e.0 ≡ r → cond (is_eq r) (Some e.1) (lookup (is_at (cmp x)) es) ≡ None
          → (lookup (is_at (cmp x)) es ≡ None → remove_entry (is_at (cmp x)) (insert_entry cmp es k v) ≡ es)
          → remove_entry (is_at (cmp x)) (match_ordering r ((k, v) ∷ e ∷ es) ((e.0, v) ∷ es) (e ∷ insert_entry cmp es k v)) ≡ e ∷ es
      at Less he h ih = rw same refl
      at Equal he h ih = absurd cc
      at Greater he h ih = rw (he, ih h) refl

  -- a key that was there, with its old value again
  pub set-insert : (es : List (K × X)) (v s : X) → IsStrictlySortedBy cmp (keys_of es) → lookup (is_at (cmp x)) es ≡ Some s
      → set_value (is_at (cmp x)) (insert_entry cmp es k v) s ≡ es
  set-insert [] v s up found = absurd cc
  set-insert (e ∷ es) v s up found = at (cmp k e.0) (o.congr x k e.0 same) (rw (o.congr x k e.0 same) at found)
      (set-insert es v s (sorted_tail cmp e.0 (keys_of es) up))
    where
      at : (r : Ordering) → cmp x e.0 ≡ r → cond (is_eq r) (Some e.1) (lookup (is_at (cmp x)) es) ≡ Some s
          → (lookup (is_at (cmp x)) es ≡ Some s → set_value (is_at (cmp x)) (insert_entry cmp es k v) s ≡ es)
          → set_value (is_at (cmp x)) (match_ordering r ((k, v) ∷ e ∷ es) ((e.0, v) ∷ es) (e ∷ insert_entry cmp es k v)) s ≡ e ∷ es
      at Less he h ih = let none : lookup (is_at (cmp x)) (e ∷ es) ≡ None = lookup-none (is_at (cmp x)) (e ∷ es) (none_below_head o x e es up he) in absurd cc
      at Equal he h ih = let is : e.1 ≡ s = cc in rw (he, ← is) refl
      at Greater he h ih = rw (he, ih h) refl
