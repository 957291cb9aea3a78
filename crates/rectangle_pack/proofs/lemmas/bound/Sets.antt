-- Sets of references: what is in them, one more at a time, and how many there are.
use Rattle.rectangle_pack_sections.proofs.Std.{◌≡◌, ℕ, Bool, true, false, sym, ◌<◌, ◌||◌, List, [], ◌∷◌, ◌++◌, length, get_or, refl, ◌∙◌, ap, arith, cond, map, length-map, get_or-map, Bor}
use Rattle.rectangle_pack_sections.proofs.Std.{Ordering, Less, IsTotalOrder, is_eq, is_at, eq_by_cmp, eq_by_cmp_equiv, list_any, list_any-append, or-false, IsDistinct, IsStrictlySortedBy, Less-from_sorted}
use Rattle.std.specs.List.{list_all}
use Rattle.std.proofs.lemmas.List.Folds.{list_all_at}
use Rattle.std.proofs.lemmas.Map.Keys.{IsDistinct-from_apart}
use Rattle.std.proofs.lemmas.Map.Made.{length-from_keys}
use Rattle.rectangle_pack_bounds.specs.Arrangements.{different}
use Rattle.rectangle_pack_packing.specs.private.Excluded.{are_in}
use Rattle.rectangle_pack_packing.proofs.lemmas.packing.Excluded.{excluded-more}
use Rattle.rectangle_pack.proofs.lemmas.bound.Taken.{different-unique}

-- a reference to this value
abbrev pub to : {B : Type 0} → B → Bor B
to x = record { ref_ptr = (0, 0); now = x }

module _ {B : Type 0} {cmp : B → B → Ordering} (o : IsTotalOrder cmp) where
  -- with one more, a set has the ids of before and this one
  pub in-more : (old new : List (Bor B)) (x : B) (ids : List B)
      → ((id : B) → are_in cmp new id ≡ cond (is_at (cmp x) id) true (are_in cmp old id))
      → ((id : B) → are_in cmp old id ≡ list_any (is_at (cmp id)) ids) → (id : B) → are_in cmp new id ≡ list_any (is_at (cmp id)) (ids ++ x ∷ [])
  in-more old new x ids updates was id =
      excluded-more o old new (to x) (list_any (is_at (cmp id)) ids) (is_at (cmp id) x) id (updates id) (was id) refl
      ∙ ap (λ t. list_any (is_at (cmp id)) ids || t) (sym (or-false (is_at (cmp id) x)))
      ∙ sym (list_any-append (is_at (cmp id)) ids (x ∷ []))

  in-now : (refs : List (Bor B)) (id : B) → list_any (is_at (cmp id)) (map (λ r. r.now) refs) ≡ are_in cmp refs id
  in-now [] id = refl
  in-now (r ∷ refs) id = ap (λ t. is_at (cmp id) r.now || t) (in-now refs id)

  -- references that rise are as many as the ids of a list that differ, where they refer to those
  pub as_many : (refs : List (Bor B)) (ids : List B) → IsStrictlySortedBy (λ a b. cmp a.now b.now) refs
      → ((id : B) → are_in cmp refs id ≡ list_any (is_at (cmp id)) ids) → length refs ≡ length (different cmp ids)
  as_many refs ids rise same =
      let now : Bor B → B = λ r. r.now in
      let distinct : IsDistinct (eq_by_cmp cmp) (map now refs) =
      IsDistinct-from_apart (eq_by_cmp cmp) (map now refs) (λ i j d before within.
      let long : j < length refs = rw (length-map refs now) at within in
      let less : cmp (get_or refs i (to d)).now (get_or refs j (to d)).now ≡ Less =
      Less-from_sorted (λ (a b : Bor B). cmp a.now b.now) refs i j (to d) rise before long in
      rw (get_or-map now refs i (to d) d (omega arith), get_or-map now refs j (to d) d long) (ap is_eq less)) in
      sym (length-map refs now)
      ∙ length-from_keys (eq_by_cmp_equiv o) (map now refs) ids distinct (λ id. in-now refs id ∙ same id)
      ∙ ap length (sym (different-unique cmp ids))

-- where a test fails at one of the references, it does not pass at all of them
pub fails_at : {B : Type 0} (test : B → Bool) (refs : List (Bor B)) (i : ℕ) (one : Bor B) → i < length refs → one ≡ get_or refs i one
    → test one.now ≡ false → list_all test (map (λ r. r.now) refs) ≡ false
fails_at {B} test refs i one within is fails =
    let now : Bor B → B = λ r. r.now in
    let long : i < length (map now refs) = rw (length-map refs now) within in
    list_all_at test (map now refs) i one.now long (ap test (get_or-map now refs i one one.now within ∙ ap now (sym is)) ∙ fails)
