-- Ids, each once: none is lost, and of a map they find different entries.
use Rattle.rectangle_pack_bounds.proofs.Std.{arith, ◌≡◌, ℕ, ◌+◌, ◌*◌, ◌≤◌, Bool, true, false, cond, refl, ◌∙◌, List, [], ◌∷◌}
use Rattle.rectangle_pack_bounds.proofs.Std.{sum_by, inl, inr, All, All-head, All-tail, All-cons, All-nil, All-weaker}
use Rattle.rectangle_pack_bounds.proofs.Std.{cases_Bool, both_ways, ◌||◌, get_or, list_any, list_any_at, Any-from_list_any}
use Rattle.rectangle_pack_bounds.proofs.Std.{sum_by-cons, mul-le-mul_left, Ordering, is_at, Option, Some, None, IsTotalOrder}
use Rattle.rectangle_pack_bounds.proofs.Std.{IsEquivalence, eq_by_cmp, eq_by_cmp_equiv, lookup, values_of}
use Rattle.rectangle_pack_bounds.specs.Arrangements.{different}
use Rattle.rectangle_pack_bounds.proofs.lemmas.Sums.{sum_by-lesser, sum_by-added, sum_by-nothing}

-- a number of what was found; 0 where nothing was
unfoldable pub number_at : {X : Type 0} → (X → ℕ) → Option X → ℕ
number_at f None = 0
number_at f (Some x) = f x

module _ {B : Type 0} (cmp : B → B → Ordering) where
  -- how many of the ids find this one
  pub times : B → List B → ℕ
  times id ids = sum_by (λ other. cond (is_at (cmp other) id) 1 0) ids

  times-cons : (id other : B) (ids : List B) → times id (other ∷ ids) ≡ cond (is_at (cmp other) id) 1 0 + times id ids
  unfolding times
  times-cons id other ids = sum_by-cons (λ other. cond (is_at (cmp other) id) 1 0) other ids

  times-nil : (id : B) → times id [] ≡ 0
  unfolding times
  times-nil id = refl

  times-none : (id : B) (ids : List B) → All (λ other. is_at (cmp other) id ≡ false) ids → times id ids ≡ 0
  times-none id [] h = times-nil id
  times-none id (other ∷ ids) h =
      let not_here = All-head (λ other. is_at (cmp other) id ≡ false) other ids h in
      let one = rw not_here at (times-cons id other ids) in
      omega (arith, one, times-none id ids (All-tail (λ other. is_at (cmp other) id ≡ false) other ids h))

  -- what holds of each id holds of those that are left, each once
  pub All-different : (P : B → Type 0) (ids : List B) → All P ids → All P (different cmp ids)
  All-different P [] h = All-nil P
  All-different P (id ∷ ids) h =
      let rest = All-different P ids (All-tail P id ids h) in
      elim (cases_Bool (list_any (is_at (cmp id)) ids)) [
        | inl again ↦ rw again rest
        | inr new ↦ rw new (All-cons P id (different cmp ids) (All-head P id ids h) rest)
      ]

  module _ {X : Type 0} (f : X → ℕ) where
    -- what is found first, or later
    first_or_later : (here : Bool) (x : X) (later : Option X)
        → number_at f (cond here (Some x) later) ≤ number_at f later + f x * cond here 1 0
    unfolding number_at
    first_or_later true x later = omega arith
    first_or_later false x later = omega arith

    -- ids none of which stands there twice find different entries: their numbers add up to at most those of all entries
    pub found-le-all : (entries : List (B × X)) (ids : List B) → ((id : B) → times id ids ≤ 1)
        → sum_by (λ id. number_at f (lookup (is_at (cmp id)) entries)) ids ≤ sum_by f (values_of entries)
    unfolding times number_at
    found-le-all [] ids once = omega (arith, sum_by-nothing (λ (id : B). 0) ids (λ id. refl))
    found-le-all (e ∷ entries) ids once =
        let later : B → ℕ = λ id. number_at f (lookup (is_at (cmp id)) entries) in
        let each = sum_by-lesser (λ id. number_at f (lookup (is_at (cmp id)) (e ∷ entries)))
        (λ id. later id + f e.1 * cond (is_at (cmp id) e.0) 1 0) ids
        (λ k d lt. first_or_later (is_at (cmp (get_or ids k d)) e.0) e.1 (lookup (is_at (cmp (get_or ids k d))) entries)) in
        let split = sum_by-added (λ id. later id + f e.1 * cond (is_at (cmp id) e.0) 1 0) later
        (λ id. cond (is_at (cmp id) e.0) 1 0) (f e.1) ids (λ id. refl) in
        let rest = found-le-all entries ids once in
        omega (arith, each, split, mul-le-mul_left (f e.1) (once e.0), rest, sum_by-cons f e.1 (values_of entries))

  module _ (order : IsTotalOrder cmp) where
    laws : IsEquivalence (eq_by_cmp cmp)
    laws = eq_by_cmp_equiv order

    -- ids that are equal find alike
    pub finds_alike : (a b id : B) → is_at (cmp a) b ≡ true → is_at (cmp a) id ≡ is_at (cmp b) id
    finds_alike a b id e = laws.congr a b id e

    -- and each finds the other
    pub finds_back : (a b : B) → is_at (cmp a) b ≡ true → is_at (cmp b) a ≡ true
    finds_back a b e = laws.symm b a ∙ e

    -- and two that find one id are equal
    pub finds_one : (a b id : B) → is_at (cmp a) id ≡ true → is_at (cmp b) id ≡ true → is_at (cmp a) b ≡ true
    finds_one a b id at_a at_b = finds_alike a id b at_a ∙ finds_back b id at_b

    any_alike : (a b : B) → is_at (cmp a) b ≡ true → (ids : List B)
        → list_any (is_at (cmp a)) ids ≡ list_any (is_at (cmp b)) ids
    any_alike a b e [] = refl
    any_alike a b e (id ∷ ids) = rw (finds_alike a b id e, any_alike a b e ids) refl

    pub lookup_alike : {X : Type 0} (a b : B) → is_at (cmp a) b ≡ true → (entries : List (B × X))
        → lookup (is_at (cmp a)) entries ≡ lookup (is_at (cmp b)) entries
    lookup_alike a b e [] = refl
    lookup_alike a b e (entry ∷ entries) = rw (finds_alike a b entry.0 e, lookup_alike a b e entries) refl

    -- each id finds itself among those that are left, each once
    pub different-found : (ids : List B) → All (λ id. list_any (is_at (cmp id)) (different cmp ids) ≡ true) ids
    different-found [] = All-nil (λ id. list_any (is_at (cmp id)) [] ≡ true)
    different-found (id ∷ ids) = go (different-found ids) (list_any (is_at (cmp id)) ids) refl
      where
        go : All (λ a. list_any (is_at (cmp a)) (different cmp ids) ≡ true) ids → (t : Bool)
            → list_any (is_at (cmp id)) ids ≡ t
            → All (λ a. list_any (is_at (cmp a)) (cond t (different cmp ids) (id ∷ different cmp ids)) ≡ true) (id ∷ ids)
        go rest true again =
            let here = Any-from_list_any (is_at (cmp id)) ids again in
            let other : B = here.1 in
            let left = rw here.3 at (rest here.0 here.1 here.2) in
            All-cons (λ a. list_any (is_at (cmp a)) (different cmp ids) ≡ true) id ids
            (any_alike id other here.4 (different cmp ids) ∙ left) rest
        go rest false new =
            All-cons (λ a. list_any (is_at (cmp a)) (id ∷ different cmp ids) ≡ true) id ids
            (rw (laws.refl id) refl)
            (All-weaker (λ a. list_any (is_at (cmp a)) (different cmp ids) ≡ true)
            (λ a. list_any (is_at (cmp a)) (id ∷ different cmp ids) ≡ true)
            (λ a h. later (is_at (cmp a) id) (list_any (is_at (cmp a)) (different cmp ids)) h) ids rest)
          where
            later : (s t : Bool) → t ≡ true → (s || t) ≡ true
            later true t h = refl
            later false t h = h

    -- and none of them stands there twice
    pub different-once : (ids : List B) (id : B) → times id (different cmp ids) ≤ 1
    different-once [] id = let e = times-none id [] (All-nil (λ other. is_at (cmp other) id ≡ false)) in omega (arith, e)
    different-once (first ∷ ids) id =
        let rest = different-once ids id in
        elim (cases_Bool (list_any (is_at (cmp first)) ids)) [
          | inl again ↦ rw again rest
          | inr new ↦ rw (new, times-cons) (elim (cases_Bool (is_at (cmp first) id)) [
            | inr other ↦ rw other (omega (arith, rest))
            | inl here ↦
                let none = times-none id (different cmp ids) (All-different (λ other. is_at (cmp other) id ≡ false) ids
                (λ k d lt. elim (cases_Bool (is_at (cmp (get_or ids k d)) id)) [
                  | inl there ↦
                      absurd (both_ways _ new (list_any_at (is_at (cmp first)) ids k d lt
                      (finds_one first (get_or ids k d) id here there)))
                  | inr not_there ↦ not_there
                ])) in
                rw (here, none) (omega arith)
          ])
        ]
