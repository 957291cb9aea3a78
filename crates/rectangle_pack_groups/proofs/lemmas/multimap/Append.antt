-- How often keys occur, and lists to which items are appended.
use Rattle.rectangle_pack_sections.proofs.Std.{◌≡◌, ℕ, ◌+◌, ◌<◌, ◌≤◌, List, [], ◌∷◌, ◌++◌, length, take, get_or, refl, ap, sym, ◌∙◌, arith, cond, true, false}
use Rattle.rectangle_pack_sections.proofs.Std.{Bool, append_assoc, length-append, Option, Some, None, Contains, IsSome, IsSomeAnd, is_some}
use Rattle.rectangle_pack_sections.proofs.Std.{map, option_map, sum_by, Ordering, Vec, IsTotalOrder, is_eq, eq_by_cmp_equiv, append-nil}
use Rattle.rectangle_pack_sections.proofs.Std.{count_by_more_yes, count_by_more_no, sum_by-take-le, sum_by-cons, All-append, All-cons, All-nil}
use Rattle.rectangle_pack_sections.proofs.Std.{nil_from_length, lookup, is_at, Equal-is}
use Rattle.rectangle_pack_groups.specs.private.Multimaps.{times, items_of, AreAppended, IsAdded}
use Rattle.rectangle_pack_sections.proofs.lemmas.util.Maps.{lookup-equal}
use Rattle.rectangle_pack_sections.proofs.lemmas.util.Maps.{none_of}

module _ {K : Type 0} {cmp : K → K → Ordering} (o : IsTotalOrder cmp) (keys : List K) (i : ℕ) (k q : K) (inside : i < length keys)
    (at : k ≡ get_or keys i k) where
  -- the next key counts where it is equal
  pub times-more_same : is_eq (cmp k q) ≡ true → times cmp (take (i + 1) keys) q ≡ times cmp (take i keys) q + 1
  times-more_same same = count_by_more_yes (λ x. is_eq (cmp q x)) keys i k inside (ap (λ x. is_eq (cmp q x)) (sym at) ∙ (eq_by_cmp_equiv o).symm q k ∙ same)

  -- and does not where it is not
  pub times-more_other : is_eq (cmp k q) ≡ false → times cmp (take (i + 1) keys) q ≡ times cmp (take i keys) q
  times-more_other other = count_by_more_no (λ x. is_eq (cmp q x)) keys i k inside (ap (λ x. is_eq (cmp q x)) (sym at) ∙ (eq_by_cmp_equiv o).symm q k ∙ other)

  -- where none counts up to the next key, it is not equal
  pub times-more_none : times cmp (take (i + 1) keys) q ≡ 0 → (times cmp (take i keys) q ≡ 0) × (is_eq (cmp k q) ≡ false)
  times-more_none none = by (is_eq (cmp k q)) refl
    where
      by : (b : Bool) → is_eq (cmp k q) ≡ b → (times cmp (take i keys) q ≡ 0) × (is_eq (cmp k q) ≡ false)
      by true e = absurd (omega (arith, times-more_same e, none))
      by false e = (sym (times-more_other e) ∙ none, e)

  -- the next key is known now, and what was found at the others stays
  pub known-more : {X : Type 0} (old new : List (K × X)) → IsSome (lookup (is_at (cmp k)) new)
      → (is_eq (cmp k q) ≡ false → lookup (is_at (cmp q)) new ≡ lookup (is_at (cmp q)) old)
      → (0 < times cmp (take i keys) q → IsSome (lookup (is_at (cmp q)) old)) → 0 < times cmp (take (i + 1) keys) q → IsSome (lookup (is_at (cmp q)) new)
  known-more old new here others was some = by (is_eq (cmp k q)) refl
    where
      by : (b : Bool) → is_eq (cmp k q) ≡ b → IsSome (lookup (is_at (cmp q)) new)
      by true e = ap is_some (sym (lookup-equal o k q ((Equal-is _).0 e) new)) ∙ here
      by false e = ap is_some (others e) ∙ was (omega (arith, times-more_other e, some))

  -- what counts up to the next key counts in the whole
  pub times-more_le : times cmp (take (i + 1) keys) q ≤ times cmp keys q
  times-more_le = sum_by-take-le (λ x. cond (is_eq (cmp q x)) 1 0) keys (i + 1)

-- nothing is appended yet
pub AreAppended-none : {X A : Type 0} (all : List X) (found : Option (Vec X A)) → AreAppended all 0 found found
AreAppended-none all None = refl
AreAppended-none all (Some v) = record { tail = []; joined = sym (append-nil v.items); long = refl; given = All-nil (Contains all) }

-- one more item is appended to what is found
pub AreAppended-more : {X A : Type 0} (all : List X) (n : ℕ) (x : X) (old mid new : Option (Vec X A)) → Contains all x → AreAppended all n old mid
    → IsSomeAnd mid (λ v. IsSomeAnd new (λ w. w.items ≡ v.items ++ x ∷ [])) → AreAppended all (n + 1) old new
AreAppended-more all n x None mid new has so step = absurd (rw so at step)
AreAppended-more all n x (Some u) None new has so step = absurd so
AreAppended-more all n x (Some u) (Some v) None has so step = absurd step
AreAppended-more all n x (Some u) (Some v) (Some w) has so step = record {
  tail = so.tail ++ x ∷ [];
  joined = step ∙ ap (λ l. l ++ x ∷ []) so.joined ∙ append_assoc u.items so.tail (x ∷ []);
  long = length-append so.tail (x ∷ []) ∙ omega (arith, so.long);
  given = All-append (Contains all) so.tail (x ∷ []) so.given (All-cons (Contains all) x [] has (All-nil (Contains all)));
}

-- what was found is still found
pub AreAppended-known : {X A : Type 0} (all : List X) (n : ℕ) (old new : Option (Vec X A)) → AreAppended all n old new → is_some new ≡ is_some old
AreAppended-known all n None new so = ap is_some so
AreAppended-known all n (Some v) None so = absurd so
AreAppended-known all n (Some v) (Some w) so = refl

-- room takes no item
pub AreAppended-roomier : {X A : Type 0} (all : List X) (n : ℕ) (old mid new : Option (Vec X A))
    → items_of new ≡ items_of mid → is_some new ≡ is_some mid → AreAppended all n old mid → AreAppended all n old new
AreAppended-roomier all n None mid new same known so = none_of new (known ∙ ap is_some so)
AreAppended-roomier all n (Some u) None new same known so = absurd so
AreAppended-roomier all n (Some u) (Some v) None same known so = absurd cc
AreAppended-roomier all n (Some u) (Some v) (Some w) same known so = record { tail = so.tail; joined = same ∙ so.joined; long = so.long; given = so.given }

-- one more item is appended at the equal keys, and nothing at the others
pub AreAppended-step : {K X A : Type 0} {cmp : K → K → Ordering} (o : IsTotalOrder cmp) (keys : List K) (i : ℕ) (k q : K)
    → i < length keys → k ≡ get_or keys i k
    → (all : List X) (x : X) (old mid new : Option (Vec X A)) → Contains all x → AreAppended all (times cmp (take i keys) q) old mid
    → (is_eq (cmp k q) ≡ true → IsSomeAnd mid (λ v. IsSomeAnd new (λ w. w.items ≡ v.items ++ x ∷ [])))
    → (is_eq (cmp k q) ≡ false → new ≡ mid)
    → AreAppended all (times cmp (take (i + 1) keys) q) old new
AreAppended-step {cmp = cmp} o keys i k q inside at all x old mid new has so here others = by (is_eq (cmp k q)) refl
  where
    by : (b : Bool) → is_eq (cmp k q) ≡ b → AreAppended all (times cmp (take (i + 1) keys) q) old new
    by true e = rw (times-more_same o keys i k q inside at e) (AreAppended-more all (times cmp (take i keys) q) x old mid new has so (here e))
    by false e = rw (times-more_other o keys i k q inside at e, others e) so

-- a count over a list that a function gives
pub sum_by-map : {X Y : Type 0} (f : Y → ℕ) (g : X → Y) (xs : List X) → sum_by f (map g xs) ≡ sum_by (λ x. f (g x)) xs
sum_by-map f g [] = refl
sum_by-map f g (x ∷ xs) = sum_by-cons f (g x) (map g xs) ∙ ap (λ n. f (g x) + n) (sum_by-map f g xs) ∙ sym (sum_by-cons (λ y. f (g y)) x xs)

-- a list that is there gets its items
pub appended-named : {X A : Type 0} (all : List X) (count : ℕ) (old mid new : Option (Vec X A))
    → items_of mid ≡ items_of old → IsSome mid → AreAppended all count mid new
    → IsAdded all count (option_map (λ v. v.items) old) (option_map (λ v. v.items) new)
appended-named all count old None new same has so = absurd cc
appended-named all count old (Some v) None same has so = absurd so
appended-named all count old (Some v) (Some w) same has so = (so.tail, so.joined ∙ ap (λ l. l ++ so.tail) same, so.long, so.given)

-- a list that gets no items stays
pub appended-other : {X A : Type 0} (all : List X) (old mid new : Option (Vec X A)) → mid ≡ old → AreAppended all 0 mid new
    → option_map (λ v. v.items) new ≡ option_map (λ v. v.items) old
appended-other all old None new same so = ap (option_map (λ v. v.items)) (so ∙ same)
appended-other all old (Some v) None same so = absurd so
appended-other all old (Some v) (Some w) same so =
    ap Some (so.joined ∙ ap (λ l. v.items ++ l) (nil_from_length so.tail so.long) ∙ append-nil v.items) ∙ ap (option_map (λ u. u.items)) same

-- an item is appended to the vector that is found
pub appended-found : {X A : Type 0} (x : X) (old new : Option (Vec X A)) (v w : Vec X A) → old ≡ Some v → new ≡ Some w → w.items ≡ v.items ++ x ∷ []
    → IsSomeAnd old (λ v. IsSomeAnd new (λ w. w.items ≡ v.items ++ x ∷ []))
appended-found x old new v w found now items = rw (found, now) items
