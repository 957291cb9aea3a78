-- Groups whose members have sizes, as lists are set, extended and forgotten.
use Rattle.rectangle_pack_sections.proofs.Std.{◌≡◌, ℕ, ◌+◌, ◌<◌, List, [], ◌∷◌, length, refl, ap, sym, subst, ◌∙◌, arith, cond, true, false, rules}
use Rattle.rectangle_pack_sections.proofs.Std.{zero, suc, IsSome, All, Contains, nat_lt, Option, Some, None, IfSome, IsSomeAnd, unwrap_or, map, count_by}
use Rattle.rectangle_pack_sections.proofs.Std.{Result, Ok, Err, OnOk, OnErr, Ordering, Vec, IsTotalOrder, is_eq, is_err, lookup, values_of, keys_of, is_at}
use Rattle.rectangle_pack_sections.proofs.Std.{insert_entry, All-weaker, All-contains, All-tail, All-head, All-cons, All-nil, All-append, All-values_from_lookup, Equal, length-append}
use Rattle.rectangle_pack_sections.proofs.Std.{IfSome-lookup_from_All, All-values-insert_entry, IsStrictlySortedBy, IsDistinct-from_sorted, eq_by_cmp_equiv}
use Rattle.rectangle_pack_groups.proofs.lemmas.multimap.Vectors.{lists_of-insert_entry}
use Rattle.rectangle_pack_sections.specs.Groups.{lists_of, Appends, HaveSizes, MembersHaveSizes}
use Rattle.rectangle_pack_sections.specs.private.Exclusions.{AreNonempty}
use Rattle.rectangle_pack_groups.specs.private.Multimaps.{filled, times, IsAdded, PutsAlone, AppendsAtEach, CanTakeBack}
use Rattle.rectangle_pack_groups.proofs.lemmas.multimap.Append.{sum_by-map}
use Rattle.rectangle_pack_sections.specs.Boxes.{Size}
use Rattle.rectangle_pack_sections.proofs.lemmas.util.Maps.{IsSome-cond}

-- no list is left out where each has an item
pub filled-all : {K X : Type 0} (es : List (K × List X)) → All (λ ids. 0 < length ids) (values_of es) → filled es ≡ es
filled-all [] h = refl
filled-all {X = X} (e ∷ es) h =
    let some : 0 < length e.1 = All-head (λ (ids : List X). 0 < length ids) e.1 (values_of es) h in
    let test : nat_lt 0 (length e.1) ≡ true = search rules in
    rw (test, filled-all es (All-tail (λ (ids : List X). 0 < length ids) e.1 (values_of es) h)) refl

-- a list of members that have sizes is not empty
pub MembersHaveSizes-some : {Id G : Type 0} (cmp : Id → Id → Ordering) (sizes : List (Id × Size)) (groups : List (G × List Id))
    → MembersHaveSizes cmp sizes groups → AreNonempty groups
MembersHaveSizes-some cmp sizes groups h =
    All-weaker (λ ids. (0 < length ids) × HaveSizes cmp sizes ids) (λ ids. 0 < length ids) (λ ids p. p.0) (values_of groups) h

-- what was there comes back where no list was empty
pub CanTakeBack-whole : {K X : Type 0} (cmp : K → K → Ordering) (keys : List K) (now before : List (K × List X)) → AreNonempty before
    → CanTakeBack cmp keys now (filled before) → CanTakeBack cmp keys now before
CanTakeBack-whole cmp keys now before some can = record { start = can.start; back = can.back; same = can.same ∙ filled-all before some }

-- members that have sizes have them among more sizes
pub MembersHaveSizes-more : {Id G : Type 0} (cmp : Id → Id → Ordering) (old new : List (Id × Size)) (groups : List (G × List Id)) →
    ((q : Id) → IsSome (lookup (is_at (cmp q)) old) → IsSome (lookup (is_at (cmp q)) new)) → MembersHaveSizes cmp old groups → MembersHaveSizes cmp new groups
MembersHaveSizes-more cmp old new groups grows h =
    All-weaker
    (λ ids. (0 < length ids) × HaveSizes cmp old ids)
    (λ ids. (0 < length ids) × HaveSizes cmp new ids)
    (λ ids p. (p.0, All-weaker (λ id. IsSome (lookup (is_at (cmp id)) old)) (λ id. IsSome (lookup (is_at (cmp id)) new)) grows ids p.1))
    (values_of groups)
    h

-- nothing changed
pub MembersHaveSizes-same : {Id G : Type 0} (cmp : Id → Id → Ordering) (old new : List (Id × Size)) (was now : List (G × List Id))
    → new ≡ old → now ≡ was → MembersHaveSizes cmp old was → MembersHaveSizes cmp new now
MembersHaveSizes-same cmp old new was now e f h = rw (e, f) h

-- a put of one item, seen as a list
pub lists-alone : {K Id A : Type 0} (kcmp : K → K → Ordering) (cmp : Id → Id → Ordering) (old new : List (K × Vec Id A)) (key : K) (id : Id)
    → (p : PutsAlone kcmp cmp old new key id) → lists_of new ≡ insert_entry kcmp (lists_of old) key (p.member ∷ [])
lists-alone kcmp cmp old new key id p =
    ap lists_of p.put ∙ lists_of-insert_entry kcmp old key p.list ∙ ap (insert_entry kcmp (lists_of old) key) p.alone

-- what a look-up finds has members, where it finds something
pub HaveSizes-found : {Id : Type 0} (P : Id → Type 0) (found : Option (List Id))
    → IfSome found (λ ids. (0 < length ids) × All P ids) → All P (unwrap_or found [])
HaveSizes-found P None h = All-nil P
HaveSizes-found P (Some ids) h = h.1

-- a list to which an id is appended is not empty, and has members as the id and those of before
appended-each : {Id : Type 0} (cmp : Id → Id → Ordering) (P : Id → Type 0) (id : Id) → ((x : Id) → cmp id x ≡ Equal → P x)
    → (before : List Id) → All P before → (n : ℕ) → 0 < n → (new : Option (List Id)) → IsSomeAnd new (Appends cmp before id n)
    → IfSome new (λ ids. (0 < length ids) × All P ids)
appended-each cmp P id has before was n some None h = absurd h
appended-each cmp P id has before was n some (Some ids) (tail, joined, long, equal) =
    let longer : length ids ≡ length before + length tail = ap length joined ∙ length-append before tail in (
      omega (arith, longer, long, some),
      subst (All P) (sym joined) (All-append P before tail was (All-weaker (λ x. cmp id x ≡ Equal) P has tail equal)),
    )

-- clones that are appended are items that equal the id
pub Appends-from_added : {Id : Type 0} (cmp : Id → Id → Ordering) (id : Id) (all : List Id) → All (λ x. cmp id x ≡ Equal) all → (n : ℕ)
    → (old new : Option (List Id)) → IsAdded all n old new → IsSomeAnd new (Appends cmp (unwrap_or old []) id n)
Appends-from_added cmp id all each n old None h = h
Appends-from_added cmp id all each n old (Some list) (tail, joined, long, given) =
    (tail, joined, long, All-weaker (Contains all) (λ x. cmp id x ≡ Equal) (λ x. All-contains (λ y. cmp id y ≡ Equal) all x each) tail given)

-- a size is set, and the others stay
module _ {Id : Type 0} (cmp : Id → Id → Ordering) (old_sizes new_sizes : List (Id × Size)) (id : Id) (size : Size)
    (updates : (q : Id) → lookup (is_at (cmp q)) new_sizes ≡ cond (is_at (cmp id) q) (Some size) (lookup (is_at (cmp q)) old_sizes)) where
  grows : (q : Id) → IsSome (lookup (is_at (cmp q)) old_sizes) → IsSome (lookup (is_at (cmp q)) new_sizes)
  grows q had = rw (updates q) (IsSome-cond (is_at (cmp id) q) size (lookup (is_at (cmp q)) old_sizes) had)

  has_size : (x : Id) → cmp id x ≡ Equal → IsSome (lookup (is_at (cmp x)) new_sizes)
  has_size x same = rw (updates x, same) refl

  -- each group still has members, and each member a size, where a list of one such member is put
  pub MembersHaveSizes-alone : {K A : Type 0} (kcmp : K → K → Ordering) (old new : List (K × Vec Id A)) (key : K) → PutsAlone kcmp cmp old new key id
      → MembersHaveSizes cmp old_sizes (lists_of old) → MembersHaveSizes cmp new_sizes (lists_of new)
  MembersHaveSizes-alone kcmp old new key put was =
      rw (lists-alone kcmp cmp old new key id put)
      (All-values-insert_entry kcmp key (put.member ∷ []) (λ ids. (0 < length ids) × HaveSizes cmp new_sizes ids) (lists_of old)
      (MembersHaveSizes-more cmp old_sizes new_sizes (lists_of old) grows was)
      (omega arith, All-cons (λ x. IsSome (lookup (is_at (cmp x)) new_sizes)) put.member [] (has_size put.member put.equal) (All-nil _)))

  -- and where the id is appended at keys
  pub MembersHaveSizes-added : {K : Type 0} {kcmp : K → K → Ordering} → IsTotalOrder kcmp → (keys : List K) (old new : List (K × List Id))
      → MembersHaveSizes cmp old_sizes old
      → AppendsAtEach kcmp cmp keys id old new
      → IsStrictlySortedBy kcmp (keys_of new)
      → MembersHaveSizes cmp new_sizes new
  MembersHaveSizes-added {K} {kcmp} o keys old new was added ordered =
      All-values_from_lookup (eq_by_cmp_equiv o) (λ ids. (0 < length ids) × HaveSizes cmp new_sizes ids) new
      (IsDistinct-from_sorted kcmp (keys_of new) ordered)
      (λ q. by q (times kcmp keys q) refl)
    where
      before : (q : K) → IfSome (lookup (is_at (kcmp q)) old) (λ ids. (0 < length ids) × HaveSizes cmp new_sizes ids)
      before q = IfSome-lookup_from_All (λ ids. (0 < length ids) × HaveSizes cmp new_sizes ids) (is_at (kcmp q)) old
          (MembersHaveSizes-more cmp old_sizes new_sizes old grows was)

      by : (q : K) (n : ℕ) → times kcmp keys q ≡ n → IfSome (lookup (is_at (kcmp q)) new) (λ ids. (0 < length ids) × HaveSizes cmp new_sizes ids)
      by q zero e = subst (λ f. IfSome f (λ ids. (0 < length ids) × HaveSizes cmp new_sizes ids)) (sym (added.others q e)) (before q)
      by q (suc n) e =
          let some : 0 < times kcmp keys q = omega (arith, e) in
          appended-each cmp (λ x. IsSome (lookup (is_at (cmp x)) new_sizes)) id has_size (unwrap_or (lookup (is_at (kcmp q)) old) [])
          (HaveSizes-found (λ x. IsSome (lookup (is_at (cmp x)) new_sizes)) (lookup (is_at (kcmp q)) old) (before q))
          (times kcmp keys q) some (lookup (is_at (kcmp q)) new) (added.named q some)

-- how often a key occurs among those that a function gives
pub times-map : {K N : Type 0} (kcmp : K → K → Ordering) (f : N → K) (named : List N) (keys : List K) (q : K) → keys ≡ map f named
    → times kcmp keys q ≡ count_by (λ n. is_eq (kcmp q (f n))) named
times-map kcmp f named keys q e = ap (λ l. times kcmp l q) e ∙ sum_by-map (λ k. cond (is_eq (kcmp q k)) 1 0) f named

-- where the id is appended at the keys of the named, a list is the old one followed by it
pub lists-added : {Id K N : Type 0} (cmp : Id → Id → Ordering) (id : Id) (kcmp : K → K → Ordering) (f : N → K) (named : List N) (keys : List K)
    → keys ≡ map f named → (old new : List (K × List Id))
    → ((q : K) → 0 < times kcmp keys q
    → IsSomeAnd (lookup (is_at (kcmp q)) new) (Appends cmp (unwrap_or (lookup (is_at (kcmp q)) old) []) id (times kcmp keys q)))
    → (q : K) → 0 < count_by (λ n. is_eq (kcmp q (f n))) named
    → IsSomeAnd (lookup (is_at (kcmp q)) new)
    (Appends cmp (unwrap_or (lookup (is_at (kcmp q)) old) []) id (count_by (λ n. is_eq (kcmp q (f n))) named))
lists-added cmp id kcmp f named keys is old new added q = subst
    (λ n. 0 < n → IsSomeAnd (lookup (is_at (kcmp q)) new) (Appends cmp (unwrap_or (lookup (is_at (kcmp q)) old) []) id n))
    (times-map kcmp f named keys q is) (added q)

-- and a list at no named key is the old one
pub lists-other : {X K N : Type 0} (kcmp : K → K → Ordering) (f : N → K) (named : List N) (keys : List K) → keys ≡ map f named → (old new : List (K × List X))
    → ((q : K) → times kcmp keys q ≡ 0 → lookup (is_at (kcmp q)) new ≡ lookup (is_at (kcmp q)) old)
    → (q : K) → count_by (λ n. is_eq (kcmp q (f n))) named ≡ 0 → lookup (is_at (kcmp q)) new ≡ lookup (is_at (kcmp q)) old
lists-other kcmp f named keys is old new others q none = others q (times-map kcmp f named keys q is ∙ none)

-- what a call that did not fail promises of a success
pub on_ok : {X E : Type 0} (P : Type 0) (r : Result X E) → is_err r ≡ false → OnOk r P → P
on_ok P (Ok x) fine h = h
on_ok P (Err e) fine h = absurd cc

-- and what a call that failed promises of a failure
pub on_err : {X E : Type 0} (P : Type 0) (r : Result X E) → is_err r ≡ true → OnErr r P → P
on_err P (Ok x) failed h = absurd cc
on_err P (Err e) failed h = h

-- what follows of two promises on a success, and on a failure
pub OnOk-both : {X E P Q R : Type 0} (r : Result X E) → (P → Q → R) → OnOk r P → OnOk r Q → OnOk r R
OnOk-both (Ok x) f p q = f p q
OnOk-both (Err e) f p q = tt

pub OnErr-both : {X E P Q R : Type 0} (r : Result X E) → (P → Q → R) → OnErr r P → OnErr r Q → OnErr r R
OnErr-both (Ok x) f p q = tt
OnErr-both (Err e) f p q = f p q
