-- Pairs that are listed at each other.
use Rattle.rectangle_pack_sections.proofs.Std.{◌≡◌, ◌↔◌, tied_itself, ◌<◌, Bool, true, false, ◌&&◌, ◌||◌, List, [], ◌∷◌, ◌++◌, length, refl, sym, ◌∙◌, ap}
use Rattle.rectangle_pack_sections.proofs.Std.{subst, arith, length-append, Option, Some, None, IfSome, IsSomeAnd, unwrap_or, Ordering, Equal, Vec, is_eq}
use Rattle.rectangle_pack_sections.proofs.Std.{IsTotalOrder, Equal-is, option_map, list_any, IsStrictlySortedBy, lookup, keys_of, is_at, list_any-append}
use Rattle.rectangle_pack_sections.proofs.Std.{eq_by_cmp_equiv, IsDistinct-from_sorted, All-values_from_lookup, IfSome-lookup_from_All, or_comm, or_assoc}
use Rattle.rectangle_pack_sections.proofs.Std.{or-false, and_comm}
use Rattle.rectangle_pack_sections.specs.Groups.{lists_of}
use Rattle.rectangle_pack_groups.specs.private.Multimaps.{items_of}
use Rattle.rectangle_pack_sections.specs.Exclusions.{is_listed, are_excluded, are_these}
use Rattle.rectangle_pack_sections.specs.private.Exclusions.{AreNonempty}
use Rattle.rectangle_pack_groups.proofs.lemmas.multimap.Vectors.{keys-lists}
use Rattle.rectangle_pack_sections.proofs.lemmas.groups.Lists.{lookup-lists}
use Rattle.rectangle_pack_sections.proofs.lemmas.util.Maps.{is_at-back}
use Rattle.rectangle_pack_sections.proofs.lemmas.groups.Excluded.{is_at-equal, excluded-alike}

or-both : (p q t : Bool) → ((p || t) || (q || t)) ≡ ((p || q) || t)
or-both true q t = refl
or-both false true true = refl
or-both false true false = refl
or-both false false true = refl
or-both false false false = refl

-- adding what follows changes nothing
or-given : (p t : Bool) → (t ≡ true → p ≡ true) → p ≡ (p || t)
or-given true t h = refl
or-given false false h = refl
or-given false true h = h refl

module _ {K : Type 0} {cmp : K → K → Ordering} (o : IsTotalOrder cmp) where
  pub excluded-back : (es : List (K × List K)) (x y : K) → are_excluded cmp es x y ≡ are_excluded cmp es y x
  excluded-back es x y = or_comm (is_listed cmp es x y) (is_listed cmp es y x)

  pub these-back : (a b x y : K) → are_these cmp a b x y ≡ are_these cmp a b y x
  these-back a b x y = rw (
    or_comm (is_at (cmp x) a && is_at (cmp y) b) (is_at (cmp x) b && is_at (cmp y) a),
    and_comm (is_at (cmp x) b) (is_at (cmp y) a),
    and_comm (is_at (cmp x) a) (is_at (cmp y) b),
  ) refl

  -- adding a pair that is excluded changes nothing
  pub excluded-again : (es : List (K × List K)) (a b : K) → are_excluded cmp es a b ≡ true → (x y : K)
      → are_excluded cmp es x y ≡ (are_excluded cmp es x y || are_these cmp a b x y)
  excluded-again es a b there x y = or-given (are_excluded cmp es x y) (are_these cmp a b x y) (by (is_at (cmp x) a) (is_at (cmp y) b) refl refl)
    where
      swapped : (p q : Bool) → is_at (cmp x) b ≡ p → is_at (cmp y) a ≡ q → (is_at (cmp x) b && is_at (cmp y) a) ≡ true → are_excluded cmp es x y ≡ true
      swapped true true h k t = excluded-alike o es x b y a ((Equal-is _).0 h) ((Equal-is _).0 k) ∙ excluded-back es b a ∙ there
      swapped true false h k t = absurd (let e = rw (h, k) at t in cc)
      swapped false q h k t = absurd (let e = rw h at t in cc)

      by : (p q : Bool) → is_at (cmp x) a ≡ p → is_at (cmp y) b ≡ q → are_these cmp a b x y ≡ true → are_excluded cmp es x y ≡ true
      by true true h k t = excluded-alike o es x a y b ((Equal-is _).0 h) ((Equal-is _).0 k) ∙ there
      by true false h k t = swapped (is_at (cmp x) b) (is_at (cmp y) a) refl refl (rw (h, k) at t)
      by false q h k t = swapped (is_at (cmp x) b) (is_at (cmp y) a) refl refl (rw h at t)

  -- where each of two is listed at the other too, the pair is excluded too
  pub excluded-added : (old new : List (K × List K)) (a b : K) → ((x y : K) → is_listed cmp new x y ≡ (is_listed cmp old x y || are_these cmp a b x y))
      → (x y : K) → are_excluded cmp new x y ≡ (are_excluded cmp old x y || are_these cmp a b x y)
  excluded-added old new a b h x y =
      rw (h x y, h y x, these-back a b y x) (or-both (is_listed cmp old x y) (is_listed cmp old y x) (are_these cmp a b x y))

  -- what is listed, by the vectors
  pub listed-items : {A : Type 0} (es : List (K × Vec K A)) (x y : K)
      → is_listed cmp (lists_of es) x y ≡ list_any (is_at (cmp y)) (items_of (lookup (is_at (cmp x)) es))
  listed-items es x y = ap (λ (f : Option (List K)). list_any (is_at (cmp y)) (unwrap_or f [])) (lookup-lists (is_at (cmp x)) es)

  -- an item that was appended at a key
  abbrev pub AppendedAt : {A : Type 0} → K → K → List (K × Vec K A) → List (K × Vec K A) → Type 0
  AppendedAt key item old new =
      (q : K) → is_eq (cmp key q) ≡ true → IsSomeAnd (lookup (is_at (cmp q)) old)
      (λ v. IsSomeAnd (lookup (is_at (cmp q)) new) (λ w. w.items ≡ v.items ++ item ∷ []))

  appended-items : {A : Type 0} (item : K) (old new : Option (Vec K A)) → IsSomeAnd old (λ v. IsSomeAnd new (λ w. w.items ≡ v.items ++ item ∷ []))
      → items_of new ≡ items_of old ++ item ∷ []
  appended-items item None new h = absurd h
  appended-items item (Some v) None h = absurd h
  appended-items item (Some v) (Some w) h = h

  -- is listed there, and nothing else changes
  pub listed-appended : {A : Type 0} (key partner item : K) (old new : List (K × Vec K A)) → cmp partner item ≡ Equal → AppendedAt key item old new
      → ((q : K) → is_eq (cmp key q) ≡ false → lookup (is_at (cmp q)) new ≡ lookup (is_at (cmp q)) old)
      → (x y : K) → is_listed cmp (lists_of new) x y ≡ (is_listed cmp (lists_of old) x y || (is_at (cmp x) key && is_at (cmp y) partner))
  listed-appended {A} key partner item old new same here others x y =
      rw (listed-items new x y, listed-items old x y, is_at-back o x key) (by (is_eq (cmp key x)) refl)
    where
      at : is_at (cmp y) item ≡ is_at (cmp y) partner
      at = is_at-back o y item ∙ sym (is_at-equal o partner item y same) ∙ is_at-back o partner y

      by : (b : Bool) → is_eq (cmp key x) ≡ b → list_any (is_at (cmp y)) (items_of (lookup (is_at (cmp x)) new))
          ≡ (list_any (is_at (cmp y)) (items_of (lookup (is_at (cmp x)) old)) || (is_eq (cmp key x) && is_at (cmp y) partner))
      by true e =
          rw (e, appended-items item (lookup (is_at (cmp x)) old) (lookup (is_at (cmp x)) new) (here x e))
          (list_any-append (is_at (cmp y)) (items_of (lookup (is_at (cmp x)) old)) (item ∷ []) ∙ rw (at, or-false (is_at (cmp y) partner)) refl)
      by false e = rw (e, others x e) (sym (or-false (list_any (is_at (cmp y)) (items_of (lookup (is_at (cmp x)) old)))))

  -- each of two, listed at the other
  pub listed-both : {A : Type 0} (a b item : K) (old mid one new : List (K × Vec K A)) → cmp b item ≡ Equal
      → ((q : K) → items_of (lookup (is_at (cmp q)) mid) ≡ items_of (lookup (is_at (cmp q)) old))
      → AppendedAt a item mid one → ((q : K) → is_eq (cmp a q) ≡ false → lookup (is_at (cmp q)) one ≡ lookup (is_at (cmp q)) mid)
      → AppendedAt b a one new → ((q : K) → is_eq (cmp b q) ≡ false → lookup (is_at (cmp q)) new ≡ lookup (is_at (cmp q)) one)
      → (x y : K) → is_listed cmp (lists_of new) x y ≡ (is_listed cmp (lists_of old) x y || are_these cmp a b x y)
  listed-both a b item old mid one new same items here1 others1 here2 others2 x y =
      let start : is_listed cmp (lists_of mid) x y ≡ is_listed cmp (lists_of old) x y = listed-items mid x y ∙ ap (list_any (is_at (cmp y))) (items x)
      ∙ sym (listed-items old x y) in
      listed-appended b a a one new (tied_itself o a) here2 others2 x y
      ∙ rw (listed-appended a b item mid one same here1 others1 x y, start)
      (or_assoc (is_listed cmp (lists_of old) x y) (is_at (cmp x) a && is_at (cmp y) b) (is_at (cmp x) b && is_at (cmp y) a))

  -- a list that is found has an item exactly if the vector has
  some-lists : {A : Type 0} (f : Option (Vec K A)) → IfSome (option_map (λ v. v.items) f) (λ ks. 0 < length ks) ↔ IfSome f (λ v. 0 < length v.items)
  some-lists None = (λ h. h, λ h. h)
  some-lists (Some v) = (λ h. h, λ h. h)

  -- no list is empty where each vector that is found has an item
  pub some-from : {A : Type 0} (es : List (K × Vec K A)) → IsStrictlySortedBy cmp (keys_of es)
      → ((q : K) → IfSome (lookup (is_at (cmp q)) es) (λ v. 0 < length v.items)) → AreNonempty (lists_of es)
  some-from es ordered each =
      All-values_from_lookup (eq_by_cmp_equiv o) (λ ks. 0 < length ks) (lists_of es)
      (IsDistinct-from_sorted cmp (keys_of (lists_of es)) (subst (IsStrictlySortedBy cmp) (sym (keys-lists es)) ordered))
      (λ q. rw (lookup-lists (is_at (cmp q)) es) ((some-lists (lookup (is_at (cmp q)) es)).1 (each q)))

  -- nor where items are appended at the two keys at which room was made
  pub some-appended : {A : Type 0} (a b item : K) (old made mid one new : List (K × Vec K A))
      → ((q : K) → is_eq (cmp a q) ≡ false → lookup (is_at (cmp q)) made ≡ lookup (is_at (cmp q)) old)
      → ((q : K) → is_eq (cmp b q) ≡ false → lookup (is_at (cmp q)) mid ≡ lookup (is_at (cmp q)) made)
      → AppendedAt a item mid one → ((q : K) → is_eq (cmp a q) ≡ false → lookup (is_at (cmp q)) one ≡ lookup (is_at (cmp q)) mid)
      → AppendedAt b a one new → ((q : K) → is_eq (cmp b q) ≡ false → lookup (is_at (cmp q)) new ≡ lookup (is_at (cmp q)) one)
      → IsStrictlySortedBy cmp (keys_of new) → AreNonempty (lists_of old) → AreNonempty (lists_of new)
  some-appended {A} a b item old made mid one new first second here1 others1 here2 others2 ordered was = some-from new ordered
      (λ q. by q (is_eq (cmp b q)) (is_eq (cmp a q)) refl refl)
    where
      P : Option (Vec K A) → Type 0
      P f = IfSome f (λ v. 0 < length v.items)

      grown : (x : K) (v w : Option (Vec K A)) → IsSomeAnd v (λ v. IsSomeAnd w (λ w. w.items ≡ v.items ++ x ∷ [])) → P w
      grown x None w h = absurd h
      grown x (Some v) None h = absurd h
      grown x (Some v) (Some w) h = omega (arith, ap length h, length-append v.items (x ∷ []))

      before : (q : K) → P (lookup (is_at (cmp q)) old)
      before q = (some-lists (lookup (is_at (cmp q)) old)).0 (rw (lookup-lists (is_at (cmp q)) old)
          at (IfSome-lookup_from_All (λ ks. 0 < length ks) (is_at (cmp q)) (lists_of old) was))

      by : (q : K) (p r : Bool) → is_eq (cmp b q) ≡ p → is_eq (cmp a q) ≡ r → P (lookup (is_at (cmp q)) new)
      by q true r e k = grown a (lookup (is_at (cmp q)) one) (lookup (is_at (cmp q)) new) (here2 q e)
      by q false true e k = rw (others2 q e) (grown item (lookup (is_at (cmp q)) mid) (lookup (is_at (cmp q)) one) (here1 q k))
      by q false false e k = rw (others2 q e, others1 q k, second q e, first q k) (before q)
