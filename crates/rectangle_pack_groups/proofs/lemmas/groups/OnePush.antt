-- Equal pushes into collections that are alike leave collections that are alike.
use Rattle.rectangle_pack_sections.proofs.Std.{◌≡◌, ℕ, cond, List, [], ◌∷◌, refl, sym, ◌∙◌, ap, arith, length, zero, suc, All, Option, Some, None, IsSomeAnd}
use Rattle.rectangle_pack_sections.proofs.Std.{unwrap_or, AllZip, IsStrictlySortedBy, Ordering, Less, Equal, Greater, is_eq, match_ordering, IsTotalOrder}
use Rattle.rectangle_pack_sections.proofs.Std.{lookup, keys_of, is_at, insert_entry, tied_itself, All-head, All-tail}
use Rattle.rectangle_pack_sections.specs.declared.group.Group.{Group}
use Rattle.rectangle_pack_sections.specs.declared.group.Group.TheVariants.{Ungrouped, Grouped}
use Rattle.rectangle_pack_sections.specs.Boxes.{Size}
use Rattle.rectangle_pack_sections.specs.Exclusions.{are_excluded}
use Rattle.rectangle_pack_sections.specs.Groups.{Collection, SetsSize, PushesAlone, PushesInto, Appends, times_named}
use Rattle.rectangle_pack_sections.specs.Alike.{AreMapsAlike, AreCollectionsAlike}
use Rattle.rectangle_pack_sections.proofs.lemmas.util.Maps.{congr_right, same_keys}
use Rattle.rectangle_pack_sections.proofs.lemmas.groups.Alike.{AreOptionsAlike, lookup-alike, maps_alike}
use Rattle.rectangle_pack_sections.proofs.lemmas.util.Zips.{AllZip-append, sums_alike}

-- the same entry, put into maps that agree
insert-alike : {K X : Type 0} {cmp : K → K → Ordering} → IsTotalOrder cmp → (R : X → X → Type 0) (x y : K) (v w : X) → cmp x y ≡ Equal → R v w
    → (es fs : List (K × X)) → AreMapsAlike cmp R es fs
    → AreMapsAlike cmp R (insert_entry cmp es x v) (insert_entry cmp fs y w)
insert-alike o R x y v w h r [] [] m = ((h, r), tt)
insert-alike {cmp = cmp} o R x y v w h r (e ∷ es) (f ∷ fs) m = rw (o.congr x y e.0 h ∙ congr_right o e.0 f.0 y m.0.0)
    (at (cmp y f.0) (insert-alike o R x y v w h r es fs m.1))
  where
    at : (c : Ordering) → AreMapsAlike cmp R (insert_entry cmp es x v) (insert_entry cmp fs y w)
        → AreMapsAlike cmp R (match_ordering c ((x, v) ∷ e ∷ es) ((e.0, v) ∷ es) (e ∷ insert_entry cmp es x v))
        (match_ordering c ((y, w) ∷ f ∷ fs) ((f.0, w) ∷ fs) (f ∷ insert_entry cmp fs y w))
    at Less i = ((h, r), m)
    at Equal i = ((m.0.0, r), m.1)
    at Greater i = (m.0, i)
insert-alike o R x y v w h r es fs m = absurd m

-- clones of ids that are equal are equal
same_tails : {K : Type 0} {cmp : K → K → Ordering} → IsTotalOrder cmp → (a b : K) → cmp a b ≡ Equal → (xs ys : List K) → length xs ≡ length ys
    → All (λ x. cmp a x ≡ Equal) xs → All (λ y. cmp b y ≡ Equal) ys → AllZip (λ x y. cmp x y ≡ Equal) xs ys
same_tails o a b h [] [] e k l = tt
same_tails {cmp = cmp} o a b h (x ∷ xs) (y ∷ ys) e k l = (
  same_keys o a b x y h (All-head (λ x. cmp a x ≡ Equal) x xs k) (All-head (λ y. cmp b y ≡ Equal) y ys l),
  same_tails o a b h xs ys (omega arith) (All-tail (λ x. cmp a x ≡ Equal) x xs k) (All-tail (λ y. cmp b y ≡ Equal) y ys l),
)
same_tails o a b h xs ys e k l = absurd (omega arith)

module _ {Id G : Type 0} (group_cmp : Group G Id → Group G Id → Ordering) (cmp : Id → Id → Ordering) (name_cmp : G → G → Ordering)
    (group_total : IsTotalOrder group_cmp) (total : IsTotalOrder cmp)
    (alone : (a b : Id) → group_cmp (Ungrouped a) (Ungrouped b) ≡ cmp a b) (named : (a b : G) → group_cmp (Grouped a) (Grouped b) ≡ name_cmp a b) where
  abbrev Same : List Id → List Id → Type 0
  Same xs ys = AllZip (λ x y. cmp x y ≡ Equal) xs ys

  sizes_alike : (old other new other_new : List (Id × Size)) (id other_id : Id) (size : Size) → cmp id other_id ≡ Equal
      → AreMapsAlike cmp (λ a b. a ≡ b) old other
      → SetsSize cmp old new id size → SetsSize cmp other other_new other_id size → AreMapsAlike cmp (λ a b. a ≡ b) new other_new
  sizes_alike old other new other_new id other_id size h alike (key, k, e) (other_key, l, f) =
      rw (e, f) (insert-alike total (λ a b. a ≡ b) key other_key size size (same_keys total id other_id key other_key h k l) refl old other alike)

  -- pushes leave the pairs that are excluded
  excluded_alike : (old new other other_new : Collection Id G) → AreCollectionsAlike group_cmp cmp old other → new.partners ≡ old.partners
      → other_new.partners ≡ other.partners
      → (a b : Group G Id) → are_excluded group_cmp new.partners a b ≡ are_excluded group_cmp other_new.partners a b
  excluded_alike old new other other_new alike e f a b = rw (e, f) (alike.excluded a b)

  pub alone_alike : (old new other other_new : Collection Id G) (id other_id : Id) (size : Size)
      → AreCollectionsAlike group_cmp cmp old other → cmp id other_id ≡ Equal
      → PushesAlone cmp group_cmp old new id size → PushesAlone cmp group_cmp other other_new other_id size → AreCollectionsAlike group_cmp cmp new other_new
  alone_alike old new other other_new id other_id size alike h p q = record {
    sizes = sizes_alike old.sizes other.sizes new.sizes other_new.sizes id other_id size h alike.sizes p.sizes q.sizes;
    groups = put p.groups q.groups;
    excluded = excluded_alike old new other other_new alike p.partners q.partners;
  }
    where
      put : (key : Id) × (member : Id) × (cmp id key ≡ Equal) × (cmp id member ≡ Equal)
          × (new.groups ≡ insert_entry group_cmp old.groups (Ungrouped key) (member ∷ []))
          → (key : Id) × (member : Id) × (cmp other_id key ≡ Equal) × (cmp other_id member ≡ Equal)
          × (other_new.groups ≡ insert_entry group_cmp other.groups (Ungrouped key) (member ∷ []))
          → AreMapsAlike group_cmp Same new.groups other_new.groups
      put (key, member, k, m, e) (other_key, other_member, l, n, f) =
          rw (e, f) (insert-alike group_total Same (Ungrouped key) (Ungrouped other_key) (member ∷ []) (other_member ∷ [])
          (alone key other_key ∙ same_keys total id other_id key other_key h k l) (same_keys total id other_id member other_member h m n, tt)
          old.groups other.groups alike.groups)

  -- a group is named as often by names that are equal
  times_alike : (q : Group G Id) (ns ms : List G) → AllZip (λ a b. name_cmp a b ≡ Equal) ns ms → times_named group_cmp ns q ≡ times_named group_cmp ms q
  times_alike q ns ms h = sums_alike (λ a. cond (is_eq (group_cmp q (Grouped a))) 1 0) (λ a b. name_cmp a b ≡ Equal)
      (λ a b e. ap (λ r. cond (is_eq r) 1 0) (congr_right group_total (Grouped a) (Grouped b) q (named a b ∙ e))) ns ms h

  or_none : (u v : Option (List Id)) → AreOptionsAlike Same u v → Same (unwrap_or u []) (unwrap_or v [])
  or_none None None h = tt
  or_none None (Some y) h = absurd h
  or_none (Some x) None h = absurd h
  or_none (Some x) (Some y) h = h

  appended : (before other_before : List Id) (id other_id : Id) (n m : ℕ) (u v : Option (List Id)) → Same before other_before → cmp id other_id ≡ Equal → n ≡ m
      → IsSomeAnd u (Appends cmp before id n) → IsSomeAnd v (Appends cmp other_before other_id m) → AreOptionsAlike Same u v
  appended before other_before id other_id n m None v b h e p q = absurd p
  appended before other_before id other_id n m (Some x) None b h e p q = absurd q
  appended before other_before id other_id n m (Some x) (Some y) b h e (tail, is, long, all) (other_tail, other_is, other_long, other_all) =
      rw (is, other_is) (AllZip-append (λ x y. cmp x y ≡ Equal) before other_before tail other_tail b
      (same_tails total id other_id h tail other_tail (long ∙ e ∙ sym other_long) all other_all))

  pub into_alike : (old new other other_new : Collection Id G) (id other_id : Id) (ns ms : List G) (size : Size)
      → AreCollectionsAlike group_cmp cmp old other → cmp id other_id ≡ Equal
      → AllZip (λ a b. name_cmp a b ≡ Equal) ns ms → IsStrictlySortedBy group_cmp (keys_of new.groups) → IsStrictlySortedBy group_cmp (keys_of other_new.groups)
      → PushesInto cmp group_cmp old new id ns size → PushesInto cmp group_cmp other other_new other_id ms size
      → AreCollectionsAlike group_cmp cmp new other_new
  into_alike old new other other_new id other_id ns ms size alike h names up down p q = record {
    sizes = sizes_alike old.sizes other.sizes new.sizes other_new.sizes id other_id size h alike.sizes p.sizes q.sizes;
    groups = maps_alike group_cmp group_total Same new.groups other_new.groups up down (λ k. at k (times_named group_cmp ns k) refl);
    excluded = excluded_alike old new other other_new alike p.partners q.partners;
  }
    where
      was : (k : Group G Id) → AreOptionsAlike Same (lookup (is_at (group_cmp k)) old.groups) (lookup (is_at (group_cmp k)) other.groups)
      was k = lookup-alike group_total Same k k (tied_itself group_total k) old.groups other.groups alike.groups

      at : (k : Group G Id) (n : ℕ) → times_named group_cmp ns k ≡ n
          → AreOptionsAlike Same (lookup (is_at (group_cmp k)) new.groups) (lookup (is_at (group_cmp k)) other_new.groups)
      at k zero e = rw (p.other_groups k e, q.other_groups k (sym (times_alike k ns ms names) ∙ e)) (was k)
      at k (suc n) e =
          let same = times_alike k ns ms names in
          appended (unwrap_or (lookup (is_at (group_cmp k)) old.groups) []) (unwrap_or (lookup (is_at (group_cmp k)) other.groups) []) id other_id _ _
          (lookup (is_at (group_cmp k)) new.groups) (lookup (is_at (group_cmp k)) other_new.groups)
          (or_none _ _ (was k)) h same (p.named_groups k (omega (arith, e))) (q.named_groups k (omega (arith, e, same)))
