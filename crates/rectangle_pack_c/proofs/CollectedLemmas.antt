-- The collection of a list of boxes: one more push, what stands in it, and that two of them are alike.
use Rattle.rectangle_pack_c.proofs.Std.{◌≡◌, ◌≢◌, ℕ, ◌+◌, ◌<◌, ◌≤◌, ◌==◌, Bool, true, false, cond, List, [], ◌∷◌, ◌++◌, length, get_or, refl, ap, sym, ◌∙◌}
use Rattle.rectangle_pack_c.proofs.Std.{subst, arith, suc, zero, append-nil, Option, Some, None, All, AllPairs, Contains, IsSomeAnd, unwrap_or, slice_get, map}
use Rattle.rectangle_pack_c.proofs.Std.{filter, AllZip, enumerate_from, IsStrictlySortedBy, option_map, Equal, nat_cmp_is, nat_cmp, is_eq, lookup}
use Rattle.rectangle_pack_c.proofs.Std.{keys_of, is_at, insert_entry, exact_unsigned, Ordering, map-append, length-map, get_or_default, length-enumerate_from}
use Rattle.rectangle_pack_c.proofs.Std.{get_or-enumerate_from, AllPairs-cons, All-nil, All-cons, All-weaker, All-head, Contains-get_or, filter-append}
use Rattle.rectangle_pack_c.proofs.Std.{slice_get-map, slice_get-get_or, ◌||◌, ◌&&◌, list_any, list_any-append, or-false}
use Rattle.rectangle_pack.specs.declared.grouped_rects_to_place.Group.{Group}
use Rattle.rectangle_pack.specs.declared.grouped_rects_to_place.Group.TheVariants.{Ungrouped, Grouped}
use Rattle.rectangle_pack.specs.Groups.{Collection, SetsSize, PushesAlone, PushesInto, Excludes, Appends, times_named}
use mathlib.Core.Path.{fun_ext}
use Rattle.rectangle_pack.specs.declared.pack.Placement.{Placement}
use Rattle.rectangle_pack.specs.Bins.{Bin}
use Rattle.rectangle_pack.specs.Exclusions.{are_excluded}
use Rattle.rectangle_pack.specs.Packing.{Rules, AreAllPlaced, PackingDone, at_start, excludes_by}
use Rattle.rectangle_pack.specs.Alike.{AreCollectionsAlike}
use Rattle.rectangle_pack_sections.proofs.lemmas.cuts.Counting.{count_yes, count_no}
use Rattle.rectangle_pack_sections.proofs.lemmas.util.Maps.{lookup-inserted}
use Rattle.rectangle_pack_sections.proofs.lemmas.groups.Alike.{AreOptionsAlike, maps_alike}
use Rattle.rectangle_pack_c.specs.declared.RpBox.{RpBox}
use Rattle.rectangle_pack_c.specs.declared.collection.RpExclusion.{RpExclusion}
use Rattle.rectangle_pack_c.specs.Arguments.{box_size}
use Rattle.rectangle_pack_c.specs.Collections.{group_order, group_of, indices_in, unless_empty, are_pair, IsCollected}
use Rattle.rectangle_pack_c.specs.private.Pushed.{Pushes}
use Rattle.rectangle_pack_c.proofs.OrderLemmas.{nat_same, nat_greater, nat_other, group_order_total, exact_group, group_same, group_swap}
use Rattle.rectangle_pack_sections.proofs.lemmas.util.Zips.{AllZip-itself}
use Rattle.rectangle_pack_c.proofs.WholeLemmas.{none_in, in_kept}

-- an entry under the next number is the last
pub insert_last : {X : Type 0} (n : ℕ) (xs : List X) (x : X) (m : ℕ) → m ≡ n + length xs
    → insert_entry nat_cmp (enumerate_from n xs) m x ≡ enumerate_from n (xs ++ x ∷ [])
insert_last n [] x m e = let same : m ≡ n = omega arith in ap (λ k. (k, x) ∷ []) same
insert_last n (y ∷ ys) x m e =
    let later = insert_last (n + 1) ys x m (omega arith) in
    rw (nat_greater m n (omega arith)) (ap (λ es. (n, y) ∷ es) later)

pub enumerate_last : {X : Type 0} (n : ℕ) (xs : List X) (x : X) (m : ℕ) → m ≡ n + length xs → enumerate_from n (xs ++ x ∷ []) ≡ enumerate_from n xs ++ (m, x) ∷ []
enumerate_last n [] x m e = let same : n ≡ m = omega arith in ap (λ k. (k, x) ∷ []) same
enumerate_last n (y ∷ ys) x m e = ap (λ es. (n, y) ∷ es) (enumerate_last (n + 1) ys x m (omega arith))

-- an entry, and its index
abbrev index_of : ℕ × RpBox → ℕ
index_of e = e.0

-- whether a box is in the group
abbrev is_in : Group ℕ ℕ → ℕ × RpBox → Bool
is_in k e = is_eq (group_order k (group_of e.0 e.1))

-- the list followed by this index, where the box is in the group
abbrev with_last : Bool → List ℕ → ℕ → List ℕ
with_last t ids i = ids ++ cond t (i ∷ []) []

kept_one : (t : Bool) (m : ℕ) (b : RpBox) → map index_of (cond t ((m, b) ∷ []) []) ≡ cond t (m ∷ []) []
kept_one true m b = refl
kept_one false m b = refl

members_more : (k : Group ℕ ℕ) (boxes : List RpBox) (b : RpBox)
    → indices_in k (boxes ++ b ∷ []) ≡ with_last (is_in k (length boxes, b)) (indices_in k boxes) (length boxes)
members_more k boxes b =
    let m = length boxes in
    ap (λ es. map index_of (filter (is_in k) es)) (enumerate_last 0 boxes b m (omega arith))
    ∙ ap (map index_of) (filter-append (is_in k) (enumerate_from 0 boxes) ((m, b) ∷ []))
    ∙ map-append index_of (filter (is_in k) (enumerate_from 0 boxes)) (filter (is_in k) ((m, b) ∷ []))
    ∙ ap (λ ids. indices_in k boxes ++ ids) (kept_one (is_in k (m, b)) m b)

-- a box is in the group of another index only by its number
not_own : (m n : ℕ) (b : RpBox) → m ≢ n → is_eq (group_order (Ungrouped m) (group_of n b)) ≡ false
not_own m n b ne = by (b.group == 0)
  where
    by : (t : Bool) → is_eq (group_order (Ungrouped m) (cond t (Ungrouped n) (Grouped b.group))) ≡ false
    by true = nat_other m n ne
    by false = refl

fresh : (n m : ℕ) (bs : List RpBox) → n + length bs ≤ m → map index_of (filter (is_in (Ungrouped m)) (enumerate_from n bs)) ≡ []
fresh n m [] h = refl
fresh n m (b ∷ bs) h = let ne : m ≢ n = omega arith in rw (not_own m n b ne) (fresh (n + 1) m bs (omega arith))

or_empty : (ids : List ℕ) → unwrap_or (unless_empty ids) [] ≡ ids
or_empty [] = refl
or_empty (i ∷ ids) = refl

not_empty : (ids : List ℕ) (i : ℕ) → Some (ids ++ i ∷ []) ≡ unless_empty (ids ++ i ∷ [])
not_empty [] i = refl
not_empty (j ∷ ids) i = refl

is_list : (ids found : List ℕ) → unless_empty ids ≡ Some found → found ≡ ids
is_list [] found e = absurd cc
is_list (i ∷ ids) found e = cc

module _ (boxes : List RpBox) (exclusions : List RpExclusion) (b : RpBox) (old new : Collection ℕ ℕ) (h : IsCollected boxes exclusions old) where
  sizes_more : SetsSize nat_cmp old.sizes new.sizes (length boxes) (box_size b) → new.sizes ≡ enumerate_from 0 (map box_size (boxes ++ b ∷ []))
  sizes_more (key, same, are) =
      let here : key ≡ length boxes = sym (exact_unsigned (length boxes) key same) in
      let long : length boxes ≡ 0 + length (map box_size boxes) = omega (arith, length-map boxes box_size) in
      are ∙ rw (here, h.sizes) (insert_last 0 (map box_size boxes) (box_size b) (length boxes) long)
      ∙ ap (enumerate_from 0) (sym (map-append box_size boxes (b ∷ [])))

  -- a group that the box is not in
  without : (k : Group ℕ ℕ) → is_in k (length boxes, b) ≡ false → unless_empty (indices_in k boxes) ≡ unless_empty (indices_in k (boxes ++ b ∷ []))
  without k out =
      let same : indices_in k (boxes ++ b ∷ []) ≡ indices_in k boxes =
      members_more k boxes b ∙ ap (λ t. with_last t (indices_in k boxes) (length boxes)) out ∙ append-nil (indices_in k boxes) in
      ap unless_empty (sym same)

  -- and one that it is in
  within : (k : Group ℕ ℕ) → is_in k (length boxes, b) ≡ true → Some (indices_in k boxes ++ length boxes ∷ []) ≡ unless_empty (indices_in k (boxes ++ b ∷ []))
  within k inn =
      let same : indices_in k (boxes ++ b ∷ []) ≡ indices_in k boxes ++ length boxes ∷ [] =
      members_more k boxes b ∙ ap (λ t. with_last t (indices_in k boxes) (length boxes)) inn in
      not_empty (indices_in k boxes) (length boxes) ∙ ap unless_empty (sym same)

  collected_alone : b.group == 0 ≡ true → PushesAlone nat_cmp group_order old new (length boxes) (box_size b)
      → IsStrictlySortedBy group_order (keys_of new.groups) → IsCollected (boxes ++ b ∷ []) exclusions new
  collected_alone alone p up = record {
    sizes = sizes_more p.sizes;
    groups = λ k. found k ∙ at k (is_eq (group_order (Ungrouped (length boxes)) k)) refl;
    ascend = up;
    excluded = λ x y. rw p.partners (h.excluded x y);
  }
    where
      own : group_of (length boxes) b ≡ Ungrouped (length boxes)
      own = ap (λ t. cond t (Ungrouped (length boxes)) (Grouped b.group)) alone

      none_yet : indices_in (Ungrouped (length boxes)) boxes ≡ []
      none_yet = fresh 0 (length boxes) boxes (omega arith)

      found : (k : Group ℕ ℕ) → lookup (is_at (group_order k)) new.groups
          ≡ cond (is_eq (group_order (Ungrouped (length boxes)) k)) (Some (length boxes ∷ [])) (lookup (is_at (group_order k)) old.groups)
      found k =
          let (key, member, e, f, are) = p.groups in
          let here : key ≡ length boxes = sym (exact_unsigned (length boxes) key e) in
          let him : member ≡ length boxes = sym (exact_unsigned (length boxes) member f) in
          rw (are, here, him) (lookup-inserted group_order_total old.groups (Ungrouped (length boxes)) (length boxes ∷ [])
          (h.groups (Ungrouped (length boxes)) ∙ ap unless_empty none_yet) k)

      at : (k : Group ℕ ℕ) (t : Bool) → is_eq (group_order (Ungrouped (length boxes)) k) ≡ t
          → cond t (Some (length boxes ∷ [])) (lookup (is_at (group_order k)) old.groups) ≡ unless_empty (indices_in k (boxes ++ b ∷ []))
      at k true e =
          let is : Ungrouped (length boxes) ≡ k = exact_group (Ungrouped (length boxes)) k e in
          let inn : is_in (Ungrouped (length boxes)) (length boxes, b) ≡ true = ap
          (λ g. is_eq (group_order (Ungrouped (length boxes)) g)) own ∙ nat_same (length boxes) in
          subst (λ g. Some (length boxes ∷ []) ≡ unless_empty (indices_in g (boxes ++ b ∷ []))) is
          (ap (λ ids. Some (ids ++ length boxes ∷ [])) (sym none_yet) ∙ within (Ungrouped (length boxes)) inn)
      at k false e =
          let out : is_in k (length boxes, b) ≡ false = ap (λ g. is_eq (group_order k g)) own ∙ group_swap k (Ungrouped (length boxes)) ∙ e in
          h.groups k ∙ without k out

  collected_into : b.group == 0 ≡ false → PushesInto nat_cmp group_order old new (length boxes) (b.group ∷ []) (box_size b)
      → IsStrictlySortedBy group_order (keys_of new.groups) → IsCollected (boxes ++ b ∷ []) exclusions new
  collected_into not_alone p up = record {
    sizes = sizes_more p.sizes;
    groups = λ k. at k (is_eq (group_order k (Grouped b.group))) refl;
    ascend = up;
    excluded = λ x y. rw p.partners (h.excluded x y);
  }
    where
      own : group_of (length boxes) b ≡ Grouped b.group
      own = ap (λ t. cond t (Ungrouped (length boxes)) (Grouped b.group)) not_alone

      once : (k : Group ℕ ℕ) → is_eq (group_order k (Grouped b.group)) ≡ true → times_named group_order (b.group ∷ []) k ≡ 1
      once k e = count_yes (λ n. is_eq (group_order k (Grouped n))) b.group [] e

      never : (k : Group ℕ ℕ) → is_eq (group_order k (Grouped b.group)) ≡ false → times_named group_order (b.group ∷ []) k ≡ 0
      never k e = count_no (λ n. is_eq (group_order k (Grouped n))) b.group [] e

      last_is : (tail : List ℕ) → length tail ≡ 1 → All (λ x. nat_cmp (length boxes) x ≡ Equal) tail → tail ≡ length boxes ∷ []
      last_is [] long all = absurd (omega arith)
      last_is (x ∷ []) long all = let is : length boxes ≡ x = exact_unsigned (length boxes) x
          (All-head (λ x. nat_cmp (length boxes) x ≡ Equal) x [] all) in ap (λ y. y ∷ []) (sym is)
      last_is (x ∷ y ∷ tail) long all = absurd (omega arith)

      appended : (was : List ℕ) (o : Option (List ℕ)) → IsSomeAnd o (Appends nat_cmp was (length boxes) 1) → o ≡ Some (was ++ length boxes ∷ [])
      appended was None a = absurd a
      appended was (Some ids) (tail, joined, long, all) = ap (λ l. Some l) (joined ∙ ap (λ t. was ++ t) (last_is tail long all))

      at : (k : Group ℕ ℕ) (t : Bool) → is_eq (group_order k (Grouped b.group)) ≡ t
          → lookup (is_at (group_order k)) new.groups ≡ unless_empty (indices_in k (boxes ++ b ∷ []))
      at k true e =
          let inn : is_in k (length boxes, b) ≡ true = ap (λ g. is_eq (group_order k g)) own ∙ e in
          let was : unwrap_or (lookup (is_at (group_order k)) old.groups) [] ≡ indices_in k boxes = ap (λ o. unwrap_or o []) (h.groups k)
          ∙ or_empty (indices_in k boxes) in
          appended _ _ (rw (once k e) at (p.named_groups k (omega (arith, once k e)))) ∙ ap (λ ids. Some (ids ++ length boxes ∷ [])) was ∙ within k inn
      at k false e =
          let out : is_in k (length boxes, b) ≡ false = ap (λ g. is_eq (group_order k g)) own ∙ e in
          p.other_groups k (never k e) ∙ h.groups k ∙ without k out

  -- one more box
  pub collected_more : Pushes (length boxes) b old new → IsStrictlySortedBy group_order (keys_of new.groups) → IsCollected (boxes ++ b ∷ []) exclusions new
  collected_more p up = by (b.group == 0) refl
    where
      by : (t : Bool) → b.group == 0 ≡ t → IsCollected (boxes ++ b ∷ []) exclusions new
      by true alone = collected_alone alone (rw alone at p) up
      by false into = collected_into into (rw into at p) up

-- one more pair of groups that are excluded
pub excluded_more : (boxes : List RpBox) (exclusions : List RpExclusion) (e : RpExclusion) (old new : Collection ℕ ℕ) → IsCollected boxes exclusions old
    → Excludes group_order old new (Grouped e.one) (Grouped e.other) → IsCollected boxes (exclusions ++ e ∷ []) new
excluded_more boxes exclusions e old new h x = record {
  sizes = x.sizes ∙ h.sizes;
  groups = λ k. ap (lookup (is_at (group_order k))) x.groups ∙ h.groups k;
  ascend = rw x.groups h.ascend;
  excluded = λ a b. x.pairs a b ∙ ap (λ t. t || are_pair a b e) (h.excluded a b) ∙ sym (list_any-append (are_pair a b) exclusions (e ∷ []) ∙ ap (λ t. list_any (are_pair a b) exclusions || t) (or-false (are_pair a b e)));
}

-- a look-up among numbered entries
pub lookup_numbered : {X : Type 0} (n : ℕ) (xs : List X) (k i : ℕ) → i ≡ n + k → lookup (is_at (nat_cmp i)) (enumerate_from n xs) ≡ slice_get xs k
lookup_numbered n [] k i e = refl
lookup_numbered n (x ∷ xs) zero i e = let same : i ≡ n = omega arith in rw (same, nat_same n) refl
lookup_numbered n (x ∷ xs) (suc k) i e = let ne : i ≢ n = omega arith in rw (nat_other i n ne) (lookup_numbered (n + 1) xs k i (omega arith))

-- the indices of a group: below the length, of boxes of this group, and each once
module _ (k : Group ℕ ℕ) (box : ℕ → RpBox) where
  abbrev IsMember : ℕ → ℕ → ℕ → Type 0
  IsMember n end i = (n ≤ i) × (i < end) × (group_of i (box i) ≡ k)

  members_each : (n end : ℕ) (bs : List RpBox) → n + length bs ≡ end → ((j : ℕ) (d : RpBox) → j < length bs → box (n + j) ≡ get_or bs j d)
      → All (IsMember n end) (map index_of (filter (is_in k) (enumerate_from n bs)))
  members_each n end [] long are = All-nil _
  members_each n end (b ∷ bs) long are =
      by (is_in k (n, b)) refl (All-weaker (IsMember (n + 1) end) (IsMember n end) (λ i p. (omega (arith, p.0), p.1, p.2)) _
      (members_each (n + 1) end bs (omega arith) (λ j d low. let next : n + suc j ≡ (n + 1) + j = omega arith in rw next at (are (suc j) d (omega arith)))))
    where
      first : box n ≡ b
      first = let here : n + 0 ≡ n = omega arith in rw here at (are 0 b (omega arith))

      by : (t : Bool) → is_in k (n, b) ≡ t → All (IsMember n end) (map index_of (filter (is_in k) (enumerate_from (n + 1) bs)))
          → All (IsMember n end) (map index_of (cond t ((n, b) ∷ filter (is_in k) (enumerate_from (n + 1) bs)) (filter (is_in k) (enumerate_from (n + 1) bs))))
      by true e all = All-cons (IsMember n end) n _ (omega arith, omega arith, ap (group_of n) first ∙ sym (exact_group k (group_of n b) e)) all
      by false e all = all

  members_once : (n end : ℕ) (bs : List RpBox) → n + length bs ≡ end → ((j : ℕ) (d : RpBox) → j < length bs → box (n + j) ≡ get_or bs j d)
      → AllPairs (λ i j. i ≢ j) (map index_of (filter (is_in k) (enumerate_from n bs)))
  members_once n end [] long are = λ i j d below inside. absurd (omega (arith, inside))
  members_once n end (b ∷ bs) long are =
      let later = λ (j : ℕ) (d : RpBox) (low : j < length bs). let next : n + suc j ≡ (n + 1) + j = omega arith in rw next at (are (suc j) d (omega arith)) in
      by (is_in k (n, b)) (members_each (n + 1) end bs (omega arith) later) (members_once (n + 1) end bs (omega arith) later)
    where
      by : (t : Bool) → All (IsMember (n + 1) end) (map index_of (filter (is_in k) (enumerate_from (n + 1) bs)))
          → AllPairs (λ i j. i ≢ j) (map index_of (filter (is_in k) (enumerate_from (n + 1) bs)))
          → AllPairs (λ i j. i ≢ j)
          (map index_of (cond t ((n, b) ∷ filter (is_in k) (enumerate_from (n + 1) bs)) (filter (is_in k) (enumerate_from (n + 1) bs))))
      by true above pairs = AllPairs-cons (λ i j. i ≢ j) n _
          (All-weaker (IsMember (n + 1) end) (λ j. n ≢ j) (λ j p. let ne : n ≢ j = omega (arith, p.0) in ne) _ above) pairs
      by false above pairs = pairs

-- what stands in the collection: each box in its size, and in its group alone
pub record AreHeld (box : ℕ → RpBox) (count : ℕ) (all : Collection ℕ ℕ) : Type 0 where
  pub sized : (i : ℕ) → i < count → lookup (is_at (nat_cmp i)) all.sizes ≡ Some (box_size (box i))
  pub members : (k : Group ℕ ℕ) (ids : List ℕ) → lookup (is_at (group_order k)) all.groups ≡ Some ids → All (λ i. (i < count) × (group_of i (box i) ≡ k)) ids
  pub once : (k : Group ℕ ℕ) (ids : List ℕ) → lookup (is_at (group_order k)) all.groups ≡ Some ids → AllPairs (λ i j. i ≢ j) ids
  pub there : (i : ℕ) → i < count → IsSomeAnd (lookup (is_at (group_order (group_of i (box i)))) all.groups) (λ ids. Contains ids i)

pub collected_held : (boxes : List RpBox) (exclusions : List RpExclusion) (d : RpBox) (all : Collection ℕ ℕ) → IsCollected boxes exclusions all
    → AreHeld (λ i. get_or boxes i d) (length boxes) all
collected_held boxes exclusions d all h = record {
  sized = λ i low. ap (lookup (is_at (nat_cmp i))) h.sizes ∙ lookup_numbered 0 (map box_size boxes) i i (omega arith) ∙ slice_get-map box_size boxes i
      ∙ ap (option_map box_size) (slice_get-get_or boxes i d low);
  members = λ k ids is.
      rw (is_list (indices_in k boxes) ids (sym (h.groups k) ∙ is)) (All-weaker (IsMember k box 0 (length boxes))
      (λ i. (i < length boxes) × (group_of i (box i) ≡ k)) (λ i p. (p.1, p.2)) _ (members_each k box 0 (length boxes) boxes (omega arith) are));
  once = λ k ids is. rw (is_list (indices_in k boxes) ids (sym (h.groups k) ∙ is)) (members_once k box 0 (length boxes) boxes (omega arith) are);
  there = λ i low. rw (h.groups (group_of i (box i))) (in_list (indices_in (group_of i (box i)) boxes) i (among i low));
}
  where
    box : ℕ → RpBox
    box i = get_or boxes i d

    are : (j : ℕ) (e : RpBox) → j < length boxes → box (0 + j) ≡ get_or boxes j e
    are j e low = let here : 0 + j ≡ j = omega arith in rw here (get_or_default boxes j d e low)

    in_list : (ids : List ℕ) (i : ℕ) → Contains ids i → IsSomeAnd (unless_empty ids) (λ ids. Contains ids i)
    in_list [] i c = absurd (none_in i c)
    in_list (j ∷ ids) i c = c

    among : (i : ℕ) → i < length boxes → Contains (indices_in (group_of i (box i)) boxes) i
    among i low =
        let at = get_or-enumerate_from 0 boxes i (i, d) low in
        let here : 0 + i ≡ i = omega arith in
        let entry : Contains (enumerate_from 0 boxes) (i, box i) =
        subst (Contains (enumerate_from 0 boxes)) (at ∙ ap (λ j. (j, box i)) here)
        (Contains-get_or (enumerate_from 0 boxes) i (i, d) (omega (arith, length-enumerate_from 0 boxes))) in
        in_kept index_of (is_in (group_of i (box i))) (enumerate_from 0 boxes) (i, box i) entry (group_same (group_of i (box i)))

-- lists of equal ids
abbrev AreSame : List ℕ → List ℕ → Type 0
AreSame xs ys = AllZip (λ x y. nat_cmp x y ≡ Equal) xs ys

-- collections of the same boxes are alike
pub collected_alike : (boxes : List RpBox) (exclusions : List RpExclusion) (all other : Collection ℕ ℕ) → IsCollected boxes exclusions all
    → IsCollected boxes exclusions other → AreCollectionsAlike group_order nat_cmp all other
collected_alike boxes exclusions all other h g = record {
  sizes = rw (h.sizes, g.sizes) (AllZip-itself (λ x y. (nat_cmp x.0 y.0 ≡ Equal) × (x.1 ≡ y.1))
      (λ x. (same_number x.0, refl)) (enumerate_from 0 (map box_size boxes)));
  groups = maps_alike group_order group_order_total AreSame all.groups other.groups h.ascend g.ascend
      (λ k. rw (h.groups k, g.groups k) (options_alike (unless_empty (indices_in k boxes))));
  excluded = λ a b. h.excluded a b ∙ sym (g.excluded a b);
}
  where
    same_number : (n : ℕ) → nat_cmp n n ≡ Equal
    same_number n = sym (nat_cmp_is n n Equal refl)

    options_alike : (o : Option (List ℕ)) → AreOptionsAlike AreSame o o
    options_alike None = tt
    options_alike (Some ids) = AllZip-itself (λ x y. nat_cmp x y ≡ Equal) same_number ids

-- what is packed of the one is packed of the other
same_entries : (xs ys : List (Group ℕ ℕ × List ℕ)) → AllZip (λ x y. (group_order x.0 y.0 ≡ Equal) × (x.1 ≡ y.1)) xs ys → xs ≡ ys
same_entries [] [] h = refl
same_entries [] (y ∷ ys) h = absurd h
same_entries (x ∷ xs) [] h = absurd h
same_entries (x ∷ xs) (y ∷ ys) h =
    let key : x.0 ≡ y.0 = exact_group x.0 y.0 (ap is_eq h.0.0) in
    let first : x ≡ y = ap (λ k. (k, x.1)) key ∙ ap (λ l. (y.0, l)) h.0.1 in
    ap (λ z. z ∷ xs) first ∙ ap (λ zs. y ∷ zs) (same_entries xs ys h.1)

pub same_groups : (boxes : List RpBox) (exclusions : List RpExclusion) (all other : Collection ℕ ℕ) → IsCollected boxes exclusions all
    → IsCollected boxes exclusions other → all.groups ≡ other.groups
same_groups boxes exclusions all other h g = same_entries all.groups other.groups
    (maps_alike group_order group_order_total (λ x y. x ≡ y) all.groups other.groups h.ascend g.ascend
    (λ k. rw (h.groups k, g.groups k) (options_same (unless_empty (indices_in k boxes)))))
  where
    options_same : (o : Option (List ℕ)) → AreOptionsAlike (λ x y. x ≡ y) o o
    options_same None = tt
    options_same (Some ids) = refl

-- and the same bins are excluded
pub same_excludes : (bin_cmp : ℕ → ℕ → Ordering) (boxes : List RpBox) (exclusions : List RpExclusion) (all other : Collection ℕ ℕ)
    → IsCollected boxes exclusions all → IsCollected boxes exclusions other
    → excludes_by group_order bin_cmp all.partners ≡ excludes_by group_order bin_cmp other.partners
same_excludes bin_cmp boxes exclusions all other h g = ap (λ (are : Group ℕ ℕ → Group ℕ ℕ → Bool). λ (homes : List (Group ℕ ℕ × ℕ)) (group : Group ℕ ℕ) (id : ℕ).
    list_any (λ home. are group home.0 && is_at (bin_cmp id) home.1) homes) pairs
  where
    pairs : are_excluded group_order all.partners ≡ are_excluded group_order other.partners
    pairs = fun_ext (λ a. fun_ext (λ b. h.excluded a b ∙ sym (g.excluded a b)))

pub done_again : (rules : Rules ℕ ℕ) (boxes : List RpBox) (exclusions : List RpExclusion) (all other : Collection ℕ ℕ)
    → IsCollected boxes exclusions all → IsCollected boxes exclusions other
    → (old new : List (ℕ × Bin)) (placements : List (Placement ℕ ℕ)) → PackingDone group_order rules all old placements new
    → PackingDone group_order rules other old placements new
done_again rules boxes exclusions all other h g old new placements done = record {
  group_order = done.group_order;
  bin_order = done.bin_order;
  groups = done.groups;
  by_groups = rw (← sizes, ← groups) done.by_groups;
  by_bins = done.by_bins;
  listed = rw (← sizes, ← groups) done.listed;
  homes = done.homes;
  tests = done.tests;
  placed = subst (λ excludes. AreAllPlaced rules excludes (map (λ o. o.1) done.bin_order) done.groups (at_start old) placements
      (record { bins = new; homes = done.homes }) done.tests) (same_excludes rules.bin_cmp boxes exclusions all other h g) done.placed;
}
  where
    sizes : all.sizes ≡ other.sizes
    sizes = h.sizes ∙ sym g.sizes

    groups : all.groups ≡ other.groups
    groups = same_groups boxes exclusions all other h g
