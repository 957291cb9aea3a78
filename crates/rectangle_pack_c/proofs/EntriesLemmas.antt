-- The entries of a collection are its boxes, each once.
use Rattle.rectangle_pack_c.proofs.Std.{◌≡◌, ◌≢◌, ◌⊎◌, inl, inr, ℕ, ◌<◌, true, false, List, [], ◌∷◌, ◌++◌, length, get_or, refl, ap, sym, ◌∙◌, subst, All, AllPairs, Contains}
use Rattle.rectangle_pack_c.proofs.Std.{IsPermutation, IsPermutation-map, IsDistinct, IsDistinct-IsPermutation, IsDistinct-from_sorted, IsDistinct-head, IsDistinct-tail}
use Rattle.rectangle_pack_c.proofs.Std.{All-from_recursion, All-contains, All-head, All-tail, All-weaker, Contains-append_cases, Contains-append_left}
use Rattle.rectangle_pack_c.proofs.Std.{Contains-append_right, Contains-get_or, Contains-permutation, Some, map, map-append, nat_cmp, nat_cmp_total, eq_by_cmp}
use Rattle.rectangle_pack_c.proofs.Std.{is_eq, is_at, lookup, keys_of}
use Rattle.std.proofs.Common.{flat_map, remove}
use Rattle.std.proofs.lemmas.Cmp.{eq_by_cmp_equiv}
use Rattle.std.proofs.lemmas.List.Sorted.{IsPermutation-cons, IsPermutation-refl, IsPermutation-remove, IsPermutation-sym, IsPermutation-trans}
use Rattle.std.proofs.lemmas.Map.Keys.{IsDistinct-from_apart}
use Rattle.std.proofs.lemmas.Map.Views.{Contains-from_lookup, lookup-from_Contains}
use Rattle.rectangle_pack_sections.proofs.lemmas.util.Lists.{AllPairs-append}
use Rattle.rectangle_pack_sections.proofs.lemmas.util.Maps.{is_at-back}
use Rattle.rectangle_pack.specs.declared.grouped_rects_to_place.Group.{Group}
use Rattle.rectangle_pack.specs.Groups.{Collection}
use Rattle.rectangle_pack.specs.Needed.{entries}
use Rattle.rectangle_pack_c.specs.declared.RpBox.{RpBox}
use Rattle.rectangle_pack_c.specs.declared.collection.RpExclusion.{RpExclusion}
use Rattle.rectangle_pack_c.specs.Collections.{group_of, group_order, IsCollected}
use Rattle.rectangle_pack_c.proofs.OrderLemmas.{exact_group, group_order_total, group_same, nat_other, nat_same}
use Rattle.rectangle_pack_c.proofs.CollectedLemmas.{AreHeld, collected_held}
use Rattle.rectangle_pack_c.proofs.PlacedLemmas.{found_and, no_box}
use Rattle.rectangle_pack_c.proofs.WholeLemmas.{none_in, in_cases, in_first, in_later, in_map, pairs_none}

-- numbers that differ
abbrev Differ : List ℕ → Type 0
Differ ns = IsDistinct (eq_by_cmp nat_cmp) ns

differ_from : (ns : List ℕ) → AllPairs (λ i j. i ≢ j) ns → Differ ns
differ_from ns apart = IsDistinct-from_apart (eq_by_cmp nat_cmp) ns (λ i j d before within. nat_other (get_or ns i d) (get_or ns j d) (apart i j d before within))

not_in : (n : ℕ) (ns : List ℕ) → Differ (n ∷ ns) → Contains ns n → ⊥
not_in n ns differ inside =
    let others = All-from_recursion (λ m. eq_by_cmp nat_cmp n m ≡ false) ns (IsDistinct-head (eq_by_cmp nat_cmp) n ns differ) in
    let no : is_eq (nat_cmp n n) ≡ false = All-contains (λ m. eq_by_cmp nat_cmp n m ≡ false) ns n others inside in
    let yes : is_eq (nat_cmp n n) ≡ true = nat_same n in
    absurd cc

later : (n : ℕ) (ns : List ℕ) (m : ℕ) → n ≢ m → Contains (n ∷ ns) m → Contains ns m
later n ns m other inside = by (in_cases n ns m inside)
  where
    by : (n ≡ m) ⊎ Contains ns m → Contains ns m
    by (inl same) = absurd (other same)
    by (inr more) = more

-- two lists of numbers that differ, with the same numbers, are one in another order
same_numbers : (xs ys : List ℕ) → Differ xs → Differ ys → ((n : ℕ) → Contains xs n → Contains ys n) → ((n : ℕ) → Contains ys n → Contains xs n)
    → IsPermutation xs ys
same_numbers [] [] d e there back = IsPermutation-refl []
same_numbers [] (y ∷ ys) d e there back = absurd (none_in y (back y (in_first y ys y refl)))
same_numbers (x ∷ xs) ys d e there back =
    let (i, low, at) = there x (in_first x xs x refl) in
    let rest = remove ys i in
    let moved : IsPermutation ys (x ∷ rest) = IsPermutation-remove ys i x low (sym at) in
    let again : IsPermutation (x ∷ rest) ys = IsPermutation-sym ys (x ∷ rest) moved in
    let differ : Differ (x ∷ rest) = IsDistinct-IsPermutation (eq_by_cmp nat_cmp) (λ a b. is_at-back nat_cmp_total a b) ys (x ∷ rest) moved e in
    let in_rest : (n : ℕ) → Contains xs n → Contains rest n = λ n inside.
    later x rest n (λ same. not_in x xs d (subst (Contains xs) (sym same) inside)) (Contains-permutation ys (x ∷ rest) n moved (there n (in_later x xs n inside))) in
    let in_xs : (n : ℕ) → Contains rest n → Contains xs n = λ n inside.
    later x xs n (λ same. not_in x rest differ (subst (Contains rest) (sym same) inside)) (back n (Contains-permutation (x ∷ rest) ys n again (in_later x rest n inside))) in
    IsPermutation-trans (x ∷ xs) (x ∷ rest) ys
    (IsPermutation-cons x xs rest (same_numbers xs rest (IsDistinct-tail (eq_by_cmp nat_cmp) x xs d) (IsDistinct-tail (eq_by_cmp nat_cmp) x rest differ) in_rest in_xs))
    again

-- groups whose ids have these groups
module _ (group : ℕ → Group ℕ ℕ) where
  -- an entry of the collection
  abbrev pub named : ℕ → Group ℕ ℕ × ℕ
  named i = (group i, i)

  named_all : (k : Group ℕ ℕ) (ids : List ℕ) → All (λ i. group i ≡ k) ids → map (λ id. (k, id)) ids ≡ map named ids
  named_all k [] h = refl
  named_all k (i ∷ ids) h =
      let here : group i ≡ k = All-head (λ i. group i ≡ k) i ids h in
      ap (λ g. (g, i) ∷ map (λ id. (k, id)) ids) (sym here) ∙ ap (λ es. named i ∷ es) (named_all k ids (All-tail (λ i. group i ≡ k) i ids h))

  abbrev ids_of : List (Group ℕ ℕ × List ℕ) → List ℕ
  ids_of groups = flat_map (λ g. g.1) groups

  abbrev HasOwn : Group ℕ ℕ × List ℕ → Type 0
  HasOwn g = All (λ i. group i ≡ g.0) g.1

  entries_are : (groups : List (Group ℕ ℕ × List ℕ)) → All HasOwn groups → entries groups ≡ map named (ids_of groups)
  entries_are [] h = refl
  entries_are (g ∷ groups) h =
      ap (λ es. es ++ entries groups) (named_all g.0 g.1 (All-head HasOwn g groups h))
      ∙ ap (λ es. map named g.1 ++ es) (entries_are groups (All-tail HasOwn g groups h))
      ∙ sym (map-append named g.1 (ids_of groups))

  id_from : (groups : List (Group ℕ ℕ × List ℕ)) (i : ℕ) → Contains (ids_of groups) i → (g : Group ℕ ℕ × List ℕ) × Contains groups g × Contains g.1 i
  id_from [] i c = absurd (none_in i c)
  id_from (g ∷ groups) i c = by (Contains-append_cases g.1 (ids_of groups) i c) (id_from groups i)
    where
      by : Contains g.1 i ⊎ Contains (ids_of groups) i → (Contains (ids_of groups) i → (h : Group ℕ ℕ × List ℕ) × Contains groups h × Contains h.1 i)
          → (h : Group ℕ ℕ × List ℕ) × Contains (g ∷ groups) h × Contains h.1 i
      by (inl here) ih = (g, in_first g groups g refl, here)
      by (inr more) ih = let (h, there, member) = ih more in (h, in_later g groups h there, member)

  id_in : (groups : List (Group ℕ ℕ × List ℕ)) (g : Group ℕ ℕ × List ℕ) (i : ℕ) → Contains groups g → Contains g.1 i → Contains (ids_of groups) i
  id_in [] g i c member = absurd (none_in g c)
  id_in (h ∷ groups) g i c member = by (in_cases h groups g c) (λ more. id_in groups g i more member)
    where
      by : (h ≡ g) ⊎ Contains groups g → (Contains groups g → Contains (ids_of groups) i) → Contains (h.1 ++ ids_of groups) i
      by (inl same) ih = Contains-append_left h.1 (ids_of groups) i (subst (λ (x : Group ℕ ℕ × List ℕ). Contains x.1 i) (sym same) member)
      by (inr more) ih = Contains-append_right h.1 (ids_of groups) i (ih more)

  -- no group is there again
  not_twice : (g : Group ℕ ℕ × List ℕ) (groups : List (Group ℕ ℕ × List ℕ)) → IsDistinct (eq_by_cmp group_order) (keys_of (g ∷ groups))
      → (other : Group ℕ ℕ × List ℕ) → Contains groups other → g.0 ≡ other.0 → ⊥
  not_twice g groups d other inside same =
      let differ = All-from_recursion (λ k. eq_by_cmp group_order g.0 k ≡ false) (keys_of groups)
      (IsDistinct-head (eq_by_cmp group_order) g.0 (keys_of groups) d) in
      let no : is_eq (group_order g.0 other.0) ≡ false = All-contains
      (λ k. eq_by_cmp group_order g.0 k ≡ false) (keys_of groups) other.0 differ (in_map (λ h. h.0) groups other inside) in
      let yes : is_eq (group_order g.0 other.0) ≡ true = rw same (group_same other.0) in
      absurd cc

  -- so no id is there twice
  ids_once : (groups : List (Group ℕ ℕ × List ℕ)) → IsDistinct (eq_by_cmp group_order) (keys_of groups) → All HasOwn groups
      → All (λ g. AllPairs (λ i j. i ≢ j) g.1) groups → AllPairs (λ i j. i ≢ j) (ids_of groups)
  ids_once [] d h once = pairs_none (λ (i j : ℕ). i ≢ j)
  ids_once (g ∷ groups) d h once =
      AllPairs-append (λ (i j : ℕ). i ≢ j) g.1 (ids_of groups) (All-head (λ (g : Group ℕ ℕ × List ℕ). AllPairs (λ i j. i ≢ j) g.1) g groups once)
      (ids_once groups (IsDistinct-tail (eq_by_cmp group_order) g.0 (keys_of groups) d) (All-tail HasOwn g groups h)
      (All-tail (λ (g : Group ℕ ℕ × List ℕ). AllPairs (λ i j. i ≢ j) g.1) g groups once))
      across
    where
      differ : (i j : ℕ) → Contains g.1 i → Contains (ids_of groups) j → i ≢ j
      differ i j here there same =
          let (other, listed, member) = id_from groups j there in
          let own : group i ≡ g.0 = All-contains (λ i. group i ≡ g.0) g.1 i (All-head HasOwn g groups h) here in
          let his : group j ≡ other.0 = All-contains (λ i. group i ≡ other.0) other.1 j
          (All-contains HasOwn groups other (All-tail HasOwn g groups h) listed) member in
          not_twice g groups d other listed (sym own ∙ ap group same ∙ his)

      across : All (λ j. All (λ i. i ≢ j) g.1) (ids_of groups)
      across k d low m e inside = differ (get_or g.1 m e) (get_or (ids_of groups) k d) (Contains-get_or g.1 m e inside) (Contains-get_or (ids_of groups) k d low)

module _ (boxes : List RpBox) (exclusions : List RpExclusion) (all : Collection ℕ ℕ) (collected : IsCollected boxes exclusions all) where
  -- the group of the box of this index
  abbrev pub group_at : ℕ → Group ℕ ℕ
  group_at i = group_of i (get_or boxes i no_box)

  abbrev OfBox : Group ℕ ℕ → ℕ → Type 0
  OfBox k i = (i < length boxes) × (group_at i ≡ k)

  held : AreHeld (λ i. get_or boxes i no_box) (length boxes) all
  held = collected_held boxes exclusions no_box all collected

  keys : IsDistinct (eq_by_cmp group_order) (keys_of all.groups)
  keys = IsDistinct-from_sorted group_order (keys_of all.groups) collected.ascend

  found : (g : Group ℕ ℕ × List ℕ) → Contains all.groups g → lookup (is_at (group_order g.0)) all.groups ≡ Some g.1
  found g inside = lookup-from_Contains (eq_by_cmp_equiv group_order_total) g.0 g.1 all.groups keys inside

  own : All (HasOwn group_at) all.groups
  own k d low =
      let g = get_or all.groups k d in
      All-weaker (OfBox g.0) (λ i. group_at i ≡ g.0) (λ i m. m.1) g.1 (held.members g.0 g.1 (found g (Contains-get_or all.groups k d low)))

  each_once : All (λ g. AllPairs (λ i j. i ≢ j) g.1) all.groups
  each_once k d low =
      let g = get_or all.groups k d in
      held.once g.0 g.1 (found g (Contains-get_or all.groups k d low))

  abbrev ids : List ℕ
  ids = ids_of group_at all.groups

  below : (i : ℕ) → Contains ids i → i < length boxes
  below i inside =
      let (g, there, member) = id_from group_at all.groups i inside in
      let is : OfBox g.0 i = All-contains (OfBox g.0) g.1 i (held.members g.0 g.1 (found g there)) member in
      is.0

  all_in : (i : ℕ) → i < length boxes → Contains ids i
  all_in i low =
      let (list, is, member) = found_and (λ ids. Contains ids i) _ (held.there i low) in
      id_in group_at all.groups (group_at i, list) i (Contains-from_lookup exact_group (group_at i) list all.groups is) member

  -- the indices of all boxes, each once, name the entries of the collection
  pub entries_by : (ns : List ℕ) → AllPairs (λ i j. i ≢ j) ns → ((n : ℕ) → Contains ns n → n < length boxes)
      → ((i : ℕ) → i < length boxes → Contains ns i) → IsPermutation (entries all.groups) (map (named group_at) ns)
  entries_by ns once low whole =
      let moved : IsPermutation ids ns = same_numbers ids ns (differ_from ids (ids_once group_at all.groups keys own each_once)) (differ_from ns once)
      (λ n c. whole n (below n c)) (λ n c. all_in n (low n c)) in
      rw (entries_are group_at all.groups own) (IsPermutation-map (named group_at) ids ns moved)
