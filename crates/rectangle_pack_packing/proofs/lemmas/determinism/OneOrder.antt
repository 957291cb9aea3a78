-- Where the heuristic is a function, two orders of the same groups or bins name equal ones, one by one.
use Rattle.rectangle_pack_sections.proofs.Std.{◌≡◌, ℕ, suc, ◌<◌, ◌≤◌, each_same, sum_by-le, Bool, true, false, cond, List, [], ◌∷◌, refl, sym, ◌∙◌, ap, subst}
use Rattle.rectangle_pack_sections.proofs.Std.{arith, length, get_or, All, map, Option, Some, None, IfSome, IsSomeAnd, sum, AllZip, sum_by, Ordering, Less}
use Rattle.rectangle_pack_sections.proofs.Std.{Equal, Greater, nat_cmp, ordering_then, ordering_reverse, is_lt, is_eq, IsTotalOrder, IsPermutation, IsSorted}
use Rattle.rectangle_pack_sections.proofs.Std.{lookup, values_of, is_at, nat_cmp_total, then_total, on_total, back_total, tied_itself, All-weaker, ranks_by}
use Rattle.rectangle_pack_sections.proofs.Std.{sorted_far, sum_by-IsPermutation, sum_by-cons, IfSome-lookup_from_All}
use Rattle.rectangle_pack_sections.specs.Boxes.{Size}
use Rattle.rectangle_pack_sections.specs.Bins.{Bin}
use Rattle.rectangle_pack_sections.specs.Choice.{IsFunction}
use Rattle.rectangle_pack_sections.specs.Alike.{AreMapsAlike}
use Rattle.rectangle_pack_packing.specs.Results.{AreSameBins, AreBinsAlike}
use Rattle.rectangle_pack_sections.proofs.lemmas.groups.Alike.{lookup-same}
use Rattle.rectangle_pack_sections.proofs.lemmas.util.Zips.{AllZip-mapped, AllZip-weaker, AllZip-join, AllZip-beside, sums_alike}
use Rattle.rectangle_pack_lists.specs.Numbers.{saturated}
use Rattle.rectangle_pack_packing.specs.Orders.{falling_then, rising_then, IsGroupKey, IsGroupOrder, IsBinOrder}
use Rattle.rectangle_pack_sections.proofs.lemmas.util.Maps.{same_keys}

-- neither is less, so they are equal
tied : (r s : Ordering) → r ≡ ordering_reverse s → is_lt r ≡ false → is_lt s ≡ false → r ≡ Equal
tied Less s e h k = absurd cc
tied Equal s e h k = refl
tied Greater Less e h k = absurd cc
tied Greater Equal e h k = cc
tied Greater Greater e h k = cc

module _ {X : Type 0} (R : X → X → Ordering) (o : IsTotalOrder R) where
  -- an element that equals t counts once
  abbrev one_at : X → X → ℕ
  one_at t x = cond (is_eq (R x t)) 1 0

  counted : (x y t : X) → R x y ≡ Equal → one_at t x ≡ one_at t y
  counted x y t e = ap (λ r. cond (is_eq r) 1 0) (o.congr x y t e)

  counts_itself : (x : X) (xs : List X) → 0 < sum_by (one_at x) (x ∷ xs)
  counts_itself x xs = let once : one_at x x ≡ 1 = ap (λ r. cond (is_eq r) 1 0) (tied_itself o x) in omega (arith, sum_by-cons (one_at x) x xs)

  -- what is below each element of a list does not equal one
  apart_below : (x y z : X) → is_lt (R x y) ≡ true → is_lt (R z y) ≡ false → one_at x z ≤ 0
  apart_below x y z lt not_lt = by (R z x) refl
    where
      by : (r : Ordering) → R z x ≡ r → cond {A = ℕ} (is_eq r) 1 0 ≤ 0
      by Less e = omega arith
      by Equal e = let c = ap is_lt (o.congr z x y e) in absurd cc
      by Greater e = omega arith

  not_below : (x : X) (xs : List X) (y : X) (ys : List X) → sum_by (one_at x) (x ∷ xs) ≡ sum_by (one_at x) (y ∷ ys)
      → All (λ z. is_lt (R z y) ≡ false) (y ∷ ys) → is_lt (R x y) ≡ false
  not_below x xs y ys same low = by (is_lt (R x y)) refl
    where
      by : (b : Bool) → is_lt (R x y) ≡ b → b ≡ false
      by false e = refl
      by true e = absurd (omega (
        arith,
        counts_itself x xs,
        sum_by-le (one_at x) 0 (y ∷ ys)
            (All-weaker (λ z. is_lt (R z y) ≡ false) (λ z. one_at x z ≤ 0) (λ z h. apart_below x y z e h) (y ∷ ys) low),
      ))

  -- no element is less than an earlier one
  abbrev Rises : List X → Type 0
  Rises xs = (i j : ℕ) (d : X) → i ≤ j → j < length xs → is_lt (R (get_or xs j d) (get_or xs i d)) ≡ false

  -- two lists that rise, with the same elements up to the order, are alike one by one
  alike_from_counts : (xs ys : List X) → ((t : X) → sum_by (one_at t) xs ≡ sum_by (one_at t) ys) → Rises xs → Rises ys → AllZip (λ x y. R x y ≡ Equal) xs ys
  alike_from_counts [] [] same up down = tt
  alike_from_counts [] (y ∷ ys) same up down = absurd (omega (arith, same y, counts_itself y ys))
  alike_from_counts (x ∷ xs) [] same up down = absurd (omega (arith, same x, counts_itself x xs))
  alike_from_counts (x ∷ xs) (y ∷ ys) same up down =
      let a = not_below x xs y ys (same x) (λ k d lt. down 0 k d (omega arith) lt) in
      let b = not_below y ys x xs (sym (same y)) (λ k d lt. up 0 k d (omega arith) lt) in
      let here : R x y ≡ Equal = tied (R x y) (R y x) (o.antisymm x y) a b in (
        here,
        alike_from_counts xs ys
            (λ t. omega (arith, same t, counted x y t here, sum_by-cons (one_at t) x xs, sum_by-cons (one_at t) y ys))
            (λ i j d le lt. up (suc i) (suc j) d (omega arith) (omega arith))
            (λ i j d le lt. down (suc i) (suc j) d (omega arith) (omega arith)),
      )

  -- so two lists that are alike are alike when sorted
  alike_sorted : (us vs xs ys : List X) → AllZip (λ u v. R u v ≡ Equal) us vs → IsPermutation us xs → IsPermutation vs ys → IsSorted R xs → IsSorted R ys
      → AllZip (λ x y. R x y ≡ Equal) xs ys
  alike_sorted us vs xs ys alike p q up down =
      alike_from_counts xs ys
      (λ t. sum_by-IsPermutation (one_at t) us xs p ∙ sums_alike (one_at t) (λ u v. R u v ≡ Equal) (λ u v e. counted u v t e) us vs alike
      ∙ sym (sum_by-IsPermutation (one_at t) vs ys q))
      (sorted_far (λ x y. is_lt (R x y)) (ranks_by o (λ x. x)) xs up)
      (sorted_far (λ x y. is_lt (R x y)) (ranks_by o (λ x. x)) ys down)

falling_total : {K : Type 0} {cmp : K → K → Ordering} → IsTotalOrder cmp → IsTotalOrder (falling_then cmp)
falling_total {K} o = then_total (on_total (λ (a : ℕ × K). a.0) (back_total nat_cmp_total)) (on_total (λ (a : ℕ × K). a.1) o)

rising_total : {B : Type 0} {cmp : B → B → Ordering} → IsTotalOrder cmp → IsTotalOrder (rising_then cmp)
rising_total {B} o = then_total (on_total (λ (a : ℕ × B). a.0) nat_cmp_total) (on_total (λ (a : ℕ × B). a.1) o)

-- the names of two equal pairs are equal
second_tied : (r s : Ordering) → ordering_then r s ≡ Equal → s ≡ Equal
second_tied Less s e = absurd cc
second_tied Equal s e = e
second_tied Greater s e = absurd cc

module _ (IsMet : Size → Type 0) (MayRate : Size → ℕ → Type 0) (f : IsFunction (λ size answer. IsMet size × MayRate size answer)) where
  one_rate : (size : Option Size) (a b : ℕ) → IfSome size IsMet → IsSomeAnd size (λ s. MayRate s a) → IsSomeAnd size (λ s. MayRate s b) → a ≡ b
  one_rate None a b u h k = absurd h
  one_rate (Some s) a b u h k = f.only s a (u, h) ∙ sym (f.only s b (u, k))

  -- equal ids with the same sizes have one key
  one_group_key : {Id : Type 0} {cmp : Id → Id → Ordering} → IsTotalOrder cmp → (sizes1 sizes2 : List (Id × Size)) (ids1 ids2 : List Id) (a b : ℕ)
      → All IsMet (values_of sizes1)
      → AreMapsAlike cmp (λ x y. x ≡ y) sizes1 sizes2 → AllZip (λ x y. cmp x y ≡ Equal) ids1 ids2 → IsGroupKey MayRate cmp sizes1 ids1 a
      → IsGroupKey MayRate cmp sizes2 ids2 b → a ≡ b
  one_group_key {Id} {cmp} o sizes1 sizes2 ids1 ids2 a b u alike ids (r, h, e) (s, k, i) =
      let P : Id → ℕ → Type 0 = λ id rate. IsSomeAnd (lookup (is_at (cmp id)) sizes1) (λ size. MayRate size rate) in
      let Q : Id → ℕ → Type 0 = λ id rate. IsSomeAnd (lookup (is_at (cmp id)) sizes2) (λ size. MayRate size rate) in
      let same : r ≡ s = sym (each_same r s (AllZip-join (λ x y. cmp x y ≡ Equal) P Q (λ x y. y ≡ x)
      (λ id other x y t m n. sym (one_rate (lookup (is_at (cmp id)) sizes1) x y (IfSome-lookup_from_All IsMet (is_at (cmp id)) sizes1 u) m
      (rw (lookup-same o id other t sizes1 sizes2 alike) n))) ids1 ids2 r s ids h k)) in
      e ∙ ap (λ (xs : List ℕ). saturated (sum xs)) same ∙ sym i

  -- two orders of the same groups name equal groups, one by one
  pub one_group_order : {Id K : Type 0} (group_cmp : K → K → Ordering) (cmp : Id → Id → Ordering) → IsTotalOrder group_cmp → IsTotalOrder cmp
      → (sizes1 sizes2 : List (Id × Size)) (groups1 groups2 : List (K × List Id)) (o1 o2 : List (ℕ × K)) → All IsMet (values_of sizes1)
      → AreMapsAlike cmp (λ x y. x ≡ y) sizes1 sizes2 → AreMapsAlike group_cmp (λ x y. AllZip (λ i j. cmp i j ≡ Equal) x y) groups1 groups2
      → IsGroupOrder MayRate group_cmp cmp sizes1 groups1 o1 → IsGroupOrder MayRate group_cmp cmp sizes2 groups2 o2
      → AllZip (λ a b. group_cmp a.1 b.1 ≡ Equal) o1 o2
  one_group_order {Id} {K} group_cmp cmp total id_total sizes1 sizes2 groups1 groups2 o1 o2 u sizes groups p q =
      let R : ℕ × K → ℕ × K → Ordering = falling_then group_cmp in
      let E : K × List Id → K × List Id → Type 0 = λ g h. (group_cmp g.0 h.0 ≡ Equal) × AllZip (λ i j. cmp i j ≡ Equal) g.1 h.1 in
      let P : K × List Id → ℕ × K → Type 0 = λ group entry. (entry.1 ≡ group.0) × IsGroupKey MayRate cmp sizes1 group.1 entry.0 in
      let Q : K × List Id → ℕ × K → Type 0 = λ group entry. (entry.1 ≡ group.0) × IsGroupKey MayRate cmp sizes2 group.1 entry.0 in
      let begin : AllZip (λ a b. R a b ≡ Equal) p.unsorted q.unsorted = AllZip-join E P Q (λ a b. R a b ≡ Equal)
      (λ g h a b t m n. alike_entries g h a b t m n) groups1 groups2 p.unsorted q.unsorted groups p.each q.each in
      AllZip-weaker (λ a b. R a b ≡ Equal) (λ a b. group_cmp a.1 b.1 ≡ Equal) (λ a b e. second_tied (nat_cmp b.0 a.0) (group_cmp a.1 b.1) e) o1 o2
      (alike_sorted R (falling_total total) p.unsorted q.unsorted o1 o2 begin p.permutation q.permutation p.falling q.falling)
    where
      alike_entries : (g h : K × List Id) (a b : ℕ × K) → (group_cmp g.0 h.0 ≡ Equal) × AllZip (λ i j. cmp i j ≡ Equal) g.1 h.1
          → (a.1 ≡ g.0) × IsGroupKey MayRate cmp sizes1 g.1 a.0 → (b.1 ≡ h.0) × IsGroupKey MayRate cmp sizes2 h.1 b.0 → falling_then group_cmp a b ≡ Equal
      alike_entries g h a b t m n =
          let keys : a.0 ≡ b.0 = one_group_key id_total sizes1 sizes2 g.1 h.1 a.0 b.0 u sizes t.1 m.1 n.1 in
          rw (keys, m.0, n.0, tied_itself nat_cmp_total b.0, t.0) refl

  -- and two orders of the same bins name equal bins
  pub one_bin_order : {B : Type 0} (cmp : B → B → Ordering) → IsTotalOrder cmp → (bins1 bins2 : List (B × Bin)) (o1 o2 : List (ℕ × B))
      → All (λ (x : B × Bin). IsMet x.1.size) bins1 → AreBinsAlike cmp bins1 bins2 → IsBinOrder MayRate cmp bins1 o1 → IsBinOrder MayRate cmp bins2 o2
      → AllZip (λ a b. cmp a b ≡ Equal) (map (λ o. o.1) o1) (map (λ o. o.1) o2)
  one_bin_order {B} cmp total bins1 bins2 o1 o2 u alike p q =
      let R : ℕ × B → ℕ × B → Ordering = rising_then cmp in
      let E : B × Bin → B × Bin → Type 0 = λ x y. (cmp x.0 y.0 ≡ Equal) × AreSameBins x.1 y.1 in
      let P : B × Bin → ℕ × B → Type 0 = λ bin entry. (cmp bin.0 entry.1 ≡ Equal) × MayRate bin.1.size entry.0 in
      let S : B × Bin → ℕ × B → Type 0 = λ bin entry. IsMet bin.1.size × P bin entry in
      let begin : AllZip (λ a b. R a b ≡ Equal) p.unsorted q.unsorted = AllZip-join E S P (λ a b. R a b ≡ Equal)
      (λ x y a b t h k. alike_entries x y a b h.0 t h.1 k) bins1 bins2 p.unsorted q.unsorted alike
      (AllZip-beside (λ (x : B × Bin). IsMet x.1.size) P bins1 p.unsorted u p.each) q.each in
      AllZip-mapped (λ a b. R a b ≡ Equal) (λ a b. cmp a b ≡ Equal) (λ o. o.1) (λ o. o.1) (λ a b e. second_tied (nat_cmp a.0 b.0) (cmp a.1 b.1) e) o1 o2
      (alike_sorted R (rising_total total) p.unsorted q.unsorted o1 o2 begin p.permutation q.permutation p.rising q.rising)
    where
      alike_entries : (x y : B × Bin) (a b : ℕ × B) → IsMet x.1.size → (cmp x.0 y.0 ≡ Equal) × AreSameBins x.1 y.1
          → (cmp x.0 a.1 ≡ Equal) × MayRate x.1.size a.0 → (cmp y.0 b.1 ≡ Equal) × MayRate y.1.size b.0 → rising_then cmp a b ≡ Equal
      alike_entries x y a b met t h k =
          let other : MayRate x.1.size b.0 = subst (λ (size : Size). MayRate size b.0) (sym t.1.size) k.1 in
          let keys : a.0 ≡ b.0 = f.only x.1.size a.0 (met, h.1) ∙ sym (f.only x.1.size b.0 (met, other)) in
          let names : cmp a.1 b.1 ≡ Equal = same_keys total x.0 y.0 a.1 b.1 t.0 h.0 k.0 in
          rw (keys, tied_itself nat_cmp_total b.0, names) refl
