-- Where the closures decide a packing, what fits has one result: equal groups are left, and the others are placed alike.
use Rattle.rectangle_pack_sections.proofs.Std.{◌≡◌, ℕ, Bool, ◌<◌, List, [], ◌∷◌, arith, length, map, inl, inr, All, AllZip}
use Rattle.rectangle_pack_sections.proofs.Std.{Ordering, Equal, IsTotalOrder, values_of, All-head, All-tail}
use Rattle.rectangle_pack_sections.specs.declared.group.Group.{Group}
use Rattle.rectangle_pack_sections.specs.Alike.{AreCollectionsAlike}
use Rattle.rectangle_pack_sections.specs.Bins.{Bin}
use Rattle.rectangle_pack_sections.specs.Boxes.{Size}
use Rattle.rectangle_pack_sections.specs.Groups.{Collection}
use Rattle.rectangle_pack_packing.specs.declared.answer.Placement.{Placement}
use Rattle.rectangle_pack_packing.specs.Fitting.{AreTaken, PackingFits}
use Rattle.rectangle_pack_packing.specs.FittingLaws.{HaveOneFit}
use Rattle.rectangle_pack_packing.specs.Packing.{Rules, Members, Stage, at_start, excludes_by}
use Rattle.rectangle_pack_packing.specs.Results.{MayBeRated, ClosuresDecide, AreBinsAlike, ArePlacementsAlike}
use Rattle.rectangle_pack_sections.proofs.lemmas.util.Zips.{AllZip-append}
use Rattle.rectangle_pack_packing.proofs.lemmas.determinism.OneOrder.{one_group_order, one_bin_order}
use Rattle.rectangle_pack_packing.proofs.lemmas.determinism.OnePacking.{AreGroupsAlike, AreAmong, AreHomesAlike, AreStagesAlike, BarAlike, MayBeCutIn}
use Rattle.rectangle_pack_packing.proofs.lemmas.determinism.OnePacking.{one_groups, placed_met, one_placed, not_placed_and_refused, not_refused_and_placed}
use Rattle.rectangle_pack_packing.proofs.lemmas.determinism.OnePacking.{named_among, boxes_rated, bins_rated, bins_met, bar_alike}

-- two runs are alike: so are the bins at their ends, the placements, and the groups that are left
pub record AreFitsAlike {Id B K : Type 0} (group_cmp : K → K → Ordering) (cmp : Id → Id → Ordering) (bin_cmp : B → B → Ordering)
    (m n : List (B × Bin)) (ps qs : List (Placement Id B)) (left1 left2 : List K) : Type 0 where
  pub bins : AreBinsAlike bin_cmp m n
  pub placements : ArePlacementsAlike cmp bin_cmp ps qs
  pub left : AllZip (λ x y. group_cmp x y ≡ Equal) left1 left2

module _ {Id B : Type 0} (rules : Rules Id B) (boxes : List Size) (bins : List Bin)
    (decide : ClosuresDecide boxes bins rules.may) (id_total : IsTotalOrder rules.id_cmp) (bin_total : IsTotalOrder rules.bin_cmp)
    {K : Type 0} (group_cmp : K → K → Ordering) (bars1 bars2 : List (K × B) → K → B → Bool)
    (bar : (homes1 homes2 : List (K × B)) (g h : K) → AreHomesAlike group_cmp rules.bin_cmp homes1 homes2 → group_cmp g h ≡ Equal
    → BarAlike rules.bin_cmp (bars1 homes1 g) (bars2 homes2 h)) (order1 order2 : List B) where
  abbrev Alike : Stage K B → Stage K B → List (Placement Id B) → List (Placement Id B) → List K → List K → Type 0
  Alike m n ps qs left1 left2 = AreFitsAlike group_cmp rules.id_cmp rules.bin_cmp m.bins n.bins ps qs left1 left2

  -- two runs over groups that are alike place and leave the same
  one_taken : (g1 g2 : List (K × Members Id)) (s t m n : Stage K B) (ps qs : List (Placement Id B)) (left1 left2 : List K) (i j : ℕ)
      → All (MayBeCutIn bins) (values_of s.bins) → All (AreAmong boxes) g1
      → (0 < length g1 → 0 < length g2 → AllZip (λ a b. rules.bin_cmp a b ≡ Equal) order1 order2) → AreStagesAlike group_cmp rules.bin_cmp s t
      → AllZip (AreGroupsAlike group_cmp rules.id_cmp) g1 g2
      → AreTaken rules bars1 order1 g1 s ps left1 m i → AreTaken rules bars2 order2 g2 t qs left2 n j → Alike m n ps qs left1 left2
  one_taken [] [] s t m n ps qs left1 left2 i j u among order alike groups p q =
      record { bins = rw (p.2, q.2) alike.bins; placements = rw (p.0, q.0) tt; left = rw (p.1, q.1) tt }
  one_taken [] (b ∷ g2) s t m n ps qs left1 left2 i j u among order alike groups p q = absurd groups
  one_taken (a ∷ g1) [] s t m n ps qs left1 left2 i j u among order alike groups p q = absurd groups
  one_taken (a ∷ g1) (b ∷ g2) s t m n ps qs left1 left2 i j u among order alike groups
      (inl (first1, next1, i1, later1, i2, p, rest1, e1, c1)) (inl (first2, next2, j1, later2, j2, q, rest2, e2, c2)) =
      let bins_alike = order (omega arith) (omega arith) in
      let one = one_placed rules boxes bins decide id_total bin_total group_cmp bars1 bars2 bar order1 order2 a b s t bins_alike groups.0 alike u
      (All-head (AreAmong boxes) a g1 among) first1 first2 next1 next2 i1 j1 p q in
      let others = one_taken g1 g2 _ _ m n later1 later2 left1 left2 i2 j2
      (placed_met rules boxes bins decide id_total bin_total (bars1 s.homes a.0) order1 a.1 s.bins next1 first1 i1 p u)
      (All-tail (AreAmong boxes) a g1 among) (λ some more. bins_alike) one.0 groups.1 rest1 rest2 in
      record {
        bins = others.bins;
        placements = rw (e1, e2) (AllZip-append _ first1 first2 later1 later2 one.1 others.placements);
        left = others.left;
      }
  one_taken (a ∷ g1) (b ∷ g2) s t m n ps qs left1 left2 i j u among order alike groups
      (inl (first1, next1, i1, later1, i2, p, rest1, e1, c1)) (inr (j1, names2, j2, r, rest2, e2, c2)) =
      absurd (not_placed_and_refused rules boxes bins decide id_total bin_total group_cmp bars1 bars2 bar order1 order2 a b s t
      (order (omega arith) (omega arith)) groups.0 alike u (All-head (AreAmong boxes) a g1 among) first1 next1 i1 j1 p r)
  one_taken (a ∷ g1) (b ∷ g2) s t m n ps qs left1 left2 i j u among order alike groups
      (inr (i1, names1, i2, r, rest1, e1, c1)) (inl (first2, next2, j1, later2, j2, q, rest2, e2, c2)) =
      absurd (not_refused_and_placed rules boxes bins decide id_total bin_total group_cmp bars1 bars2 bar order1 order2 a b s t
      (order (omega arith) (omega arith)) groups.0 alike u (All-head (AreAmong boxes) a g1 among) first2 next2 i1 j1 r q)
  one_taken (a ∷ g1) (b ∷ g2) s t m n ps qs left1 left2 i j u among order alike groups
      (inr (i1, names1, i2, r1, rest1, e1, c1)) (inr (j1, names2, j2, r2, rest2, e2, c2)) =
      let bins_alike = order (omega arith) (omega arith) in
      let others = one_taken g1 g2 s t m n ps qs names1 names2 i2 j2 u (All-tail (AreAmong boxes) a g1 among) (λ some more. bins_alike) alike groups.1
      rest1 rest2 in
      record { bins = others.bins; placements = others.placements; left = rw (e1, e2) (groups.0.name, others.left) }

-- so what fits of inputs that are alike is alike
pub one_fitting : {Id B G : Type 0} (group_cmp : Group G Id → Group G Id → Ordering) (rules : Rules Id B)
    → IsTotalOrder group_cmp → IsTotalOrder rules.id_cmp → IsTotalOrder rules.bin_cmp → (all1 all2 : Collection Id G) (old1 old2 : List (B × Bin))
    → AreCollectionsAlike group_cmp rules.id_cmp all1 all2 → AreBinsAlike rules.bin_cmp old1 old2
    → ClosuresDecide (values_of all1.sizes) (values_of old1) rules.may
    → (ps qs : List (Placement Id B)) (left1 left2 : List (Group G Id)) (m n : List (B × Bin))
    → PackingFits group_cmp rules all1 old1 ps left1 m → PackingFits group_cmp rules all2 old2 qs left2 n
    → AreFitsAlike group_cmp rules.id_cmp rules.bin_cmp m n ps qs left1 left2
one_fitting group_cmp rules group_total id_total bin_total all1 all2 old1 old2 all old decide ps qs left1 left2 m n p q =
    let boxes = values_of all1.sizes in
    let bins = values_of old1 in
    let order = one_group_order (MayBeRated boxes bins) rules.may.rate decide.rates group_cmp rules.id_cmp group_total id_total all1.sizes all2.sizes
    all1.groups all2.groups p.group_order q.group_order (boxes_rated boxes bins) all.sizes all.groups p.by_groups q.by_groups in
    one_taken rules boxes bins decide id_total bin_total group_cmp (excludes_by group_cmp rules.bin_cmp all1.partners)
    (excludes_by group_cmp rules.bin_cmp all2.partners)
    (bar_alike group_cmp rules group_total id_total bin_total all1 all2 old1 old2 all old decide)
    (map (λ o. o.1) p.bin_order) (map (λ o. o.1) q.bin_order) p.groups q.groups (at_start old1) (at_start old2) _ _ ps qs left1 left2 p.tests q.tests
    (bins_met bins) (named_among group_cmp rules.id_cmp all1.sizes all1.groups p.group_order p.groups p.listed)
    (λ some more. one_bin_order (MayBeRated boxes bins) rules.may.rate decide.rates rules.bin_cmp bin_total old1 old2 p.bin_order q.bin_order
    (bins_rated boxes old1) old (p.by_bins some) (q.by_bins more))
    (record { bins = old; homes = tt })
    (one_groups group_cmp rules.id_cmp group_total id_total all1.sizes all2.sizes all.sizes all1.groups all2.groups all.groups p.group_order q.group_order
    p.groups q.groups order p.listed q.listed)
    p.taken q.taken

pub one_fit : {Id B G : Type 0} (group_cmp : Group G Id → Group G Id → Ordering) (rules : Rules Id B)
    → IsTotalOrder group_cmp → IsTotalOrder rules.id_cmp → IsTotalOrder rules.bin_cmp → (all other : Collection Id G) (old others : List (B × Bin))
    → AreCollectionsAlike group_cmp rules.id_cmp all other → AreBinsAlike rules.bin_cmp old others
    → ClosuresDecide (values_of all.sizes) (values_of old) rules.may → HaveOneFit group_cmp rules all other old others
one_fit group_cmp rules group_total total bin_total all other old others alike bins decide = record {
  alike = λ ps qs left other_left m n p q.
      let one = one_fitting group_cmp rules group_total total bin_total all other old others alike bins decide ps qs left other_left m n p q in
      (one.bins, one.placements, one.left);
}
