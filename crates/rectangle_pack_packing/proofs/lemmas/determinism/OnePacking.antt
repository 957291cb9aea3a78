-- Where the closures are functions and the comparison is a total preorder on the cuts, a packing has one result.
use Rattle.rectangle_pack_sections.proofs.Std.{◌≡◌, ℕ, Bool, true, false, ◌<◌, List, [], ◌∷◌, ◌++◌, refl, sym, ◌∙◌, ap, subst, arith, length, length-map}
use Rattle.rectangle_pack_sections.proofs.Std.{get_or, get_or-map, append-nil, inl, inr, All, Contains, map, Option, Some, None, IfSome, IsSomeAnd, MatchBool}
use Rattle.rectangle_pack_sections.proofs.Std.{AllZip, each_same, Ordering, Equal, IsTotalOrder, lookup, values_of, is_at, All-head, All-tail, All-weaker}
use Rattle.rectangle_pack_sections.proofs.Std.{All-contains_itself, All-values-set_value, IfSome-lookup_from_All}
use Rattle.rectangle_pack_sections.specs.declared.group.Group.{Group}
use Rattle.rectangle_pack_packing.specs.declared.answer.Placement.{Placement}
use Rattle.rectangle_pack_sections.specs.Boxes.{Size, Cuboid}
use Rattle.rectangle_pack_sections.specs.Bins.{Bin}
use Rattle.rectangle_pack_sections.specs.Exclusions.{are_excluded}
use Rattle.rectangle_pack_sections.specs.Groups.{Collection}
use Rattle.rectangle_pack_packing.specs.Orders.{IsGroupOrder, IsBinOrder}
use Rattle.rectangle_pack_lists.specs.Steps.{IsDone, IsStuck}
use Rattle.rectangle_pack_packing.specs.Packing.{Rules, Members, Stage, at_start, excludes_by, IsStuckIn, DoesNotTake, IsPlaced, IsRefused, AreAllPlaced}
use Rattle.rectangle_pack_packing.specs.Packing.{AreGroups, PackingDone, PackingRefused}
use Rattle.rectangle_pack_packing.specs.Results.{MayBeCut, MayBeRated, ClosuresDecide, AreSameBins, AreBinsAlike, ArePlacementsAlike, HaveOneResult}
use Rattle.rectangle_pack_sections.specs.Alike.{AreMapsAlike, AreCollectionsAlike}
use Rattle.rectangle_pack_sections.proofs.lemmas.util.Lists.{All-middle}
use Rattle.rectangle_pack_sections.proofs.lemmas.groups.Excluded.{is_at-equal, excluded-alike}
use Rattle.rectangle_pack_sections.proofs.lemmas.cuts.Axes.{IsPartOf-refl}
use Rattle.rectangle_pack_sections.proofs.lemmas.groups.Alike.{AreOptionsAlike, found-alike, lookup-alike, lookup-same, set_value-alike}
use Rattle.rectangle_pack_sections.proofs.lemmas.util.Maps.{is_at-back, same_keys}
use Rattle.rectangle_pack_lists.proofs.lemmas.trial.Steps.{IsDone-keeps}
use Rattle.rectangle_pack_packing.proofs.lemmas.determinism.OneTrial.{split_first, one_trial, not_done_and_stuck, MayBeCut-part}
use Rattle.rectangle_pack_sections.proofs.lemmas.util.Zips.{All-from_zip, All-alike, values_alike, AllZip-along, AllZip-append, AllZip-join}
use Rattle.rectangle_pack_packing.proofs.lemmas.determinism.OneOrder.{one_group_order, one_bin_order}

-- equal ids with the same sizes, under names that are equal
pub record AreGroupsAlike {Id K : Type 0} (group_cmp : K → K → Ordering) (cmp : Id → Id → Ordering) (g h : K × Members Id) : Type 0 where
  pub name : group_cmp g.0 h.0 ≡ Equal
  pub ids : AllZip (λ x y. cmp x y ≡ Equal) g.1.ids h.1.ids
  pub sizes : g.1.sizes ≡ h.1.sizes

module _ {Id K : Type 0} (group_cmp : K → K → Ordering) (cmp : Id → Id → Ordering) (group_total : IsTotalOrder group_cmp) (total : IsTotalOrder cmp)
    (sizes1 sizes2 : List (Id × Size)) (sizes : AreMapsAlike cmp (λ x y. x ≡ y) sizes1 sizes2)
    (lists1 lists2 : List (K × List Id)) (lists : AreMapsAlike group_cmp (λ x y. AllZip (λ i j. cmp i j ≡ Equal) x y) lists1 lists2) where
  one_sizes : (ids1 ids2 : List Id) (xs ys : List Size) → AllZip (λ x y. cmp x y ≡ Equal) ids1 ids2
      → AllZip (λ id size. lookup (is_at (cmp id)) sizes1 ≡ Some size) ids1 xs
      → AllZip (λ id size. lookup (is_at (cmp id)) sizes2 ≡ Some size) ids2 ys → xs ≡ ys
  one_sizes ids1 ids2 xs ys alike h k =
      let P : Id → Size → Type 0 = λ id size. lookup (is_at (cmp id)) sizes1 ≡ Some size in
      let Q : Id → Size → Type 0 = λ id size. lookup (is_at (cmp id)) sizes2 ≡ Some size in
      sym (each_same xs ys (AllZip-join (λ x y. cmp x y ≡ Equal) P Q (λ x y. y ≡ x)
      (λ i j x y t e g. let s : Some x ≡ Some y = sym e ∙ lookup-same total i j t sizes1 sizes2 sizes ∙ g in cc) ids1 ids2 xs ys alike h k))

  -- an entry of an order names the group
  abbrev Names : List (Id × Size) → List (K × List Id) → ℕ × K → K × Members Id → Type 0
  Names sizes lists entry group = (group.0 ≡ entry.1) × (lookup (is_at (group_cmp entry.1)) lists ≡ Some group.1.ids)
      × AllZip (λ id size. lookup (is_at (cmp id)) sizes ≡ Some size) group.1.ids group.1.sizes

  -- orders that are alike name groups that are alike
  pub one_groups : (order1 order2 : List (ℕ × K)) (g1 g2 : List (K × Members Id)) → AllZip (λ a b. group_cmp a.1 b.1 ≡ Equal) order1 order2
      → AreGroups cmp group_cmp sizes1 lists1 order1 g1 → AreGroups cmp group_cmp sizes2 lists2 order2 g2 → AllZip (AreGroupsAlike group_cmp cmp) g1 g2
  one_groups order1 order2 g1 g2 h p q =
      let Alike : List Id → List Id → Type 0 = λ u v. AllZip (λ i j. cmp i j ≡ Equal) u v in
      AllZip-join (λ (x : ℕ × K) (y : ℕ × K). group_cmp x.1 y.1 ≡ Equal) (Names sizes1 lists1) (Names sizes2 lists2) (AreGroupsAlike group_cmp cmp)
      (λ x y a b same k l.
      let ids : Alike a.1.ids b.1.ids = rw (k.1, l.1) at (lookup-alike group_total Alike x.1 y.1 same lists1 lists2 lists) in
      record { name = rw (k.0, l.0) same; ids = ids; sizes = one_sizes a.1.ids b.1.ids a.1.sizes b.1.sizes ids k.2 l.2 })
      order1 order2 g1 g2 h p.each q.each

-- a list that is split, and one alike: the other is split alike
pub record SplitAlike {X : Type 0} (R : X → X → Type 0) (before : List X) (here : X) (after ys : List X) : Type 0 where
  pub front : List X
  pub at : X
  pub back : List X
  pub splits : ys ≡ front ++ at ∷ back
  pub before_alike : AllZip R before front
  pub alike : R here at
  pub after_alike : AllZip R after back

pub split_alike : {X : Type 0} (R : X → X → Type 0) (before : List X) (here : X) (after ys : List X) → AllZip R (before ++ here ∷ after) ys
    → SplitAlike R before here after ys
split_alike R [] here after (y ∷ ys) h = record { front = []; at = y; back = ys; splits = refl; before_alike = tt; alike = h.0; after_alike = h.1 }
split_alike R (x ∷ before) here after (y ∷ ys) h =
    let s = split_alike R before here after ys h.1 in
    record {
      front = y ∷ s.front;
      at = s.at;
      back = s.back;
      splits = ap (λ zs. y ∷ zs) s.splits;
      before_alike = (h.0, s.before_alike);
      alike = s.alike;
      after_alike = s.after_alike;
    }
split_alike R before here after ys h = absurd h

-- the sections of a bin may be cut up
abbrev pub MayBeCutIn : List Bin → Bin → Type 0
MayBeCutIn bins bin = All (MayBeCut bins) bin.sections

-- the sections of a bin that a look-up finds may be cut up
pub found_met : {B : Type 0} (bin_cmp : B → B → Ordering) (bins : List Bin) (old : List (B × Bin)) (id : B) (bin : Bin) → lookup (is_at (bin_cmp id)) old ≡ Some bin
    → All (MayBeCutIn bins) (values_of old) → MayBeCutIn bins bin
found_met bin_cmp bins old id bin found all = subst (λ (x : Option Bin). IfSome x (MayBeCutIn bins)) found
    (IfSome-lookup_from_All (MayBeCutIn bins) (is_at (bin_cmp id)) old all)

-- the members' sizes are among those of the boxes
abbrev pub AreAmong : {Id K : Type 0} → List Size → K × Members Id → Type 0
AreAmong boxes g = All (Contains boxes) g.1.sizes

-- equal groups in equal bins
abbrev pub AreHomesAlike : {K B : Type 0} → (K → K → Ordering) → (B → B → Ordering) → List (K × B) → List (K × B) → Type 0
AreHomesAlike group_cmp bin_cmp xs ys = AreMapsAlike group_cmp (λ a b. bin_cmp a b ≡ Equal) xs ys

-- how far two packings are is alike
pub record AreStagesAlike {K B : Type 0} (group_cmp : K → K → Ordering) (bin_cmp : B → B → Ordering) (one two : Stage K B) : Type 0 where
  pub bins : AreBinsAlike bin_cmp one.bins two.bins
  pub homes : AreHomesAlike group_cmp bin_cmp one.homes two.homes

-- equal bins are excluded alike
abbrev pub BarAlike : {B : Type 0} → (B → B → Ordering) → (B → Bool) → (B → Bool) → Type 0
BarAlike {B} bin_cmp excluded1 excluded2 = (a b : B) → bin_cmp a b ≡ Equal → excluded1 a ≡ excluded2 b

-- a packing stops behind the last group, or at a group that is refused
abbrev Stops : {Id B K : Type 0} → Rules Id B → (List (K × B) → K → B → Bool) → List B → Stage K B → List (K × Members Id) → Type 0
Stops rules bars order s [] = Unit {0}
Stops rules bars order s (g ∷ gs) = (n : ℕ) × IsRefused rules (bars s.homes g.0) order g.1 s.bins n

module _ {Id B : Type 0} (rules : Rules Id B) (boxes : List Size) (bins : List Bin)
    (decide : ClosuresDecide boxes bins rules.may) (id_total : IsTotalOrder rules.id_cmp) (bin_total : IsTotalOrder rules.bin_cmp) where
  abbrev Equals : B → B → Type 0
  Equals a b = rules.bin_cmp a b ≡ Equal

  -- placements of equal ids at the same locations, all in equal bins, are alike
  pub named_once : (here other : B) (ps qs : List (Placement Id B)) → Equals here other → AllZip (λ p q. rules.id_cmp p.id q.id ≡ Equal) ps qs
      → All (λ p. Equals here p.bin) ps → All (λ q. Equals other q.bin) qs → map (λ p. p.location) ps ≡ map (λ q. q.location) qs
      → ArePlacementsAlike rules.id_cmp rules.bin_cmp ps qs
  named_once here other [] [] e ids h k at = tt
  named_once here other (p ∷ ps) (q ∷ qs) e ids h k at = (
    (
      ids.0,
      same_keys bin_total here other p.bin q.bin e (All-head (λ p. Equals here p.bin) p ps h) (All-head (λ q. Equals other q.bin) q qs k),
      cc,
    ),
    named_once here other ps qs e ids.1 (All-tail (λ p. Equals here p.bin) p ps h) (All-tail (λ q. Equals other q.bin) q qs k) (cc),
  )
  named_once here other ps qs e ids h k at = absurd ids

  -- what is left of sections that may be cut may be cut
  pub placed_met : (excluded : B → Bool) (order : List B) (g : Members Id) (old m : List (B × Bin)) (ps : List (Placement Id B)) (n : ℕ)
      → IsPlaced rules excluded order g old ps m n → All (MayBeCutIn bins) (values_of old) → All (MayBeCutIn bins) (values_of m)
  placed_met excluded order g old m ps n p u =
      subst (λ (es : List (B × Bin)). All (MayBeCutIn bins) (values_of es)) (sym p.new_is)
      (All-values-set_value (is_at (rules.bin_cmp p.here)) (MayBeCutIn bins) old (record p.bin { sections = p.last }) u
      (IsDone-keeps rules.may (MayBeCut bins) p.bin.sections g.sizes p.locations p.last p.count (MayBeCut-part bins) p.done
      (found_met rules.bin_cmp bins old p.here p.bin p.found u)))

  module _ (excluded : B → Bool) (g : Members Id) (old : List (B × Bin)) where
    -- the bin is passed over
    abbrev Passes : B → Type 0
    Passes id = (n : ℕ) × DoesNotTake rules excluded old g id n

    all_pass : (order : List B) (counts : List ℕ) → AllZip (DoesNotTake rules excluded old g) order counts → All Passes order
    all_pass order counts h = All-from_zip (DoesNotTake rules excluded old g) Passes (λ id n p. (n, p)) order counts h

    -- a bin in which the group's trial is done is not passed over
    not_passed : (here : B) (bin : Bin) (ls last : List Cuboid) (n : ℕ) → All (MayBeCutIn bins) (values_of old) → All (Contains boxes) g.sizes
        → excluded here ≡ false → lookup (is_at (rules.bin_cmp here)) old ≡ Some bin → IsDone rules.may bin.sections g.sizes ls last n → ¬ Passes here
    not_passed here bin ls last n u among allowed found done (m, passed) =
        let stuck : IsStuckIn rules old g here m = subst (λ (b : Bool). MatchBool b (m ≡ 0) (IsStuckIn rules old g here m)) allowed passed in
        not_done_and_stuck boxes bins rules.may decide bin.sections g.sizes ls last n m (found_met rules.bin_cmp bins old here bin found u) among done
        (subst (λ (x : Option Bin). IsSomeAnd x (λ (b : Bin). IsStuck rules.may b.sections g.sizes m)) found stuck)

  module _ {K : Type 0} (group_cmp : K → K → Ordering) (bars1 bars2 : List (K × B) → K → B → Bool)
      (bar : (homes1 homes2 : List (K × B)) (g h : K) → AreHomesAlike group_cmp rules.bin_cmp homes1 homes2 → group_cmp g h ≡ Equal
      → BarAlike rules.bin_cmp (bars1 homes1 g) (bars2 homes2 h)) (order1 order2 : List B) where
    -- one group in two packings that are alike so far
    module _ (g h : K × Members Id) (s t : Stage K B) (order : AllZip Equals order1 order2) (groups : AreGroupsAlike group_cmp rules.id_cmp g h)
        (alike : AreStagesAlike group_cmp rules.bin_cmp s t) (u : All (MayBeCutIn bins) (values_of s.bins)) (among : AreAmong boxes g) where
      abbrev bar1 : B → Bool
      bar1 = bars1 s.homes g.0

      abbrev bar2 : B → Bool
      bar2 = bars2 t.homes h.0

      bars : BarAlike rules.bin_cmp bar1 bar2
      bars = bar s.homes t.homes g.0 h.0 alike.homes groups.name

      found : (a b : B) → Equals a b → AreOptionsAlike AreSameBins (lookup (is_at (rules.bin_cmp a)) s.bins) (lookup (is_at (rules.bin_cmp b)) t.bins)
      found a b e = lookup-alike bin_total AreSameBins a b e s.bins t.bins alike.bins

      met : All (MayBeCutIn bins) (values_of t.bins)
      met = All-alike AreSameBins (MayBeCutIn bins) (MayBeCutIn bins) (λ x y same k. subst (All (MayBeCut bins)) same.sections k) (values_of s.bins)
          (values_of t.bins) (values_alike rules.bin_cmp AreSameBins s.bins t.bins alike.bins) u

      sized : AreAmong boxes h
      sized = subst (All (Contains boxes)) groups.sizes among

      -- equal bins are passed over alike
      passed_alike : (a b : B) (n : ℕ) → Equals a b → DoesNotTake rules bar1 s.bins g.1 a n → DoesNotTake rules bar2 t.bins h.1 b n
      passed_alike a b n e = rw (bars a b e, groups.sizes) (by (bar2 b) _ _ (found a b e))
        where
          by : (excluded : Bool) (x y : Option Bin) → AreOptionsAlike AreSameBins x y
              → MatchBool excluded (n ≡ 0) (IsSomeAnd x (λ (bin : Bin). IsStuck rules.may bin.sections h.1.sizes n))
              → MatchBool excluded (n ≡ 0) (IsSomeAnd y (λ (bin : Bin). IsStuck rules.may bin.sections h.1.sizes n))
          by true x y same k = k
          by false None y same k = absurd k
          by false (Some x) None same k = absurd same
          by false (Some x) (Some y) same k = subst (λ (sections : List Cuboid). IsStuck rules.may sections h.1.sizes n) same.sections k

      all_passed : (xs ys : List B) (counts : List ℕ) → AllZip Equals xs ys → AllZip (DoesNotTake rules bar1 s.bins g.1) xs counts
          → All (Passes bar2 h.1 t.bins) ys
      all_passed xs ys counts e passed = all_pass bar2 h.1 t.bins ys counts (AllZip-along Equals (DoesNotTake rules bar1 s.bins g.1)
          (DoesNotTake rules bar2 t.bins h.1) (λ a b n e p. passed_alike a b n e p) xs ys counts e passed)

      -- a bin that equals the group's in the first packing is not passed over in the second
      placed_there : {ps : List (Placement Id B)} {m : List (B × Bin)} {i : ℕ} → (p : IsPlaced rules bar1 order1 g.1 s.bins ps m i) → (b : B)
          → Equals p.here b → ¬ Passes bar2 h.1 t.bins b
      placed_there p b e =
          let (bin, at, same) = found-alike AreSameBins p.bin _ _ p.found (found p.here b e) in
          not_passed bar2 h.1 t.bins b bin p.locations p.last p.count met sized (sym (bars p.here b e) ∙ p.allowed) at
          (rw (groups.sizes, same.sections) at p.done)

      placed_here : {qs : List (Placement Id B)} {n : List (B × Bin)} {j : ℕ} → (q : IsPlaced rules bar2 order2 h.1 t.bins qs n j)
          → ¬ Passes bar2 h.1 t.bins q.here
      placed_here q = not_passed bar2 h.1 t.bins q.here q.bin q.locations q.last q.count met sized q.allowed q.found q.done

      order_from : (before : List B) (here : B) (after : List B) → order1 ≡ before ++ here ∷ after → SplitAlike Equals before here after order2
      order_from before here after is = split_alike Equals before here after order2 (subst (λ (xs : List B). AllZip Equals xs order2) is order)

      -- it is placed alike
      pub one_placed : (ps qs : List (Placement Id B)) (m n : List (B × Bin)) (i j : ℕ) → (p : IsPlaced rules bar1 order1 g.1 s.bins ps m i)
          → (q : IsPlaced rules bar2 order2 h.1 t.bins qs n j)
          → AreStagesAlike group_cmp rules.bin_cmp (record { bins = m; homes = (g.0, p.here) ∷ s.homes })
          (record { bins = n; homes = (h.0, q.here) ∷ t.homes }) × ArePlacementsAlike rules.id_cmp rules.bin_cmp ps qs
      one_placed ps qs m n i j p q =
          let there = order_from p.before p.here p.after p.order_is in
          let here : there.at ≡ q.here = split_first (Passes bar2 h.1 t.bins) there.front there.at there.back q.before q.here q.after
          (sym there.splits ∙ q.order_is) (all_passed p.before there.front p.counts there.before_alike p.passed)
          (all_pass bar2 h.1 t.bins q.before q.counts q.passed) (placed_there p there.at there.alike) (placed_here q) in
          let home : Equals p.here q.here = subst (Equals p.here) here there.alike in
          let same : AreSameBins p.bin q.bin = rw (p.found, q.found) at (found p.here q.here home) in
          let trial = one_trial boxes bins rules.may decide p.bin.sections g.1.sizes p.locations q.locations p.last q.last p.count q.count
          (found_met rules.bin_cmp bins s.bins p.here p.bin p.found u) among p.done (rw (same.sections, groups.sizes) q.done) in
          let ids = AllZip-join (λ x y. rules.id_cmp x y ≡ Equal) (λ id p. rules.id_cmp id p.id ≡ Equal) (λ id q. rules.id_cmp id q.id ≡ Equal)
          (λ p q. rules.id_cmp p.id q.id ≡ Equal) (λ x y p q. same_keys id_total x y p.id q.id) g.1.ids h.1.ids ps qs groups.ids p.named.named
          q.named.named in (
            record {
              bins = rw (p.new_is, q.new_is) (set_value-alike bin_total AreSameBins p.here q.here _ _
                  (record { size = same.size; sections = trial.left }) home s.bins t.bins alike.bins);
              homes = ((groups.name, home), alike.homes);
            },
            named_once p.here q.here ps qs home ids p.named.together q.named.together (p.named.at ∙ trial.placed ∙ sym q.named.at),
          )

      -- it is not placed in one packing and refused in the other
      pub not_placed_and_refused : (ps : List (Placement Id B)) (m : List (B × Bin)) (i j : ℕ) → IsPlaced rules bar1 order1 g.1 s.bins ps m i
          → IsRefused rules bar2 order2 h.1 t.bins j → ⊥
      not_placed_and_refused ps m i j p r =
          let there = order_from p.before p.here p.after p.order_is in
          placed_there p there.at there.alike (All-middle (Passes bar2 h.1 t.bins) order2 there.front there.back there.at there.splits
          (all_pass bar2 h.1 t.bins order2 r.counts r.passed))

      pub not_refused_and_placed : (qs : List (Placement Id B)) (n : List (B × Bin)) (i j : ℕ) → IsRefused rules bar1 order1 g.1 s.bins i
          → IsPlaced rules bar2 order2 h.1 t.bins qs n j → ⊥
      not_refused_and_placed qs n i j r q = placed_here q (All-middle (Passes bar2 h.1 t.bins) order2 q.before q.after q.here q.order_is
          (all_passed order1 order2 r.counts order r.passed))

    -- two packings of groups that are alike place equally many groups, and place them alike
    one_run : (b1 b2 l1 l2 : List (K × Members Id)) (s t m n : Stage K B) (ps qs : List (Placement Id B)) (i j : ℕ)
        → All (MayBeCutIn bins) (values_of s.bins) → All (AreAmong boxes) (b1 ++ l1)
        → (0 < length (b1 ++ l1) → 0 < length (b2 ++ l2) → AllZip Equals order1 order2) → AreStagesAlike group_cmp rules.bin_cmp s t
        → AllZip (AreGroupsAlike group_cmp rules.id_cmp) (b1 ++ l1) (b2 ++ l2)
        → AreAllPlaced rules bars1 order1 b1 s ps m i → Stops rules bars1 order1 m l1
        → AreAllPlaced rules bars2 order2 b2 t qs n j → Stops rules bars2 order2 n l2
        → AreBinsAlike rules.bin_cmp m.bins n.bins × ArePlacementsAlike rules.id_cmp rules.bin_cmp ps qs
        × AllZip (AreGroupsAlike group_cmp rules.id_cmp) l1 l2
    one_run [] [] l1 l2 s t m n ps qs i j u among order alike groups p p_stops q q_stops = (rw (p.1, q.1) alike.bins, rw (p.0, q.0) tt, groups)
    one_run [] (b ∷ b2) [] l2 s t m n ps qs i j u among order alike groups p p_stops q q_stops = absurd groups
    one_run [] (b ∷ b2) (g ∷ l1) l2 s t m n ps qs i j u among order alike groups p (i', r) (first, next, one, others, more, q, rest, e, c) q_stops =
        absurd (not_refused_and_placed g b s t (order (omega arith) (omega arith)) groups.0 alike u (All-head (AreAmong boxes) g l1 among) first next i' one
        (rw p.1 at r) q)
    one_run (a ∷ b1) [] l1 [] s t m n ps qs i j u among order alike groups p p_stops q q_stops = absurd groups
    one_run (a ∷ b1) [] l1 (g ∷ l2) s t m n ps qs i j u among order alike groups (first, next, one, others, more, p, rest, e, c) p_stops q (j', r) =
        absurd (not_placed_and_refused a g s t (order (omega arith) (omega arith)) groups.0 alike u (All-head (AreAmong boxes) a (b1 ++ l1) among) first next
        one j' p (rw q.1 at r))
    one_run (a ∷ b1) (b ∷ b2) l1 l2 s t m n ps qs i j u among order alike groups (first1, next1, i1, others1, i2, p, rest1, e1, c1) p_stops
        (first2, next2, j1, others2, j2, q, rest2, e2, c2) q_stops =
        let bins_alike = order (omega arith) (omega arith) in
        let one = one_placed a b s t bins_alike groups.0 alike u (All-head (AreAmong boxes) a (b1 ++ l1) among) first1 first2 next1 next2 i1 j1 p q in
        let others = one_run b1 b2 l1 l2 _ _ m n others1 others2 i2 j2 (placed_met (bars1 s.homes a.0) order1 a.1 s.bins next1 first1 i1 p u)
        (All-tail (AreAmong boxes) a (b1 ++ l1) among) (λ some more. bins_alike) one.0 groups.1 rest1 p_stops rest2 q_stops in
        (others.0, rw (e1, e2) (AllZip-append _ first1 first2 others1 others2 one.1 others.1), others.2)

-- the sizes that look-ups find are among those of the boxes
pub named_among : {Id K : Type 0} (group_cmp : K → K → Ordering) (cmp : Id → Id → Ordering) (sizes : List (Id × Size)) (lists : List (K × List Id))
    (order : List (ℕ × K)) (gs : List (K × Members Id)) → AreGroups cmp group_cmp sizes lists order gs → All (AreAmong (values_of sizes)) gs
named_among {Id} group_cmp cmp sizes lists order gs h =
    All-alike _ (λ _. Unit {0}) (AreAmong (values_of sizes)) (λ entry group named _. each group.1.ids group.1.sizes named.2) order gs h.each (λ k d lt. tt)
  where
    each : (ids : List Id) (xs : List Size) → AllZip (λ id size. lookup (is_at (cmp id)) sizes ≡ Some size) ids xs → All (Contains (values_of sizes)) xs
    each ids xs k = All-alike (λ id size. lookup (is_at (cmp id)) sizes ≡ Some size) (λ _. Unit {0}) (Contains (values_of sizes))
        (λ id size found _. subst (λ (o : Option Size). IfSome o (Contains (values_of sizes))) found
        (IfSome-lookup_from_All (Contains (values_of sizes)) (is_at (cmp id)) sizes (All-contains_itself (values_of sizes)))) ids xs k (λ k d lt. tt)

-- the sizes of the boxes and of the bins may be rated, and the free sections may be cut
pub boxes_rated : (boxes : List Size) (bins : List Bin) → All (MayBeRated boxes bins) boxes
boxes_rated boxes bins = All-weaker (Contains boxes) (MayBeRated boxes bins) (λ size i. inl i) boxes (All-contains_itself boxes)

pub bins_rated : {B : Type 0} (boxes : List Size) (bins : List (B × Bin)) → All (λ (x : B × Bin). MayBeRated boxes (values_of bins) x.1.size) bins
bins_rated {B} boxes bins k d lt =
    inr (k, (get_or bins k d).1, simp length-map lt, get_or-map (λ (x : B × Bin). x.1) bins k d (get_or bins k d).1 lt, inl refl)

pub bins_met : (bins : List Bin) → All (MayBeCutIn bins) bins
bins_met bins =
    All-weaker (Contains bins) (MayBeCutIn bins)
    (λ bin i. All-weaker (Contains bin.sections) (MayBeCut bins)
    (λ s j. (i.0, bin, i.1, i.2, (j.0, s, j.1, j.2, IsPartOf-refl s))) bin.sections (All-contains_itself bin.sections))
    bins (All-contains_itself bins)

-- a packing as far as it goes: `rest` is empty where it is done, and starts with the refused group where it is not
record Run {Id B G : Type 0} (group_cmp : Group G Id → Group G Id → Ordering) (rules : Rules Id B) (all : Collection Id G) (old : List (B × Bin))
    (placements : List (Placement Id B)) (new : List (B × Bin)) (rest : List (Group G Id × Members Id)) : Type 0 where
  pub group_order : List (ℕ × Group G Id)
  pub bin_order : List (ℕ × B)
  pub groups : List (Group G Id × Members Id)
  pub by_groups : IsGroupOrder rules.may.rate group_cmp rules.id_cmp all.sizes all.groups group_order
  pub by_bins : 0 < length (groups ++ rest) → IsBinOrder rules.may.rate rules.bin_cmp old bin_order
  pub listed : AreGroups rules.id_cmp group_cmp all.sizes all.groups group_order (groups ++ rest)
  pub homes : List (Group G Id × B)
  pub tests : ℕ
  pub placed : AreAllPlaced rules (excludes_by group_cmp rules.bin_cmp all.partners) (map (λ o. o.1) bin_order) groups (at_start old) placements
      (record { bins = new; homes = homes }) tests
  pub stops : Stops rules (excludes_by group_cmp rules.bin_cmp all.partners) (map (λ o. o.1) bin_order) (record { bins = new; homes = homes }) rest

module _ {Id B G : Type 0} {group_cmp : Group G Id → Group G Id → Ordering} {rules : Rules Id B} {all : Collection Id G} {old new : List (B × Bin)} where
  abbrev run_done : {placements : List (Placement Id B)} → PackingDone group_cmp rules all old placements new → Run group_cmp rules all old placements new []
  run_done p = record {
    group_order = p.group_order;
    bin_order = p.bin_order;
    groups = p.groups;
    by_groups = p.by_groups;
    by_bins = rw (append-nil p.groups) p.by_bins;
    listed = rw (append-nil p.groups) p.listed;
    homes = p.homes;
    tests = p.tests;
    placed = p.placed;
    stops = tt;
  }

  abbrev run_refused : (p : PackingRefused group_cmp rules all old new)
      → Run group_cmp rules all old p.stops.placements new (p.stops.next ∷ p.stops.later)
  run_refused p = record {
    group_order = p.group_order;
    bin_order = p.bin_order;
    groups = p.stops.beginning;
    by_groups = p.by_groups;
    by_bins = λ some. p.by_bins;
    listed = rw (← p.stops.groups_are) p.listed;
    homes = p.stops.homes;
    tests = p.stops.first;
    placed = p.stops.placed;
    stops = (p.stops.count, p.stops.refused);
  }

module _ {Id B G : Type 0} (group_cmp : Group G Id → Group G Id → Ordering) (rules : Rules Id B)
    (group_total : IsTotalOrder group_cmp) (id_total : IsTotalOrder rules.id_cmp) (bin_total : IsTotalOrder rules.bin_cmp)
    (all1 all2 : Collection Id G) (old1 old2 : List (B × Bin)) (all : AreCollectionsAlike group_cmp rules.id_cmp all1 all2)
    (old : AreBinsAlike rules.bin_cmp old1 old2) (decide : ClosuresDecide (values_of all1.sizes) (values_of old1) rules.may) where
  -- collections that are alike exclude equal bins
  pub bar_alike : (homes1 homes2 : List (Group G Id × B)) (g h : Group G Id) → AreHomesAlike group_cmp rules.bin_cmp homes1 homes2 → group_cmp g h ≡ Equal
      → BarAlike rules.bin_cmp (excludes_by group_cmp rules.bin_cmp all1.partners homes1 g) (excludes_by group_cmp rules.bin_cmp all2.partners homes2 h)
  bar_alike [] [] g h homes names a b e = refl
  bar_alike (x ∷ xs) (y ∷ ys) g h homes names a b e =
      let pair : are_excluded group_cmp all1.partners g x.0 ≡ are_excluded group_cmp all2.partners h y.0 = all.excluded g x.0
      ∙ excluded-alike group_total all2.partners g h x.0 y.0 names homes.0.0 in
      let at : is_at (rules.bin_cmp a) x.1 ≡ is_at (rules.bin_cmp b) y.1 = is_at-equal bin_total a b x.1 e ∙ is_at-back bin_total b x.1
      ∙ is_at-equal bin_total x.1 y.1 b homes.0.1 ∙ is_at-back bin_total y.1 b in
      rw (pair, at, bar_alike xs ys g h homes.1 names a b e) refl
  bar_alike homes1 homes2 g h homes names a b e = absurd homes

  -- two packings go equally far, with results that are alike
  one_packing : (ps qs : List (Placement Id B)) (m n : List (B × Bin)) (rest1 rest2 : List (Group G Id × Members Id))
      → (p : Run group_cmp rules all1 old1 ps m rest1) → (q : Run group_cmp rules all2 old2 qs n rest2)
      → AreBinsAlike rules.bin_cmp m n × ArePlacementsAlike rules.id_cmp rules.bin_cmp ps qs
      × AllZip (AreGroupsAlike group_cmp rules.id_cmp) rest1 rest2
  one_packing ps qs m n rest1 rest2 p q =
      let boxes = values_of all1.sizes in
      let bins = values_of old1 in
      let order = one_group_order (MayBeRated boxes bins) rules.may.rate decide.rates group_cmp rules.id_cmp group_total id_total all1.sizes all2.sizes
      all1.groups all2.groups p.group_order q.group_order (boxes_rated boxes bins) all.sizes all.groups p.by_groups q.by_groups in
      one_run rules boxes bins decide id_total bin_total group_cmp (excludes_by group_cmp rules.bin_cmp all1.partners)
      (excludes_by group_cmp rules.bin_cmp all2.partners) bar_alike (map (λ o. o.1) p.bin_order) (map (λ o. o.1) q.bin_order)
      p.groups q.groups rest1 rest2 (at_start old1) (at_start old2) _ _ ps qs p.tests q.tests (bins_met bins)
      (named_among group_cmp rules.id_cmp all1.sizes all1.groups p.group_order (p.groups ++ rest1) p.listed)
      (λ some more. one_bin_order (MayBeRated boxes bins) rules.may.rate decide.rates rules.bin_cmp bin_total old1 old2 p.bin_order q.bin_order
      (bins_rated boxes old1) old (p.by_bins some) (q.by_bins more))
      (record { bins = old; homes = tt })
      (one_groups group_cmp rules.id_cmp group_total id_total all1.sizes all2.sizes all.sizes all1.groups all2.groups all.groups p.group_order q.group_order
      (p.groups ++ rest1) (q.groups ++ rest2) order p.listed q.listed)
      p.placed p.stops q.placed q.stops

-- so packings of inputs that are alike have one result
pub one_result : {Id B G : Type 0} (group_cmp : Group G Id → Group G Id → Ordering) (rules : Rules Id B)
    → IsTotalOrder group_cmp → IsTotalOrder rules.id_cmp → IsTotalOrder rules.bin_cmp → (all other : Collection Id G) (old others : List (B × Bin))
    → AreCollectionsAlike group_cmp rules.id_cmp all other → AreBinsAlike rules.bin_cmp old others
    → ClosuresDecide (values_of all.sizes) (values_of old) rules.may → HaveOneResult group_cmp rules rules all other old others
one_result group_cmp rules group_total total bin_total all other old others alike bins decide =
    let one = one_packing group_cmp rules group_total total bin_total all other old others alike bins decide in
    record {
      done = λ ps qs m n p q. (let r = one ps qs m n [] [] (run_done p) (run_done q) in (r.0, r.1));
      refused = λ m n p q. (one _ _ m n _ _ (run_refused p) (run_refused q)).0;
      not_done_and_refused = λ ps m n p q. (one ps _ m n [] _ (run_done p) (run_refused q)).2;
      not_refused_and_done = λ qs m n p q. (one _ qs m n _ [] (run_refused p) (run_done q)).2;
    }
