-- What a packing that is done says of the placements that are written.
use Rattle.rectangle_pack_c.proofs.Std.{◌≡◌, ◌≢◌, ◌⊎◌, inl, inr, ℕ, ◌+◌, ◌<◌, ◌==◌, Bool, true, false, cond, List, [], ◌∷◌, ◌++◌, length, get_or, refl, ap, sym}
use Rattle.rectangle_pack_c.proofs.Std.{◌∙◌, arith, Option, Some, None, IsSome, IsSomeAnd, All, AllPairs, Contains, map, filter, slice_get, option_map}
use Rattle.rectangle_pack_c.proofs.Std.{IsPermutation, IsDistinct, nat_cmp, eq_by_cmp, lookup, keys_of, is_at, nat_cmp_total, Contains-permutation, All-nil}
use Rattle.rectangle_pack_c.proofs.Std.{All-cons, All-head, All-tail, All-weaker, All-contains, Contains-get_or, Contains-append_right, AllPairs-cons}
use Rattle.rectangle_pack_c.proofs.Std.{subst, list_any, list_any_at, or_comm, nat_tests, IsDistinct-from_sorted, IsDistinct-IsPermutation, slice_get-map, slice_get_within, get_or_from_slice_get}
use Rattle.rectangle_pack.specs.declared.grouped_rects_to_place.Group.{Group}
use Rattle.rectangle_pack.specs.declared.grouped_rects_to_place.Group.TheVariants.{Grouped}
use Rattle.rectangle_pack.specs.declared.pack.Placement.{Placement}
use Rattle.rectangle_pack.specs.declared.session.command.Outstanding.{Outstanding}
use Rattle.rectangle_pack.specs.Boxes.{Cuboid, AreApart, IsInside}
use Rattle.rectangle_pack.specs.Bins.{Bin, new_bin, whole}
use Rattle.rectangle_pack.specs.Counting.{AreAllApart}
use Rattle.rectangle_pack.specs.Closures.{Answers}
use Rattle.rectangle_pack.specs.Groups.{Collection}
use Rattle.rectangle_pack.specs.KeptBins.{locations_in}
use Rattle.rectangle_pack.specs.Exclusions.{are_excluded, is_listed}
use Rattle.rectangle_pack.specs.Packing.{Rules, rules_by, Members, Stage, at_start, excludes_by, AreAllPlaced, AreKeptApart, PackingDone}
use Rattle.rectangle_pack.specs.Placed.{ArePlacedWhole}
use Rattle.rectangle_pack.specs.Session.{numbered}
use Rattle.rectangle_pack_sections.proofs.lemmas.cuts.Counting.{apart_from_counts, filled_one}
use Rattle.rectangle_pack_sections.proofs.lemmas.util.Lists.{AllPairs-head, AllPairs-tail}
use Rattle.rectangle_pack_packing.proofs.lemmas.packing.Frame.{IsRecut, IsFrame-recut, KeptBySteps-recut, IsChanged, changed-all}
use Rattle.rectangle_pack_sections.proofs.lemmas.util.Maps.{is_some-keys, is_at-back}
use Rattle.rectangle_pack_packing.proofs.lemmas.packing.Placed.{keys-placed, known-placed}
use Rattle.rectangle_pack_sections.proofs.lemmas.util.Searches.{some_of}
use Rattle.rectangle_pack_c.specs.declared.RpBin.{RpBin}
use Rattle.rectangle_pack_c.specs.declared.RpBox.{RpBox}
use Rattle.rectangle_pack_c.specs.declared.RpPlacement.{RpPlacement}
use Rattle.rectangle_pack_c.specs.declared.collection.RpExclusion.{RpExclusion}
use Rattle.rectangle_pack_c.specs.Arguments.{bin_size, box_size, new_bins}
use Rattle.rectangle_pack_c.specs.Collections.{group_order, group_of, are_pair, IsCollected}
use Rattle.rectangle_pack_c.specs.Answers.{box_at, corner_of, Stands, ArePlaced, KeepApart}
use Rattle.rectangle_pack_c.specs.private.Written.{as_placement}
use Rattle.rectangle_pack_c.proofs.OrderLemmas.{nat_same, group_same, group_order_total}
use Rattle.rectangle_pack_c.proofs.CollectedLemmas.{lookup_numbered, AreHeld, collected_held}
use Rattle.rectangle_pack_c.proofs.WholeLemmas.{none_in, in_cases, in_kept, pairs_none, homed, placed_for, placed_once, one_home, home_of_key, key_listed}

-- the value that is there
pub found_and : {X : Type 0} (P : X → Type 0) (o : Option X) → IsSomeAnd o P → (x : X) × (o ≡ Some x) × P x
found_and P None h = absurd h
found_and P (Some x) h = (x, refl, h)

found_map : {X Y : Type 0} (f : X → Y) (o : Option X) (y : Y) → option_map f o ≡ Some y → (x : X) × (o ≡ Some x) × (y ≡ f x)
found_map f None y h = absurd cc
found_map f (Some x) y h = (x, refl, cc)

-- what holds of each placement holds of each record, and the other way round
pub records_each : (P : ℕ → RpPlacement → Type 0) (n : ℕ) (ps : List (Placement ℕ ℕ)) → All (λ p. P p.id (corner_of p.bin p.location)) ps
    → All (λ r. P r.id (as_placement r)) (numbered n ps)
records_each P n [] h = All-nil _
records_each P n (p ∷ ps) h =
    All-cons (λ (r : Outstanding ℕ ℕ). P r.id (as_placement r)) (record { number = n; id = p.id; bin = p.bin; location = p.location }) (numbered (n + 1) ps)
    (All-head (λ (p : Placement ℕ ℕ). P p.id (corner_of p.bin p.location)) p ps h)
    (records_each P (n + 1) ps (All-tail (λ (p : Placement ℕ ℕ). P p.id (corner_of p.bin p.location)) p ps h))

pub placements_each : (P : ℕ → RpPlacement → Type 0) (n : ℕ) (ps : List (Placement ℕ ℕ)) → All (λ r. P r.id (as_placement r)) (numbered n ps)
    → All (λ p. P p.id (corner_of p.bin p.location)) ps
placements_each P n [] h = All-nil _
placements_each P n (p ∷ ps) h =
    let first : Outstanding ℕ ℕ = record { number = n; id = p.id; bin = p.bin; location = p.location } in
    All-cons (λ (p : Placement ℕ ℕ). P p.id (corner_of p.bin p.location)) p ps
    (All-head (λ (r : Outstanding ℕ ℕ). P r.id (as_placement r)) first (numbered (n + 1) ps) h)
    (placements_each P (n + 1) ps (All-tail (λ (r : Outstanding ℕ ℕ). P r.id (as_placement r)) first (numbered (n + 1) ps) h))

pub records_once : (n : ℕ) (ps : List (Placement ℕ ℕ)) → AllPairs (λ p q. p.id ≢ q.id) ps → AllPairs (λ r s. r.id ≢ s.id) (numbered n ps)
records_once n [] h = pairs_none (λ (r s : Outstanding ℕ ℕ). r.id ≢ s.id)
records_once n (p ∷ ps) h =
    AllPairs-cons (λ (r s : Outstanding ℕ ℕ). r.id ≢ s.id) (record { number = n; id = p.id; bin = p.bin; location = p.location }) (numbered (n + 1) ps)
    (records_each (λ id q. p.id ≢ id) (n + 1) ps (AllPairs-head (λ (p q : Placement ℕ ℕ). p.id ≢ q.id) p ps h))
    (records_once (n + 1) ps (AllPairs-tail (λ (p q : Placement ℕ ℕ). p.id ≢ q.id) p ps h))

-- pairs of the right part, and of what is kept
pairs_right : {X : Type 0} (R : X → X → Type 0) (xs ys : List X) → AllPairs R (xs ++ ys) → AllPairs R ys
pairs_right R [] ys h = h
pairs_right R (x ∷ xs) ys h = pairs_right R xs ys (AllPairs-tail R x (xs ++ ys) h)

swapped : (a b : Cuboid) → AreApart a b → AreApart b a
swapped a b h = record { none = λ c x y. h.none c y x }

pairs_kept : (test : Placement ℕ ℕ → Bool) (ps : List (Placement ℕ ℕ)) (a b : Placement ℕ ℕ) → AreAllApart (map (λ p. p.location) (filter test ps))
    → Contains ps a → Contains ps b → test a ≡ true → test b ≡ true → a.id ≢ b.id
    → AreApart a.location b.location
pairs_kept test [] a b h ca cb ta tb ne = absurd (none_in a ca)
pairs_kept test (p ∷ ps) a b h ca cb ta tb ne = by (test p) refl h (in_cases p ps a ca) (in_cases p ps b cb) (λ k x y. pairs_kept test ps a b k x y ta tb ne)
  where
    kept : List Cuboid
    kept = map (λ p. p.location) (filter test ps)

    by : (t : Bool) → test p ≡ t → AreAllApart (map (λ p. p.location) (cond t (p ∷ filter test ps) (filter test ps)))
        → (p ≡ a) ⊎ Contains ps a → (p ≡ b) ⊎ Contains ps b
        → (AreAllApart (map (λ p. p.location) (filter test ps)) → Contains ps a → Contains ps b → AreApart a.location b.location)
        → AreApart a.location b.location
    by true t k (inl x) (inl y) ih = absurd (ne (ap (λ (q : Placement ℕ ℕ). q.id) (sym x ∙ y)))
    by true t k (inl x) (inr y) ih =
        rw (← x) (All-contains (AreApart p.location) (map (λ p. p.location) (filter test ps)) b.location
        (AllPairs-head AreApart p.location (map (λ p. p.location) (filter test ps)) k) (in_kept (λ (q : Placement ℕ ℕ). q.location) test ps b y tb))
    by true t k (inr x) (inl y) ih =
        rw (← y) (swapped p.location a.location (All-contains (AreApart p.location) (map (λ p. p.location) (filter test ps)) a.location
        (AllPairs-head AreApart p.location (map (λ p. p.location) (filter test ps)) k) (in_kept (λ (q : Placement ℕ ℕ). q.location) test ps a x ta)))
    by true t k (inr x) (inr y) ih = ih (AllPairs-tail AreApart p.location (map (λ p. p.location) (filter test ps)) k) x y
    by false t k (inl x) y ih = absurd (let yes : test p ≡ true = rw x ta in cc)
    by false t k (inr x) (inl y) ih = absurd (let yes : test p ≡ true = rw y tb in cc)
    by false t k (inr x) (inr y) ih = ih k x y

-- of two elements one is before the other, or they are the same
pub pair_of : {X : Type 0} (R : X → X → Type 0) (xs : List X) → AllPairs R xs → (x y : X) → Contains xs x → Contains xs y → (x ≡ y) ⊎ (R x y ⊎ R y x)
pair_of R [] h x y cx cy = absurd (none_in x cx)
pair_of {X} R (z ∷ zs) h x y cx cy = by (in_cases z zs x cx) (in_cases z zs y cy) (pair_of R zs (AllPairs-tail R z zs h) x y)
  where
    later : (w : X) → Contains zs w → R z w
    later w c = All-contains (R z) zs w (AllPairs-head R z zs h) c

    by : (z ≡ x) ⊎ Contains zs x → (z ≡ y) ⊎ Contains zs y → (Contains zs x → Contains zs y → (x ≡ y) ⊎ (R x y ⊎ R y x)) → (x ≡ y) ⊎ (R x y ⊎ R y x)
    by (inl e) (inl f) ih = inl (sym e ∙ f)
    by (inl e) (inr g) ih = inr (inl (subst (λ w. R w y) e (later y g)))
    by (inr d) (inl f) ih = inr (inr (subst (λ w. R w x) f (later x d)))
    by (inr d) (inr g) ih = ih d g

-- what passes a test is found by it
pub any_found : {X : Type 0} (test : X → Bool) (xs : List X) (x : X) → Contains xs x → test x ≡ true → list_any test xs ≡ true
any_found test xs x (k, within, at) passes = list_any_at test xs k x within (ap test at ∙ passes)

-- a look-up among new bins
lookup_bin : (bins : List RpBin) (i : ℕ) (before : Bin) → lookup (is_at (nat_cmp i)) (new_bins bins) ≡ Some before
    → (bin : RpBin) × (slice_get bins i ≡ Some bin) × (before ≡ new_bin (bin_size bin))
lookup_bin bins i before is =
    let f : RpBin → Bin = λ b. new_bin (bin_size b) in
    found_map f (slice_get bins i) before (sym (slice_get-map f bins i) ∙ sym (lookup_numbered 0 (map f bins) i i (omega arith)) ∙ is)

-- what is read past the end of a list of boxes
pub no_box : RpBox
no_box = record { width = 0; height = 0; depth = 0; group = 0 }

-- the home of a box in a named group
pub home_named : (boxes : List RpBox) (exclusions : List RpExclusion) (all : Collection ℕ ℕ) → IsCollected boxes exclusions all
    → (homes : List (Group ℕ ℕ × ℕ)) (ps : List (Placement ℕ ℕ)) → ArePlacedWhole nat_cmp nat_cmp group_order all.sizes all.groups homes ps
    → (i : ℕ) (b : RpBox) (q : Placement ℕ ℕ) → slice_get boxes i ≡ Some b → Contains ps q → q.id ≡ i → 0 < b.group
    → (home : Group ℕ ℕ × ℕ) × Contains homes home × (home.0 ≡ Grouped b.group) × (home.1 ≡ q.bin)
home_named boxes exclusions all collected homes ps are i b q box inside id named =
    let held = collected_held boxes exclusions no_box all collected in
    let (home, there, has) = homed all.sizes all.groups homes ps are q inside in
    let is_b : get_or boxes i no_box ≡ b = get_or_from_slice_get boxes i b no_box box in
    let member : (q.id < length boxes) × (group_of q.id (get_or boxes q.id no_box) ≡ home.0) =
    All-contains (λ i. (i < length boxes) × (group_of i (get_or boxes i no_box) ≡ home.0)) has.ids q.id (held.members home.0 has.ids has.listed) has.member in
    let not_alone : (b.group == 0) ≡ false = grind (arith, nat_tests) in
    let group : group_of q.id (get_or boxes q.id no_box) ≡ Grouped b.group = rw (id, is_b, not_alone) refl in
    (home, there, sym member.1 ∙ group, has.bin)

-- groups that are excluded have different homes
pub homes_apart : (boxes : List RpBox) (exclusions : List RpExclusion) (all : Collection ℕ ℕ) → IsCollected boxes exclusions all
    → (homes : List (Group ℕ ℕ × ℕ)) → All (λ e. e.one ≢ e.other) exclusions → AreKeptApart group_order nat_cmp all.partners homes
    → (ha hb : Group ℕ ℕ × ℕ) → Contains homes ha → Contains homes hb → (e : RpExclusion) → Contains exclusions e
    → ha.0 ≡ Grouped e.one → hb.0 ≡ Grouped e.other → ha.1 ≢ hb.1
homes_apart boxes exclusions all collected homes differ apart ha hb in_a in_b e inside key_a key_b bins =
    let pair : are_pair (Grouped e.one) (Grouped e.other) e ≡ true = rw (group_same (Grouped e.one), group_same (Grouped e.other)) refl in
    let there : are_excluded group_order all.partners (Grouped e.one) (Grouped e.other) ≡ true =
    collected.excluded (Grouped e.one) (Grouped e.other) ∙ any_found (are_pair (Grouped e.one) (Grouped e.other)) exclusions e inside pair in
    let forth : are_excluded group_order all.partners ha.0 hb.0 ≡ true = rw (key_a, key_b) there in
    let back : are_excluded group_order all.partners hb.0 ha.0 ≡ true =
    or_comm (is_listed group_order all.partners hb.0 ha.0) (is_listed group_order all.partners ha.0 hb.0) ∙ forth in
    by ha hb forth back bins (key_a, key_b)
    (pair_of (λ x y. are_excluded group_order all.partners x.0 y.0 ≡ true → is_at (nat_cmp x.1) y.1 ≡ false) homes apart ha hb in_a in_b)
  where
    unequal : e.one ≢ e.other
    unequal = All-contains (λ (e : RpExclusion). e.one ≢ e.other) exclusions e differ inside

    by : (x y : Group ℕ ℕ × ℕ) → are_excluded group_order all.partners x.0 y.0 ≡ true → are_excluded group_order all.partners y.0 x.0 ≡ true → x.1 ≡ y.1
        → (x.0 ≡ Grouped e.one) × (y.0 ≡ Grouped e.other)
        → (x ≡ y) ⊎ ((are_excluded group_order all.partners x.0 y.0 ≡ true → is_at (nat_cmp x.1) y.1 ≡ false)
        ⊎ (are_excluded group_order all.partners y.0 x.0 ≡ true → is_at (nat_cmp y.1) x.1 ≡ false)) → ⊥
    by x y forth back bins keys (inl same) =
        let groups : Grouped e.one ≡ Grouped e.other = sym keys.0 ∙ ap (λ h. h.0) same ∙ keys.1 in
        let numbers : e.one ≡ e.other = cc in
        unequal numbers
    by x y forth back bins keys (inr (inl h)) = absurd (let yes : is_at (nat_cmp x.1) y.1 ≡ true = rw bins (nat_same y.1) in let none = h forth in cc)
    by x y forth back bins keys (inr (inr h)) = absurd (let yes : is_at (nat_cmp y.1) x.1 ≡ true = rw bins (nat_same y.1) in let none = h back in cc)

-- placements in new bins, and what these have become
module _ (bins : List RpBin) (ps : List (Placement ℕ ℕ)) (after : List (ℕ × Bin)) where
  -- the bin of a placement, and what it has become
  pub record StandsIn (q : Placement ℕ ℕ) : Type 0 where
    pub bin : RpBin
    pub is : slice_get bins q.bin ≡ Some bin
    pub changed : IsChanged IsRecut nat_cmp ps after q.bin (new_bin (bin_size bin))

  -- a bin that is there afterwards was there before
  pub stands_so : (q : Placement ℕ ℕ) → Contains ps q → keys_of after ≡ keys_of (new_bins bins)
      → All (λ p. IsSome (lookup (is_at (nat_cmp p.bin)) after)) ps
      → ((before : Bin) → lookup (is_at (nat_cmp q.bin)) (new_bins bins) ≡ Some before → IsChanged IsRecut nat_cmp ps after q.bin before)
      → StandsIn q
  stands_so q inside keys known changed =
      let found = All-contains (λ (p : Placement ℕ ℕ). IsSome (lookup (is_at (nat_cmp p.bin)) after)) ps q known inside in
      let there = some_of (lookup (is_at (nat_cmp q.bin)) (new_bins bins)) (sym (is_some-keys (is_at (nat_cmp q.bin)) after (new_bins bins) keys) ∙ found) in
      let (bin, is, before) = lookup_bin bins q.bin there.0 there.1 in
      record { bin = bin; is = is; changed = changed (new_bin (bin_size bin)) (rw (← before) there.1) }

  pub inside_bin : (q : Placement ℕ ℕ) (c : Contains ps q) (s : StandsIn q) → IsInside (bin_size s.bin) q.location
  inside_bin q c s =
      let size = bin_size s.bin in
      let first : All (IsInside size) (whole size ∷ []) = All-cons (IsInside size) (whole size) []
      (record { within_x = omega arith; within_y = omega arith; within_z = omega arith }) (All-nil (IsInside size)) in
      All-contains (IsInside size) (s.changed.after.sections ++ locations_in nat_cmp ps q.bin) q.location (s.changed.framed.inside size first)
      (Contains-append_right s.changed.after.sections (locations_in nat_cmp ps q.bin) q.location
      (in_kept (λ (p : Placement ℕ ℕ). p.location) (λ p. is_at (nat_cmp p.bin) q.bin) ps q c (nat_same q.bin)))

  pub apart_in : (a b : Placement ℕ ℕ) (ca : Contains ps a) (s : StandsIn a) → Contains ps b → a.id ≢ b.id → b.bin ≡ a.bin
      → AreApart a.location b.location
  apart_in a b ca s cb ne same =
      let boxes = s.changed.after.sections ++ locations_in nat_cmp ps a.bin in
      let pairs = apart_from_counts boxes (λ c. rw (s.changed.framed.cells c) (filled_one c (whole (bin_size s.bin)))) in
      pairs_kept (λ p. is_at (nat_cmp p.bin) a.bin) ps a b (pairs_right AreApart s.changed.after.sections (locations_in nat_cmp ps a.bin) pairs) ca cb
      (nat_same a.bin) (rw same (nat_same a.bin)) ne

-- so stand those of a packing that places all groups
pub stands_in : (bins : List RpBin) (may : Answers) (excludes : List (Group ℕ ℕ × ℕ) → Group ℕ ℕ → ℕ → Bool) (order : List ℕ)
    (groups : List (Group ℕ ℕ × Members ℕ)) (ps : List (Placement ℕ ℕ)) (last : Stage (Group ℕ ℕ) ℕ) (tests : ℕ)
    → AreAllPlaced (rules_by nat_cmp nat_cmp may) excludes order groups (at_start (new_bins bins)) ps last tests
    → (q : Placement ℕ ℕ) → Contains ps q → StandsIn bins ps last.bins q
stands_in bins may excludes order groups ps last tests placed q inside =
    let rules : Rules ℕ ℕ = rules_by nat_cmp nat_cmp may in
    stands_so bins ps last.bins q inside (keys-placed rules excludes order groups (at_start (new_bins bins)) ps last tests placed)
    (known-placed rules excludes nat_cmp_total order groups (at_start (new_bins bins)) ps last tests placed)
    (λ before was. changed-all IsFrame-recut rules nat_cmp_total (KeptBySteps-recut may) excludes order groups (at_start (new_bins bins)) ps last
    tests placed q.bin before was)

module _ (boxes : List RpBox) (exclusions : List RpExclusion) (all : Collection ℕ ℕ) (collected : IsCollected boxes exclusions all) (ps : List (Placement ℕ ℕ))
    (homes : List (Group ℕ ℕ × ℕ)) (moved : IsPermutation (keys_of all.groups) (map (λ h. h.0) homes))
    (are : ArePlacedWhole nat_cmp nat_cmp group_order all.sizes all.groups homes ps) where
  held : AreHeld (λ i. get_or boxes i no_box) (length boxes) all
  held = collected_held boxes exclusions no_box all collected

  -- each placement is that of a box
  known_id : (q : Placement ℕ ℕ) → Contains ps q → q.id < length boxes
  known_id q inside =
      let (home, there, has) = homed all.sizes all.groups homes ps are q inside in
      let member : (q.id < length boxes) × (group_of q.id (get_or boxes q.id no_box) ≡ home.0) =
      All-contains (λ i. (i < length boxes) × (group_of i (get_or boxes i no_box) ≡ home.0)) has.ids q.id (held.members home.0 has.ids has.listed) has.member in
      member.0

  pub known_ids : All (λ p. p.id < length boxes) ps
  known_ids k d within = known_id (get_or ps k d) (Contains-get_or ps k d within)

  -- each group has one home
  one_each : IsDistinct (eq_by_cmp group_order) (map (λ h. h.0) homes)
  one_each = IsDistinct-IsPermutation (eq_by_cmp group_order) (λ x y. is_at-back group_order_total x y) (keys_of all.groups) (map (λ h. h.0) homes) moved
      (IsDistinct-from_sorted group_order (keys_of all.groups) collected.ascend)

  -- no box is placed twice
  pub placed_alone : AllPairs (λ p q. p.id ≢ q.id) ps
  placed_alone =
      placed_once all.sizes all.groups (λ i. group_of i (get_or boxes i no_box))
      (λ k ids is. All-weaker (λ i. (i < length boxes) × (group_of i (get_or boxes i no_box) ≡ k)) (λ i. group_of i (get_or boxes i no_box) ≡ k)
      (λ i m. m.1) ids (held.members k ids is))
      held.once homes ps are one_each

  -- and each box is placed
  pub placed_each : (i : ℕ) → i < length boxes → (p : Placement ℕ ℕ) × Contains ps p × (p.id ≡ i)
  placed_each i low =
      let (ids, is, member) = found_and (λ ids. Contains ids i) _ (held.there i low) in
      let key = group_of i (get_or boxes i no_box) in
      let (home, inside, named) = home_of_key homes key
      (Contains-permutation (keys_of all.groups) (map (λ h. h.0) homes) key moved (key_listed all.groups key ids is)) in
      placed_for all.sizes all.groups homes ps are home inside ids (rw named is) i member

  -- what a box stands at is its placement
  pub record ComesFrom (i : ℕ) (b : RpBox) (p : RpPlacement) : Type 0 where
    pub from : Placement ℕ ℕ
    pub inside : Contains ps from
    pub id : from.id ≡ i
    pub bin : p.bin ≡ from.bin
    pub location : box_at b p ≡ from.location

  module _ (placements : List RpPlacement) (written : All (λ p. slice_get placements p.id ≡ Some (corner_of p.bin p.location)) ps) where
    pub comes_from : (i : ℕ) (b : RpBox) (p : RpPlacement) → Stands boxes placements i b p → ComesFrom i b p
    comes_from i b p s =
        let low : i < length boxes = slice_get_within boxes i b s.box in
        let is_b : get_or boxes i no_box ≡ b = get_or_from_slice_get boxes i b no_box s.box in
        let (q, among, q_id) = placed_each i low in
        let stood : slice_get placements q.id ≡ Some (corner_of q.bin q.location) = All-contains
        (λ (p : Placement ℕ ℕ). slice_get placements p.id ≡ Some (corner_of p.bin p.location)) ps q written among in
        let here : Some p ≡ Some (corner_of q.bin q.location) = sym s.at ∙ rw q_id at stood in
        let p_is : p ≡ corner_of q.bin q.location = cc in
        let (own, own_in, has) = homed all.sizes all.groups homes ps are q among in
        let sizes : Some q.location.whd ≡ Some (box_size (get_or boxes i no_box)) = sym has.size ∙ rw q_id (held.sized i low) in
        let one : q.location.whd ≡ box_size (get_or boxes i no_box) = cc in
        let size : q.location.whd ≡ box_size b = one ∙ ap box_size is_b in
        record {
          from = q;
          inside = among;
          id = q_id;
          bin = ap (λ (x : RpPlacement). x.bin) p_is;
          location = ap (box_at b) p_is ∙ ap (λ w. record q.location { whd = w }) (sym size);
        }

    -- two boxes of one group are in one bin
    pub stand_together : (i j : ℕ) (a b : RpBox) (p q : RpPlacement) → Stands boxes placements i a p → Stands boxes placements j b q → 0 < a.group
        → a.group ≡ b.group → p.bin ≡ q.bin
    stand_together i j a b p q s t named same =
        let f = comes_from i a p s in
        let g = comes_from j b q t in
        let (ha, in_a, key_a, bin_a) = home_named boxes exclusions all collected homes ps are i a f.from s.box f.inside f.id named in
        let (hb, in_b, key_b, bin_b) = home_named boxes exclusions all collected homes ps are j b g.from t.box g.inside g.id (rw (← same) named) in
        let one = one_home homes one_each ha hb in_a in_b (key_a ∙ ap (λ n. Grouped n) same ∙ sym key_b) in
        f.bin ∙ sym bin_a ∙ one ∙ bin_b ∙ sym g.bin

    -- and two boxes of groups that are excluded are in different bins
    pub keep_apart : All (λ e. e.one ≢ e.other) exclusions → AreKeptApart group_order nat_cmp all.partners homes → KeepApart boxes exclusions placements
    keep_apart differ apart i j a b p q s t named others e inside one other same_bin =
        let f = comes_from i a p s in
        let g = comes_from j b q t in
        let (ha, in_a, key_a, bin_a) = home_named boxes exclusions all collected homes ps are i a f.from s.box f.inside f.id named in
        let (hb, in_b, key_b, bin_b) = home_named boxes exclusions all collected homes ps are j b g.from t.box g.inside g.id others in
        homes_apart boxes exclusions all collected homes differ apart ha hb in_a in_b e inside (key_a ∙ ap (λ n. Grouped n) one)
        (key_b ∙ ap (λ n. Grouped n) other) (bin_a ∙ sym f.bin ∙ same_bin ∙ g.bin ∙ sym bin_b)

    module _ (bins : List RpBin) (may : Answers) (after : List (ℕ × Bin))
        (done : PackingDone group_order (rules_by nat_cmp nat_cmp may) all (new_bins bins) ps after) where
      stands : (q : Placement ℕ ℕ) → Contains ps q → StandsIn bins ps after q
      stands q inside =
          stands_in bins may (excludes_by group_order nat_cmp all.partners) (map (λ (o : ℕ × ℕ). o.1) done.bin_order) done.groups ps
          (record { bins = after; homes = done.homes }) done.tests done.placed q inside

      pub packed_placed : length placements ≡ length boxes → ArePlaced bins boxes placements
      packed_placed as_many = record {
        as_many = as_many;
        inside = λ i b p s.
            let f = comes_from i b p s in
            let in_bin = stands f.from f.inside in
            rw (f.bin, in_bin.is, f.location) (inside_bin bins ps after f.from f.inside in_bin);
        apart = λ i j a b p q s t ne same.
            let f = comes_from i a p s in
            let g = comes_from j b q t in
            rw (f.location, g.location) (apart_in bins ps after f.from g.from f.inside (stands f.from f.inside) g.inside
            (λ e. ne (sym f.id ∙ e ∙ g.id)) (sym g.bin ∙ sym same ∙ f.bin));
        together = stand_together;
      }
