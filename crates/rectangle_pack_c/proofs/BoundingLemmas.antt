-- What is shown of a collection is needed by each packing of it, whoever made it.
use Rattle.rectangle_pack_c.proofs.Std.{◌≡◌, ◌≢◌, ℕ, ◌+◌, ◌<◌, ◌^◌, ◌==◌, ◌&&◌, ◌||◌, not, Bool, true, false, cond, List, [], ◌∷◌, length, get_or, refl, ap, sym, ◌∙◌, subst, arith}
use Rattle.rectangle_pack_c.proofs.Std.{AllPairs, AllPairs-cons, All-contains, Contains, Contains-get_or, IsSomeAnd, Option, Some, Ordering, Equal, Equal-is, map}
use Rattle.rectangle_pack_c.proofs.Std.{nat_cmp, nat_lt, nat_tests, exact_unsigned, is_eq, is_at, lookup, unwrap_or, list_any, length-append, length-map, enumerate_from, length-enumerate_from}
use Rattle.rectangle_pack_c.proofs.Std.{get_or-enumerate_from, slice_get-get_or}
use Rattle.std.proofs.lemmas.List.{get_or-map}
use Rattle.std.proofs.lemmas.List.Elements.{All-map}
use Rattle.std.proofs.lemmas.Simd.{map-map}
use Rattle.rectangle_pack_bounds.specs.declared.turning.TurningBox.{TurningBox}
use Rattle.rectangle_pack_bounds.specs.Arrangements.{Put, IsMetBy, different}
use Rattle.rectangle_pack_bounds.specs.Turning.{ways}
use Rattle.rectangle_pack_sections.proofs.lemmas.util.Lists.{AllPairs-head, AllPairs-tail}
use Rattle.rectangle_pack.specs.declared.grouped_rects_to_place.Group.{Group}
use Rattle.rectangle_pack.specs.declared.grouped_rects_to_place.Group.TheVariants.{Ungrouped, Grouped}
use Rattle.rectangle_pack.specs.declared.judge.Claim.{Claim}
use Rattle.rectangle_pack.specs.declared.judge.Entry.{Entry}
use Rattle.rectangle_pack.specs.declared.judge.Conflict.TheVariants.{PlacedTwice, SharesCell, ExcludedTogether}
use Rattle.rectangle_pack.specs.declared.Turns.{Turns}
use Rattle.rectangle_pack.specs.Bins.{Bin, new_bin}
use Rattle.rectangle_pack.specs.Boxes.{AreApart, IsInside, Size}
use Rattle.rectangle_pack.specs.Groups.{Collection}
use Rattle.rectangle_pack.specs.Judging.{StandsAlone, are_these, are_apart, no_entry, group_of as group_claimed}
use Rattle.rectangle_pack.specs.Needed.{AreNeededFor, IsArrangementOf, IsShownFor, are_two_excluded, box_of, sizes_of}
use Rattle.rectangle_pack_c.specs.declared.RpBin.{RpBin}
use Rattle.rectangle_pack_c.specs.declared.RpBox.{RpBox}
use Rattle.rectangle_pack_c.specs.declared.collection.RpCollection.{RpCollection}
use Rattle.rectangle_pack_c.specs.declared.collection.RpExclusion.{RpExclusion}
use Rattle.rectangle_pack_c.specs.declared.judging.RpClaim.{RpClaim}
use Rattle.rectangle_pack_c.specs.declared.judging.RpEntry.{RpEntry}
use Rattle.rectangle_pack_c.specs.Arguments.{bin_size, new_bins}
use Rattle.rectangle_pack_c.specs.Bounding.{IsLeast, IsPackedAnyhow, bins_claimed, entries_with, fault_with}
use Rattle.rectangle_pack_c.specs.Collections.{IsCollected, all_boxes, are_pair, fault_of, group_of, group_order, member_box}
use Rattle.rectangle_pack_c.specs.Judging.{claim_of, entry_of, pair_of}
use Rattle.rectangle_pack_c.specs.Turning.{AreTurnsOf, turns_number}
use Rattle.rectangle_pack_c.proofs.CollectedLemmas.{AreHeld, collected_held, lookup_numbered}
use Rattle.rectangle_pack_c.proofs.EntriesLemmas.{entries_by, group_at, named}
use Rattle.rectangle_pack_c.proofs.OrderLemmas.{nat_other, nat_same}
use Rattle.rectangle_pack_c.proofs.PlacedLemmas.{no_box}
use Rattle.rectangle_pack_c.proofs.WholeLemmas.{from_map, in_map, pairs_none}

-- a collection without a fault, in few bins
pub no_fault : (bins : List RpBin) (c : RpCollection) (fault : ℕ) → length bins < 2 ^ 32
    → fault ≡ fault_of c 0 (length c.boxes.now + length c.members.now) → fault ≡ 0 → fault_with bins c ≡ 0
no_fault bins c fault few is none =
    let test : nat_lt (length bins) (2 ^ 32) ≡ true = grind (arith, nat_tests) in
    let long : length (all_boxes c) ≡ length c.boxes.now + length c.members.now = omega
    (arith, length-append c.boxes.now (map (member_box c.boxes.now) c.members.now), length-map c.members.now (member_box c.boxes.now)) in
    rw (test, long) (sym is ∙ none)

pairs_map : {X Y : Type 0} (f : X → Y) (R : Y → Y → Type 0) (xs : List X) → AllPairs (λ x y. R (f x) (f y)) xs → AllPairs R (map f xs)
pairs_map f R [] h = pairs_none R
pairs_map f R (x ∷ xs) h =
    AllPairs-cons R (f x) (map f xs) (All-map (R (f x)) f xs (AllPairs-head (λ y z. R (f y) (f z)) x xs h))
    (pairs_map f R xs (AllPairs-tail (λ y z. R (f y) (f z)) x xs h))

-- the number of a box's group, as the judge has it
abbrev number_of : ℕ → RpBox → ℕ
number_of i b = cond (b.group == 0) (2 ^ 32 + i) b.group

or_true : (b : Bool) → (b || true) ≡ true
or_true true = refl
or_true false = refl

equal_numbers : (a b : ℕ) → is_eq (nat_cmp a b) ≡ true → (b == a) ≡ true
equal_numbers a b e =
    let same : a ≡ b = exact_unsigned a b ((Equal-is _).0 e) in
    grind (arith, nat_tests)

-- groups that an exclusion names are so for the judge too
pair_named : (x y : ℕ) (e : RpExclusion) → are_pair (Grouped x) (Grouped y) e ≡ true → are_these (pair_of e) x y ≡ true
pair_named x y e = by (is_eq (nat_cmp x e.one)) (is_eq (nat_cmp y e.other)) (is_eq (nat_cmp x e.other)) (is_eq (nat_cmp y e.one)) refl refl refl refl
  where
    by : (s t u v : Bool) → is_eq (nat_cmp x e.one) ≡ s → is_eq (nat_cmp y e.other) ≡ t → is_eq (nat_cmp x e.other) ≡ u → is_eq (nat_cmp y e.one) ≡ v
        → ((s && t) || (u && v)) ≡ true → are_these (pair_of e) x y ≡ true
    by true true u v a b c d h = rw (equal_numbers x e.one a, equal_numbers y e.other b) refl
    by true false true true a b c d h = rw (equal_numbers x e.other c, equal_numbers y e.one d) (or_true ((e.one == x) && (e.other == y)))
    by false t true true a b c d h = rw (equal_numbers x e.other c, equal_numbers y e.one d) (or_true ((e.one == x) && (e.other == y)))
    by true false true false a b c d h = absurd cc
    by true false false v a b c d h = absurd cc
    by false t true false a b c d h = absurd cc
    by false t false v a b c d h = absurd cc

-- a box alone is in no group that an exclusion names
no_pair_left : (i : ℕ) (k : Group ℕ ℕ) (exclusions : List RpExclusion) → list_any (are_pair (Ungrouped i) k) exclusions ≡ false
no_pair_left i k [] = refl
no_pair_left i k (e ∷ es) = no_pair_left i k es

no_pair_right : (i : ℕ) (k : Group ℕ ℕ) (exclusions : List RpExclusion) → list_any (are_pair k (Ungrouped i)) exclusions ≡ false
no_pair_right i k [] = refl
no_pair_right i k (e ∷ es) = by (is_at (group_order k) (Grouped e.one)) (is_at (group_order k) (Grouped e.other)) (no_pair_right i k es)
  where
    by : (s t : Bool) → list_any (are_pair k (Ungrouped i)) es ≡ false → (((s && false) || (t && false)) || list_any (are_pair k (Ungrouped i)) es) ≡ false
    by true true h = h
    by true false h = h
    by false true h = h
    by false false h = h

any_named : (x y : ℕ) (exclusions : List RpExclusion) → list_any (are_pair (Grouped x) (Grouped y)) exclusions ≡ true
    → list_any (λ pair. are_these pair x y) (map pair_of exclusions) ≡ true
any_named x y [] h = absurd cc
any_named x y (e ∷ es) h = by (are_pair (Grouped x) (Grouped y) e) refl h (any_named x y es)
  where
    by : (s : Bool) → are_pair (Grouped x) (Grouped y) e ≡ s → (s || list_any (are_pair (Grouped x) (Grouped y)) es) ≡ true
        → (list_any (are_pair (Grouped x) (Grouped y)) es ≡ true → list_any (λ pair. are_these pair x y) (map pair_of es) ≡ true)
        → (are_these (pair_of e) x y || list_any (λ pair. are_these pair x y) (map pair_of es)) ≡ true
    by true a h ih = rw (pair_named x y e a) refl
    by false a h ih = rw (ih h) (or_true (are_these (pair_of e) x y))

-- two groups that are excluded are so for the judge too
excluded_too : (i j : ℕ) (a b : RpBox) (exclusions : List RpExclusion)
    → (not (is_at (group_order (group_of i a)) (group_of j b)) && list_any (are_pair (group_of i a) (group_of j b)) exclusions) ≡ true
    → (not (number_of i a == number_of j b) && list_any (λ pair. are_these pair (number_of i a) (number_of j b)) (map pair_of exclusions)) ≡ true
excluded_too i j a b exclusions = by (a.group == 0) (b.group == 0)
  where
    both : (s t : Bool) → (s && t) ≡ true → (s ≡ true) × (t ≡ true)
    both true true h = (refl, refl)
    both true false h = absurd cc
    both false t h = absurd cc

    differ : (x y : ℕ) → not (is_eq (nat_cmp x y)) ≡ true → (x == y) ≡ false
    differ x y h = by_test (x == y) refl
      where
        by_test : (t : Bool) → (x == y) ≡ t → t ≡ false
        by_test true e =
            let same : x ≡ y = grind (arith, nat_tests) in
            absurd (let yes : is_eq (nat_cmp x y) ≡ true = rw same (nat_same y) in cc)
        by_test false e = refl

    by : (s t : Bool)
        → (not (is_at (group_order (cond s (Ungrouped i) (Grouped a.group))) (cond t (Ungrouped j) (Grouped b.group)))
        && list_any (are_pair (cond s (Ungrouped i) (Grouped a.group)) (cond t (Ungrouped j) (Grouped b.group))) exclusions) ≡ true
        → (not (cond s (2 ^ 32 + i) a.group == cond t (2 ^ 32 + j) b.group)
        && list_any (λ pair. are_these pair (cond s (2 ^ 32 + i) a.group) (cond t (2 ^ 32 + j) b.group)) (map pair_of exclusions)) ≡ true
    by true t h =
        let k : Group ℕ ℕ = cond t (Ungrouped j) (Grouped b.group) in
        let some : list_any (are_pair (Ungrouped i) k) exclusions ≡ true =
        (both (not (is_at (group_order (Ungrouped i)) k)) (list_any (are_pair (Ungrouped i) k) exclusions) h).1 in
        absurd (let none : list_any (are_pair (Ungrouped i) k) exclusions ≡ false = no_pair_left i k exclusions in cc)
    by false true h =
        let k : Group ℕ ℕ = Grouped a.group in
        let some : list_any (are_pair k (Ungrouped j)) exclusions ≡ true =
        (both (not (is_at (group_order k) (Ungrouped j))) (list_any (are_pair k (Ungrouped j)) exclusions) h).1 in
        absurd (let none : list_any (are_pair k (Ungrouped j)) exclusions ≡ false = no_pair_right j k exclusions in cc)
    by false false h =
        let two = both (not (is_eq (nat_cmp a.group b.group))) (list_any (are_pair (Grouped a.group) (Grouped b.group)) exclusions) h in
        rw (differ a.group b.group two.0, any_named a.group b.group exclusions two.1) refl

-- the sizes of new bins
sizes_numbered : (n : ℕ) (bins : List RpBin) → sizes_of (enumerate_from n (map (λ b. new_bin (bin_size b)) bins)) ≡ enumerate_from n (map bin_size bins)
sizes_numbered n [] = refl
sizes_numbered n (b ∷ bins) = ap (λ es. (n, bin_size b) ∷ es) (sizes_numbered (n + 1) bins)

module _ (bins : List RpBin) (c : RpCollection) (numbers : List ℕ) (least : Option ℕ) (shown : IsLeast bins c numbers least)
    (claims : List RpClaim) (packed : IsPackedAnyhow bins c numbers claims) where
  abbrev boxes : List RpBox
  boxes = all_boxes c

  abbrev box : ℕ → RpBox
  box i = get_or boxes i no_box

  abbrev all_claims : List Claim
  all_claims = map claim_of claims

  abbrev group : ℕ → Group ℕ ℕ
  group = group_at boxes c.exclusions.now shown.all shown.collected

  -- a claim, as the library has it
  abbrev put : Claim → Put (Group ℕ ℕ × ℕ) ℕ
  put k = record { of = (group k.entry, k.entry); bin = k.bin; box = k.section }

  abbrev puts : List (Put (Group ℕ ℕ × ℕ) ℕ)
  puts = map put all_claims

  held : AreHeld box (length boxes) shown.all
  held = collected_held boxes c.exclusions.now no_box shown.all shown.collected

  -- the box of an index, as the judge is given it
  entry_at : (i : ℕ) → i < length boxes → (d : Entry)
      → get_or packed.case.entries.now i d ≡ entry_of i (record { rect = box i; turns = turns_number c numbers i })
  entry_at i low d =
      let none : RpEntry = record { rect = no_box; turns = 0 } in
      let given : ℕ × RpBox → RpEntry = λ e. record { rect = e.1; turns = turns_number c numbers e.0 } in
      let es = entries_with c numbers in
      let in_boxes : i < length (enumerate_from 0 boxes) = omega (arith, low, length-enumerate_from 0 boxes) in
      let in_es : i < length es = omega (arith, in_boxes, length-map (enumerate_from 0 boxes) given) in
      let in_all : i < length (enumerate_from 0 es) = omega (arith, in_es, length-enumerate_from 0 es) in
      let here : 0 + i ≡ i = omega arith in
      let one : get_or es i none ≡ given (i, box i) =
      get_or-map given (enumerate_from 0 boxes) i (i, no_box) none in_boxes
      ∙ ap given (get_or-enumerate_from 0 boxes i (i, no_box) low ∙ ap (λ j. (j, box i)) here) in
      ap (λ (l : List Entry). get_or l i d) packed.of.entries_are
      ∙ get_or-map (λ e. entry_of e.0 e.1) (enumerate_from 0 es) i (i, none) d in_all
      ∙ ap (λ (e : ℕ × RpEntry). entry_of e.0 e.1) (get_or-enumerate_from 0 es i (i, none) in_es ∙ ap (λ j. (j, get_or es i none)) here)
      ∙ ap (entry_of i) one

  -- there are as many as boxes
  many : length packed.case.entries.now ≡ length boxes
  many =
      let given : ℕ × RpBox → RpEntry = λ e. record { rect = e.1; turns = turns_number c numbers e.0 } in
      let es = entries_with c numbers in
      omega (
        arith,
        ap (λ (l : List Entry). length l) packed.of.entries_are,
        length-map (enumerate_from 0 es) (λ e. entry_of e.0 e.1),
        length-enumerate_from 0 es,
        length-map (enumerate_from 0 boxes) given,
        length-enumerate_from 0 boxes,
      )

  known : (k : Claim) → Contains all_claims k → k.entry < length boxes
  known k inside =
      let alone : StandsAlone packed.case k = All-contains (StandsAlone packed.case) all_claims k packed.alone inside in
      omega (arith, alone.entry, many)

  -- the box that the library takes is that of the judge
  turning : (i : ℕ) (low : i < length boxes) (d : Entry)
      → box_of nat_cmp shown.all.sizes shown.turns i ≡ (get_or packed.case.entries.now i d).turning
  turning i low d =
      let size = ap (λ o. unwrap_or o (record { width = 0; height = 0; depth = 0 })) (held.sized i low) in
      let turns = shown.are_turns i low in
      rw (entry_at i low d, size, turns) refl

  one_way : (k : Claim) → Contains all_claims k → Contains (ways (box_of nat_cmp shown.all.sizes shown.turns k.entry)) k.section.whd
  one_way k inside =
      let alone : StandsAlone packed.case k = All-contains (StandsAlone packed.case) all_claims k packed.alone inside in
      subst (λ (b : TurningBox). Contains (ways b) k.section.whd) (sym (turning k.entry (known k inside) no_entry)) (alone.in_a_way no_entry)

  in_bin : (k : Claim) → Contains all_claims k → IsSomeAnd (lookup (is_at (nat_cmp k.bin)) (sizes_of (new_bins bins))) (λ size. IsInside size k.section)
  in_bin k inside =
      let alone : StandsAlone packed.case k = All-contains (StandsAlone packed.case) all_claims k packed.alone inside in
      let none : Size = record { width = 0; height = 0; depth = 0 } in
      let low : k.bin < length (map bin_size bins) = rw packed.of.bins_are at alone.bin in
      let at : lookup (is_at (nat_cmp k.bin)) (sizes_of (new_bins bins)) ≡ Some (get_or (map bin_size bins) k.bin none) =
      ap (lookup (is_at (nat_cmp k.bin))) (sizes_numbered 0 bins) ∙ lookup_numbered 0 (map bin_size bins) k.bin k.bin (omega arith)
      ∙ slice_get-get_or (map bin_size bins) k.bin none low in
      rw at (rw packed.of.bins_are at (alone.inside none))

  -- where the library asks for different bins, the judge does
  other_bins : (a b : Claim) → Contains all_claims a → Contains all_claims b
      → (a.bin ≡ b.bin → are_apart packed.case (group_claimed packed.case a) (group_claimed packed.case b) ≡ false)
      → are_two_excluded group_order shown.all.partners (group a.entry) (group b.entry) ≡ true → is_at (nat_cmp a.bin) b.bin ≡ false
  other_bins a b in_a in_b free two =
      let i = a.entry in
      let j = b.entry in
      let a_is : group_claimed packed.case a ≡ number_of i (box i) = ap (λ (e : Entry). e.group) (entry_at i (known a in_a) no_entry) in
      let b_is : group_claimed packed.case b ≡ number_of j (box j) = ap (λ (e : Entry). e.group) (entry_at j (known b in_b) no_entry) in
      let pairs = excluded_too i j (box i) (box j) c.exclusions.now (rw (shown.collected.excluded (group i) (group j)) at two) in
      let apart : are_apart packed.case (group_claimed packed.case a) (group_claimed packed.case b) ≡ true = rw (a_is, b_is, packed.of.excluded_are) pairs in
      nat_other a.bin b.bin (λ same. absurd (let no = free same in cc))

  abbrev entry : Claim → ℕ
  entry k = k.entry

  arranged : IsArrangementOf group_order nat_cmp nat_cmp shown.all shown.turns (new_bins bins) puts
  arranged = record {
    arranged = record {
      each_once = rw (map-map (λ p. p.of) put all_claims, ← map-map (named group) entry all_claims)
          (entries_by boxes c.exclusions.now shown.all shown.collected (map entry all_claims) once below whole);
      one_way = All-map (λ (p : Put (Group ℕ ℕ × ℕ) ℕ). Contains (ways (box_of nat_cmp shown.all.sizes shown.turns p.of.1)) p.box.whd) put all_claims
          (λ n d low. one_way (get_or all_claims n d) (at n d low));
      inside = All-map
          (λ (p : Put (Group ℕ ℕ × ℕ) ℕ). IsSomeAnd (lookup (is_at (nat_cmp p.bin)) (sizes_of (new_bins bins))) (λ size. IsInside size p.box)) put all_claims
          (λ n d low. in_bin (get_or all_claims n d) (at n d low));
      apart = pairs_map put (λ (a b : Put (Group ℕ ℕ × ℕ) ℕ). nat_cmp a.bin b.bin ≡ Equal → AreApart a.box b.box) all_claims
          (λ m n d before low same. packed.together m n d before low SharesCell (λ e. absurd cc) (exact_unsigned _ _ same));
    };
    excluded_apart = pairs_map put
        (λ (a b : Put (Group ℕ ℕ × ℕ) ℕ).
        are_two_excluded group_order shown.all.partners a.of.0 b.of.0 ≡ true → is_at (nat_cmp a.bin) b.bin ≡ false) all_claims
        (λ m n d before low.
        other_bins (get_or all_claims m d) (get_or all_claims n d) (at m d (omega (arith, before, low))) (at n d low)
        (packed.together m n d before low ExcludedTogether (λ e. absurd cc)));
  }
    where
      at : (n : ℕ) (d : Claim) → n < length all_claims → Contains all_claims (get_or all_claims n d)
      at n d low = Contains-get_or all_claims n d low

      once : AllPairs (λ i j. i ≢ j) (map entry all_claims)
      once = pairs_map entry (λ (i j : ℕ). i ≢ j) all_claims (λ m n d before low. packed.together m n d before low PlacedTwice (λ e. absurd cc))

      below : (i : ℕ) → Contains (map entry all_claims) i → i < length boxes
      below i inside = let (k, among, is) = from_map entry all_claims i inside in rw (← is) (known k among)

      whole : (i : ℕ) → i < length boxes → Contains (map entry all_claims) i
      whole i low =
          let (n, k, within, here, is) = packed.whole i low in
          subst (λ m. Contains (map entry all_claims) m) is (in_map entry all_claims k (n, within, here))

  -- so the claims name as many bins as are shown to be needed
  pub claimed_enough : IsMetBy least (bins_claimed claims)
  claimed_enough =
      let same : map (λ p. p.bin) puts ≡ map (λ k. k.bin) claims = map-map (λ p. p.bin) put all_claims ∙ map-map (λ k. k.bin) claim_of claims in
      subst (λ ids. IsMetBy least (length (different nat_cmp ids))) same (shown.needed puts arranged)

-- what the library shows, in its order of groups
pub least_shown : (R : Group ℕ ℕ → Group ℕ ℕ → Ordering) → R ≡ group_order → (bins : List RpBin) (c : RpCollection) (numbers : List ℕ)
    (all : Collection ℕ ℕ) → IsCollected (all_boxes c) c.exclusions.now all → (turns : List (ℕ × Turns)) → AreTurnsOf c numbers turns
    → (found : List (ℕ × Bin)) → found ≡ new_bins bins → (least : Option ℕ)
    → AreNeededFor R nat_cmp nat_cmp all turns found least → IsShownFor R nat_cmp nat_cmp all turns found least → IsLeast bins c numbers least
least_shown R same bins c numbers all collected turns are found new least needed shown = record {
  all = all;
  collected = collected;
  turns = turns;
  are_turns = are;
  needed = subst (λ bs. AreNeededFor group_order nat_cmp nat_cmp all turns bs least) new
      (subst (λ r. AreNeededFor r nat_cmp nat_cmp all turns found least) same needed);
  shown = subst (λ bs. IsShownFor group_order nat_cmp nat_cmp all turns bs least) new
      (subst (λ r. IsShownFor r nat_cmp nat_cmp all turns found least) same shown);
}
