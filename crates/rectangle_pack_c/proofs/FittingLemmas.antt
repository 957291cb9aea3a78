-- Boxes of a packing of what fits. Those that are left count as placed in a bin of their own, so that the lemmas of packings that place all hold of them.
use Rattle.rectangle_pack_c.proofs.Std.{◌≡◌, ◌≢◌, ◌⊎◌, inl, inr, ℕ, ◌<◌, Bool, true, false, cond, List, [], ◌∷◌, ◌++◌, length, get_or, refl, ap, sym, ◌∙◌}
use Rattle.rectangle_pack_c.proofs.Std.{subst, arith, append_assoc, Option, Some, All, AllPairs, Contains, unwrap_or, map, slice_get, AllZip, Equal}
use Rattle.rectangle_pack_c.proofs.Std.{IsPermutation, nat_cmp, nat_cmp_is, is_eq, lookup, keys_of, is_at, map-append, get_or_from_slice_get}
use Rattle.rectangle_pack_c.proofs.Std.{Contains-permutation, All-nil, All-cons, All-head, All-tail, All-weaker, All-contains, Contains-get_or}
use Rattle.rectangle_pack_c.proofs.Std.{Contains-append_right, Contains-append_cases, AllPairs-cons}
use Rattle.std.proofs.lemmas.List.Elements.{All-append}
use Rattle.std.proofs.lemmas.List.Sorted.{IsPermutation-sym}
use Rattle.rectangle_pack_sections.proofs.lemmas.util.Lists.{All-front, AllPairs-head, AllPairs-tail}
use Rattle.rectangle_pack.specs.declared.grouped_rects_to_place.Group.{Group}
use Rattle.rectangle_pack.specs.declared.grouped_rects_to_place.Group.TheVariants.{Grouped}
use Rattle.rectangle_pack.specs.declared.pack.Placement.{Placement}
use Rattle.rectangle_pack.specs.declared.session.command.Outstanding.{Outstanding}
use Rattle.rectangle_pack.specs.Groups.{Collection}
use Rattle.rectangle_pack.specs.Packing.{AreKeptApart}
use Rattle.rectangle_pack.specs.Placed.{ArePlacedWhole}
use Rattle.rectangle_pack.specs.Session.{numbered}
use Rattle.rectangle_pack_c.specs.declared.RpBox.{RpBox}
use Rattle.rectangle_pack_c.specs.declared.RpPlacement.{RpPlacement}
use Rattle.rectangle_pack_c.specs.declared.collection.RpExclusion.{RpExclusion}
use Rattle.rectangle_pack_c.specs.Answers.{box_at, corner_of, Stands}
use Rattle.rectangle_pack_c.specs.Collections.{group_order, group_of, IsCollected}
use Rattle.rectangle_pack_c.specs.Fitting.{left_placement}
use Rattle.rectangle_pack_c.specs.private.Written.{as_placement, AreWrittenAmong}
use Rattle.rectangle_pack_c.proofs.OrderLemmas.{group_same}
use Rattle.rectangle_pack_c.proofs.CollectedLemmas.{AreHeld, collected_held}
use Rattle.rectangle_pack_c.proofs.WholeLemmas.{none_in, in_cases, in_map, from_map, homed, placed_for, pairs_none}
use Rattle.rectangle_pack_c.proofs.PlacedLemmas.{no_box, found_and, comes_from, stand_together, known_ids, placed_alone, placements_each, records_each}
use Rattle.rectangle_pack_c.proofs.PlacedLemmas.{home_named, homes_apart}

-- pairs of the left part, and across
pub pairs_left : {X : Type 0} (R : X → X → Type 0) (xs ys : List X) → AllPairs R (xs ++ ys) → AllPairs R xs
pairs_left R [] ys h = pairs_none R
pairs_left R (x ∷ xs) ys h =
    AllPairs-cons R x xs (All-front (R x) xs ys (AllPairs-head R x (xs ++ ys) h)) (pairs_left R xs ys (AllPairs-tail R x (xs ++ ys) h))

pairs_across : {X : Type 0} (R : X → X → Type 0) (xs ys : List X) → AllPairs R (xs ++ ys) → (x y : X) → Contains xs x → Contains ys y → R x y
pairs_across R [] ys h x y cx cy = absurd (none_in x cx)
pairs_across R (z ∷ zs) ys h x y cx cy = by (in_cases z zs x cx) (λ more. pairs_across R zs ys (AllPairs-tail R z (zs ++ ys) h) x y more cy)
  where
    by : (z ≡ x) ⊎ Contains zs x → (Contains zs x → R x y) → R x y
    by (inl e) ih = subst (λ w. R w y) e (All-contains (R z) (zs ++ ys) y (AllPairs-head R z (zs ++ ys) h) (Contains-append_right zs ys y cy))
    by (inr more) ih = ih more

-- a key has an entry
key_found : {X : Type 0} (es : List (Group ℕ ℕ × X)) (k : Group ℕ ℕ) → Contains (keys_of es) k → (x : X) × (lookup (is_at (group_order k)) es ≡ Some x)
key_found [] k c = absurd (none_in k c)
key_found {X} (e ∷ es) k c = by (is_eq (group_order k e.0)) refl (in_cases e.0 (keys_of es) k c) (key_found es k)
  where
    by : (t : Bool) → is_eq (group_order k e.0) ≡ t → (e.0 ≡ k) ⊎ Contains (keys_of es) k
        → (Contains (keys_of es) k → (x : X) × (lookup (is_at (group_order k)) es ≡ Some x))
        → (x : X) × (cond t (Some e.1) (lookup (is_at (group_order k)) es) ≡ Some x)
    by true t c ih = (e.1, refl)
    by false t (inl same) ih = absurd (let yes : is_eq (group_order k e.0) ≡ true = rw same (group_same k) in cc)
    by false t (inr more) ih = ih more

same_nat : (a : ℕ) → nat_cmp a a ≡ Equal
same_nat a = sym (nat_cmp_is a a Equal refl)

-- a group that is left, with the bin of what is left
abbrev pub nowhere : Group ℕ ℕ → Group ℕ ℕ × ℕ
nowhere k = (k, 0xffffffff)

-- a box that is left, as a placement there
abbrev pub lost_box : List RpBox → ℕ → Placement ℕ ℕ
lost_box boxes i = record { id = i; bin = 0xffffffff; location = box_at (get_or boxes i no_box) left_placement }

abbrev ids_of : Collection ℕ ℕ → Group ℕ ℕ → List ℕ
ids_of all k = unwrap_or (lookup (is_at (group_order k)) all.groups) []

-- the boxes of these groups
abbrev pub lost_boxes : List RpBox → Collection ℕ ℕ → List (Group ℕ ℕ) → List (Placement ℕ ℕ)
lost_boxes boxes all [] = []
lost_boxes boxes all (k ∷ ks) = map (lost_box boxes) (ids_of all k) ++ lost_boxes boxes all ks

lost_is : (boxes : List RpBox) (all : Collection ℕ ℕ) (ks : List (Group ℕ ℕ)) (q : Placement ℕ ℕ) → Contains (lost_boxes boxes all ks) q
    → (i : ℕ) × (q ≡ lost_box boxes i)
lost_is boxes all [] q c = absurd (none_in q c)
lost_is boxes all (k ∷ ks) q c = by (Contains-append_cases (map (lost_box boxes) (ids_of all k)) (lost_boxes boxes all ks) q c) (lost_is boxes all ks q)
  where
    by : Contains (map (lost_box boxes) (ids_of all k)) q ⊎ Contains (lost_boxes boxes all ks) q
        → (Contains (lost_boxes boxes all ks) q → (i : ℕ) × (q ≡ lost_box boxes i)) → (i : ℕ) × (q ≡ lost_box boxes i)
    by (inl here) ih = let (i, inside, is) = from_map (lost_box boxes) (ids_of all k) q here in (i, sym is)
    by (inr more) ih = ih more

-- one list of homes after another
whole_append : (all : Collection ℕ ℕ) (homes more : List (Group ℕ ℕ × ℕ)) (ps qs : List (Placement ℕ ℕ))
    → ArePlacedWhole nat_cmp nat_cmp group_order all.sizes all.groups homes ps → ArePlacedWhole nat_cmp nat_cmp group_order all.sizes all.groups more qs
    → ArePlacedWhole nat_cmp nat_cmp group_order all.sizes all.groups (homes ++ more) (ps ++ qs)
whole_append all [] more ps qs none h = rw none h
whole_append all (home ∷ homes) more ps qs (ids, first, later, listed, placed, rest, joined) h =
    (ids, first, later ++ qs, listed, placed, whole_append all homes more later qs rest h, ap (λ xs. xs ++ qs) joined ∙ append_assoc first later qs)

-- a box is placed for a group that is not left
pub record IsFrom (ps : List (Placement ℕ ℕ)) (left : List (Group ℕ ℕ)) (i : ℕ) (b : RpBox) (p : RpPlacement) : Type 0 where
  pub from : Placement ℕ ℕ
  pub inside : Contains ps from
  pub id : from.id ≡ i
  pub bin : p.bin ≡ from.bin
  pub location : box_at b p ≡ from.location
  pub taken : ¬ Contains left (group_of i b)

-- or its group is left
pub record IsLost (lost : List (Placement ℕ ℕ)) (left : List (Group ℕ ℕ)) (i : ℕ) (b : RpBox) : Type 0 where
  pub from : Placement ℕ ℕ
  pub inside : Contains lost from
  pub id : from.id ≡ i
  pub group : Contains left (group_of i b)

module _ (boxes : List RpBox) (exclusions : List RpExclusion) (all : Collection ℕ ℕ) (collected : IsCollected boxes exclusions all) where
  held : AreHeld (λ i. get_or boxes i no_box) (length boxes) all
  held = collected_held boxes exclusions no_box all collected

  each_lost : (ids : List ℕ) → All (λ i. i < length boxes) ids
      → AllZip (λ id p. (nat_cmp id p.id ≡ Equal) × (lookup (is_at (nat_cmp id)) all.sizes ≡ Some p.location.whd)) ids (map (lost_box boxes) ids)
  each_lost [] low = tt
  each_lost (i ∷ ids) low =
      ((same_nat i, held.sized i (All-head (λ i. i < length boxes) i ids low)), each_lost ids (All-tail (λ i. i < length boxes) i ids low))

  together_lost : (ids : List ℕ) → All (λ (p : Placement ℕ ℕ). nat_cmp 0xffffffff p.bin ≡ Equal) (map (lost_box boxes) ids)
  together_lost [] = All-nil (λ (p : Placement ℕ ℕ). nat_cmp 0xffffffff p.bin ≡ Equal)
  together_lost (i ∷ ids) =
      All-cons (λ (p : Placement ℕ ℕ). nat_cmp 0xffffffff p.bin ≡ Equal) (lost_box boxes i) (map (lost_box boxes) ids) (same_nat 0xffffffff) (together_lost ids)

  whole_lost : (left : List (Group ℕ ℕ)) → All (λ k. Contains (keys_of all.groups) k) left
      → ArePlacedWhole nat_cmp nat_cmp group_order all.sizes all.groups (map nowhere left) (lost_boxes boxes all left)
  whole_lost [] known = refl
  whole_lost (k ∷ ks) known =
      let (ids, is) = key_found all.groups k (All-head (λ k. Contains (keys_of all.groups) k) k ks known) in
      let low = All-weaker (λ i. (i < length boxes) × (group_of i (get_or boxes i no_box) ≡ k)) (λ i. i < length boxes) (λ i m. m.0) ids (held.members k ids is) in (
        ids,
        map (lost_box boxes) ids,
        lost_boxes boxes all ks,
        is,
        record { each = each_lost ids low; together = together_lost ids },
        whole_lost ks (All-tail (λ k. Contains (keys_of all.groups) k) k ks known),
        ap (λ (o : Option (List ℕ)). map (lost_box boxes) (unwrap_or o []) ++ lost_boxes boxes all ks) is,
      )

  module _ (homes : List (Group ℕ ℕ × ℕ)) (left : List (Group ℕ ℕ)) (moved : IsPermutation (keys_of all.groups) (map (λ h. h.0) homes ++ left))
      (ps : List (Placement ℕ ℕ)) (are : ArePlacedWhole nat_cmp nat_cmp group_order all.sizes all.groups homes ps) where
    abbrev lost : List (Placement ℕ ℕ)
    lost = lost_boxes boxes all left

    known_left : All (λ k. Contains (keys_of all.groups) k) left
    known_left j d low =
        let names = map (λ (h : Group ℕ ℕ × ℕ). h.0) homes in
        Contains-permutation (names ++ left) (keys_of all.groups) (get_or left j d) (IsPermutation-sym (keys_of all.groups) (names ++ left) moved)
        (Contains-append_right names left (get_or left j d) (Contains-get_or left j d low))

    lost_are : ArePlacedWhole nat_cmp nat_cmp group_order all.sizes all.groups (map nowhere left) lost
    lost_are = whole_lost left known_left

    every_moved : IsPermutation (keys_of all.groups) (map (λ h. h.0) (homes ++ map nowhere left))
    every_moved = subst (λ ks. IsPermutation (keys_of all.groups) ks)
        (sym (map-append (λ (h : Group ℕ ℕ × ℕ). h.0) homes (map nowhere left)
        ∙ ap (λ ks. map (λ (h : Group ℕ ℕ × ℕ). h.0) homes ++ ks) (names left))) moved
      where
        names : (ks : List (Group ℕ ℕ)) → map (λ (h : Group ℕ ℕ × ℕ). h.0) (map nowhere ks) ≡ ks
        names [] = refl
        names (k ∷ ks) = ap (λ l. k ∷ l) (names ks)

    every_are : ArePlacedWhole nat_cmp nat_cmp group_order all.sizes all.groups (homes ++ map nowhere left) (ps ++ lost)
    every_are = whole_append all homes (map nowhere left) ps lost are lost_are

    every_id : All (λ (p : Placement ℕ ℕ). p.id < length boxes) (ps ++ lost)
    every_id = known_ids boxes exclusions all collected (ps ++ lost) (homes ++ map nowhere left) every_moved every_are

    every_once : AllPairs (λ (p q : Placement ℕ ℕ). p.id ≢ q.id) (ps ++ lost)
    every_once = placed_alone boxes exclusions all collected (ps ++ lost) (homes ++ map nowhere left) every_moved every_are

    pub fitted_ids : All (λ (p : Placement ℕ ℕ). p.id < length boxes) ps
    fitted_ids = All-front (λ (p : Placement ℕ ℕ). p.id < length boxes) ps lost every_id

    pub fitted_once : AllPairs (λ (p q : Placement ℕ ℕ). p.id ≢ q.id) ps
    fitted_once = pairs_left (λ (p q : Placement ℕ ℕ). p.id ≢ q.id) ps lost every_once

    -- a box that is left is of a group that is left
    lost_group : (q : Placement ℕ ℕ) → Contains lost q → Contains left (group_of q.id (get_or boxes q.id no_box))
    lost_group q inside =
        let (home, there, has) = homed all.sizes all.groups (map nowhere left) lost lost_are q inside in
        let (k, among, is) = from_map nowhere left home there in
        let member : (q.id < length boxes) × (group_of q.id (get_or boxes q.id no_box) ≡ home.0) =
        All-contains (λ i. (i < length boxes) × (group_of i (get_or boxes i no_box) ≡ home.0)) has.ids q.id (held.members home.0 has.ids has.listed) has.member in
        let same : k ≡ group_of q.id (get_or boxes q.id no_box) = ap (λ (h : Group ℕ ℕ × ℕ). h.0) is ∙ sym member.1 in
        subst (λ g. Contains left g) same among

    -- and one that is placed is not
    not_left : (q : Placement ℕ ℕ) → Contains ps q → Contains left (group_of q.id (get_or boxes q.id no_box)) → ⊥
    not_left q inside among =
        let low : q.id < length boxes = All-contains (λ (p : Placement ℕ ℕ). p.id < length boxes) ps q fitted_ids inside in
        let (ids, is, member) = found_and (λ ids. Contains ids q.id) _ (held.there q.id low) in
        let key = group_of q.id (get_or boxes q.id no_box) in
        let (other, there, id) = placed_for all.sizes all.groups (map nowhere left) lost lost_are (nowhere key) (in_map nowhere left key among) ids is
        q.id member in
        pairs_across (λ (p q : Placement ℕ ℕ). p.id ≢ q.id) ps lost every_once q other inside there (sym id)

    -- what is written of a box that is left
    pub lost_at : (X : Type 0) (written : Outstanding ℕ ℕ → X) (entry : X) (n : ℕ) (entries : List X) → AreWrittenAmong written entry (numbered n ps) entries
        → length entries ≡ length boxes → (q : Placement ℕ ℕ) → Contains lost q → slice_get entries q.id ≡ Some entry
    lost_at X written entry n entries w as_many q inside =
        let low : q.id < length boxes = All-contains (λ (p : Placement ℕ ℕ). p.id < length boxes) (ps ++ lost) q every_id
        (Contains-append_right ps lost q inside) in
        let apart : All (λ (p : Placement ℕ ℕ). p.id ≢ q.id) ps = λ k d within.
        pairs_across (λ (p q : Placement ℕ ℕ). p.id ≢ q.id) ps lost every_once (get_or ps k d) q (Contains-get_or ps k d within) inside in
        w.others q.id (omega (arith, low, as_many)) (records_each (λ id p. id ≢ q.id) n ps apart)

    module _ (n : ℕ) (places : List RpPlacement) (w : AreWrittenAmong as_placement left_placement (numbered n ps) places)
        (as_many : length places ≡ length boxes) where
      stood : All (λ p. slice_get places p.id ≡ Some (corner_of p.bin p.location)) (ps ++ lost)
      stood = All-append (λ (p : Placement ℕ ℕ). slice_get places p.id ≡ Some (corner_of p.bin p.location)) ps lost
          (placements_each (λ id q. slice_get places id ≡ Some q) n ps w.placed)
          (λ k d within.
          let q = get_or lost k d in
          let inside = Contains-get_or lost k d within in
          let (i, is) = lost_is boxes all left q inside in
          lost_at RpPlacement as_placement left_placement n places w as_many q inside
          ∙ ap (λ (p : Placement ℕ ℕ). Some (corner_of p.bin p.location)) (sym is))

      -- each box is placed, or its group is left
      pub placed_or_lost : (i : ℕ) (b : RpBox) (p : RpPlacement) → Stands boxes places i b p → IsFrom ps left i b p ⊎ IsLost lost left i b
      placed_or_lost i b p s =
          let f = comes_from boxes exclusions all collected (ps ++ lost) (homes ++ map nowhere left) every_moved every_are places stood i b p s in
          let is_b : get_or boxes i no_box ≡ b = get_or_from_slice_get boxes i b no_box s.box in
          let key : group_of f.from.id (get_or boxes f.from.id no_box) ≡ group_of i b =
          ap (λ j. group_of j (get_or boxes j no_box)) f.id ∙ ap (λ c. group_of i c) is_b in
          by f.from f.id f.bin f.location key (Contains-append_cases ps lost f.from f.inside)
        where
          by : (q : Placement ℕ ℕ) → q.id ≡ i → p.bin ≡ q.bin → box_at b p ≡ q.location → group_of q.id (get_or boxes q.id no_box) ≡ group_of i b
              → Contains ps q ⊎ Contains lost q → IsFrom ps left i b p ⊎ IsLost lost left i b
          by q id bin location key (inl inside) = inl (record {
            from = q;
            inside = inside;
            id = id;
            bin = bin;
            location = location;
            taken = λ among. not_left q inside (subst (λ g. Contains left g) (sym key) among);
          })
          by q id bin location key (inr inside) =
              inr (record { from = q; inside = inside; id = id; group = subst (λ g. Contains left g) key (lost_group q inside) })

      -- boxes of one group are in one bin, that of what is left among them
      pub fitted_together : (i j : ℕ) (a b : RpBox) (p q : RpPlacement) → Stands boxes places i a p → Stands boxes places j b q → 0 < a.group
          → a.group ≡ b.group → p.bin ≡ q.bin
      fitted_together i j a b p q s t named same =
          stand_together boxes exclusions all collected (ps ++ lost) (homes ++ map nowhere left) every_moved every_are places stood i j a b p q s t named same

    -- boxes that are placed for groups that are excluded are in different bins
    pub fitted_apart : All (λ e. e.one ≢ e.other) exclusions → AreKeptApart group_order nat_cmp all.partners homes
        → (i j : ℕ) (a b : RpBox) (p q : RpPlacement) → slice_get boxes i ≡ Some a → slice_get boxes j ≡ Some b
        → IsFrom ps left i a p → IsFrom ps left j b q → 0 < a.group → 0 < b.group
        → (e : RpExclusion) → Contains exclusions e → a.group ≡ e.one → b.group ≡ e.other → p.bin ≢ q.bin
    fitted_apart differ apart i j a b p q in_a in_b f g named others e inside one other same_bin =
        let (ha, home_a, key_a, bin_a) = home_named boxes exclusions all collected homes ps are i a f.from in_a f.inside f.id named in
        let (hb, home_b, key_b, bin_b) = home_named boxes exclusions all collected homes ps are j b g.from in_b g.inside g.id others in
        homes_apart boxes exclusions all collected homes differ apart ha hb home_a home_b e inside (key_a ∙ ap (λ n. Grouped n) one)
        (key_b ∙ ap (λ n. Grouped n) other) (bin_a ∙ sym f.bin ∙ same_bin ∙ g.bin ∙ sym bin_b)
