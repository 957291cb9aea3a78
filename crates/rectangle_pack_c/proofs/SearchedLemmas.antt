-- What is written of a packing that is searched for.
use Rattle.rectangle_pack_c.proofs.Std.{◌≡◌, ◌≢◌, ◌⊎◌, inl, inr, ℕ, ◌+◌, ◌<◌, ◌≤◌, ◌^◌, ◌==◌, Bool, false, List, [], ◌++◌, length, refl, ap, sym, ◌∙◌, subst, arith}
use Rattle.rectangle_pack_c.proofs.Std.{Ordering, Result, Some, All, AllPairs, Contains, map, slice_get, option_map, IsPermutation, IsSome, IsSomeAnd, Global, keys_of, lookup, is_at, nat_cmp}
use Rattle.rectangle_pack_c.proofs.Std.{All-contains, All-weaker, Contains-append_right, slice_get-map, slice_get_within, length-map, nat_tests, nat_cmp_total, IsDistinct-from_sorted}
use Rattle.std.specs.Prelude.{count_by, Err}
use Rattle.rectangle_pack_packing.specs.Fitting.{names_left}
use Rattle.rectangle_pack_packing.specs.KeptBins.{KeepsEachBin}
use Rattle.rectangle_pack_packing.specs.Told.{in_sizes}
use Rattle.rectangle_pack_packing.specs.ToldLaws.{home_of}
use Rattle.rectangle_pack_packing.proofs.lemmas.packing.ToldLaws.{tellings_keep_cells}
use Rattle.rectangle_pack_sections.proofs.lemmas.util.Searches.{some_of}
use Rattle.rectangle_pack.specs.declared.Turns.{Turns}
use Rattle.rectangle_pack.specs.declared.grouped_rects_to_place.Group.{Group}
use Rattle.rectangle_pack.specs.declared.grouped_rects_to_place.Group.TheVariants.{Grouped}
use Rattle.rectangle_pack.specs.declared.pack.Placement.{Placement}
use Rattle.rectangle_pack.specs.declared.searching.answer.Searched.{Searched}
use Rattle.rectangle_pack.specs.declared.session.command.Outstanding.{Outstanding}
use Rattle.rectangle_pack.specs.declared.session.command.Packed.{Packed as Numbers}
use Rattle.rectangle_pack.specs.declared.session.command.SessionError.{SessionError}
use Rattle.rectangle_pack.specs.declared.session.command.SessionError.TheVariants.{NotEnoughBinSpace, NumbersUsedUp, OutOfMemory}
use Rattle.rectangle_pack.specs.Bins.{Bin}
use Rattle.rectangle_pack.specs.Boxes.{Cuboid, IsInside, AreApart}
use Rattle.rectangle_pack.specs.Groups.{Collection}
use Rattle.rectangle_pack.specs.Placed.{ArePlacedWhole}
use Rattle.rectangle_pack.specs.Session.{State, IsSession, numbered}
use Rattle.rectangle_pack.specs.SessionSearched.{PacksSearched, PlacesSearched, SearchedAsPromised}
use Rattle.rectangle_pack_c.specs.declared.RpBin.{RpBin}
use Rattle.rectangle_pack_c.specs.declared.RpBox.{RpBox}
use Rattle.rectangle_pack_c.specs.declared.RpPlacement.{RpPlacement}
use Rattle.rectangle_pack_c.specs.declared.collection.RpCollection.{RpCollection}
use Rattle.rectangle_pack_c.specs.declared.collection.RpExclusion.{RpExclusion}
use Rattle.rectangle_pack_c.specs.declared.standing.RpStanding.{RpStanding}
use Rattle.rectangle_pack_c.specs.declared.searching.RpLocation.{RpLocation}
use Rattle.rectangle_pack_c.specs.declared.searching.RpSearched.{RpSearched}
use Rattle.rectangle_pack_c.specs.declared.searching.RpSearchOptions.{RpSearchOptions}
use Rattle.rectangle_pack_c.specs.Answers.{Stands}
use Rattle.rectangle_pack_c.specs.Arguments.{bin_size, box_size, new_bins}
use Rattle.rectangle_pack_c.specs.Collections.{IsCollected, all_boxes, group_of, group_order}
use Rattle.rectangle_pack_c.specs.Fitting.{left_placement, session_with}
use Rattle.rectangle_pack_c.specs.Reading.{cuboid_of, standing_of}
use Rattle.rectangle_pack_c.specs.Searching.{AreLaid, AreLaidNow, FoundCollection, IsRefusedSearch, IsLaid, IsLaidNow, LaidApart, LiesAt, MayStand, RefusesSearch, SearchesNewBins, StandLaidApart}
use Rattle.rectangle_pack_c.specs.Searching.{left_location, left_standing, location_says_left, may_leave, standing_says_left}
use Rattle.rectangle_pack_c.specs.Turning.{AreTurnsOf}
use Rattle.rectangle_pack_c.specs.private.Written.{as_location, as_placement, AreWrittenAmong, NewAreWrittenAmong}
use Rattle.rectangle_pack_c.proofs.FittingLemmas.{IsFrom, IsLost, fitted_apart, fitted_ids, fitted_once, fitted_together, lost_at, lost_boxes, placed_or_lost}
use Rattle.rectangle_pack_c.proofs.LaidLemmas.{all_laid, from_zero, laid, laid_at, laid_box, laid_collected, laid_length, laid_way, laid_whole}
use Rattle.rectangle_pack_c.proofs.PlacedLemmas.{records_each, records_once}
use Rattle.rectangle_pack_c.proofs.SessionLemmas.{found_number, new_entries, same_number}
use Rattle.rectangle_pack_c.proofs.StandingLemmas.{IsKeptAs, kept_bin, stand_apart, stand_inside}
use Rattle.rectangle_pack_c.proofs.StepLemmas.{named_or_left, steps_known}

named_group : (i : ℕ) (b : RpBox) → 0 < b.group → group_of i b ≡ Grouped b.group
named_group i b named = let not_alone : (b.group == 0) ≡ false = grind (arith, nat_tests) in rw not_alone refl

module _ (c : RpCollection) (numbers : List ℕ) (all : Collection ℕ ℕ) (collected : IsCollected (all_boxes c) c.exclusions.now all)
    (turns : List (ℕ × Turns)) (turns_are : AreTurnsOf c numbers turns) (may : Bool) (costs : List (ℕ × ℕ)) (left : List (Group ℕ ℕ))
    (old new : State ℕ ℕ) (made : PlacesSearched group_order nat_cmp nat_cmp all turns may costs old left new) where
  abbrev boxes : List RpBox
  boxes = all_boxes c

  abbrev pairs : List RpExclusion
  pairs = c.exclusions.now

  abbrev homes : List (Group ℕ ℕ × ℕ)
  homes = map home_of made.steps

  abbrev ps : List (Placement ℕ ℕ)
  ps = made.places.placements

  abbrev stood : List RpBox
  stood = laid made.sizes boxes pairs all collected

  abbrev all_stood : Collection ℕ ℕ
  all_stood = all_laid made.sizes boxes pairs all collected

  stood_are : IsCollected stood pairs all_stood
  stood_are = laid_collected made.sizes boxes pairs all collected

  whole : ArePlacedWhole nat_cmp nat_cmp group_order all_stood.sizes all_stood.groups homes ps
  whole = laid_whole made.sizes boxes pairs all collected homes ps made.places.whole

  moved : IsPermutation (keys_of all.groups) (map (λ h. h.0) homes ++ left)
  moved = named_or_left all (IsDistinct-from_sorted group_order (keys_of all.groups) collected.ascend) made.steps made.places.once
      (steps_known (in_sizes all made.sizes) made.steps ps made.places.whole) left made.not_named

  many : length stood ≡ length boxes
  many = laid_length made.sizes 0 boxes

  abbrev pub found_records : List (Outstanding ℕ ℕ)
  found_records = numbered old.next ps

  pub found_ids : All (λ r. r.id < length boxes) found_records
  found_ids = records_each (λ id p. id < length boxes) old.next ps
      (rw many at (fitted_ids stood pairs all_stood stood_are homes left moved ps whole))

  pub found_once : AllPairs (λ r s. r.id ≢ s.id) found_records
  found_once = records_once old.next ps (fitted_once stood pairs all_stood stood_are homes left moved ps whole)

  abbrev lost : List (Placement ℕ ℕ)
  lost = lost_boxes stood all_stood left

  -- box i is outstanding, and this is written of it
  pub record IsSeen {X : Type 0} (written : Outstanding ℕ ℕ → X) (i : ℕ) (b : RpBox) (x : X) : Type 0 where
    pub found : Outstanding ℕ ℕ
    pub inside : Contains found_records found
    pub id : found.id ≡ i
    pub is : x ≡ written found
    pub fresh : old.next ≤ found.number
    pub stands : MayStand c numbers i b found.location.whd
    pub taken : ¬ Contains left (group_of i b)

  module _ (X : Type 0) (written : Outstanding ℕ ℕ → X) (entry : X) (corner : X → RpPlacement) (corner_is : (o : Outstanding ℕ ℕ) → corner (written o) ≡ as_placement o)
      (corner_left : corner entry ≡ left_placement) (outs : List X) (w : AreWrittenAmong written entry found_records outs)
      (as_many : length outs ≡ length boxes) where
    corners : AreWrittenAmong as_placement left_placement found_records (map corner outs)
    corners = record {
      placed = All-weaker (λ (r : Outstanding ℕ ℕ). slice_get outs r.id ≡ Some (written r))
          (λ r. slice_get (map corner outs) r.id ≡ Some (as_placement r))
          (λ r at. slice_get-map corner outs r.id ∙ ap (option_map corner) at ∙ ap (λ p. Some p) (corner_is r)) found_records w.placed;
      others = λ k low none.
          slice_get-map corner outs k ∙ ap (option_map corner) (w.others k (omega (arith, low, length-map outs corner)) none)
          ∙ ap (λ p. Some p) corner_left;
    }

    corners_many : length (map corner outs) ≡ length stood
    corners_many = length-map outs corner ∙ as_many ∙ sym many

    standing : (i : ℕ) (b : RpBox) (x : X) → LiesAt boxes outs i b x → Stands stood (map corner outs) i (laid_box made.sizes i b) (corner x)
    standing i b x a = record {
      box = laid_at made.sizes 0 boxes i i b (from_zero i) a.box;
      at = slice_get-map corner outs i ∙ ap (option_map corner) a.at;
    }

    abbrev From : ℕ → RpBox → X → Type 0
    From i b x = IsFrom ps left i (laid_box made.sizes i b) (corner x)

    abbrev Lost : ℕ → RpBox → Type 0
    Lost i b = IsLost lost left i (laid_box made.sizes i b)

    either : (i : ℕ) (b : RpBox) (x : X) → LiesAt boxes outs i b x → From i b x ⊎ Lost i b
    either i b x a =
        placed_or_lost stood pairs all_stood stood_are homes left moved ps whole old.next (map corner outs) corners corners_many
        i (laid_box made.sizes i b) (corner x) (standing i b x a)

    seen : (i : ℕ) (b : RpBox) (x : X) → LiesAt boxes outs i b x → From i b x → IsSeen written i b x
    seen i b x a f =
        let (r, inside, id, bin, location, low) = found_number old.next ps f.from f.inside in
        let r_id : r.id ≡ i = id ∙ f.id in
        let at : slice_get outs r.id ≡ Some (written r) =
        All-contains (λ (r : Outstanding ℕ ℕ). slice_get outs r.id ≡ Some (written r)) found_records r w.placed inside in
        let both : Some x ≡ Some (written r) = sym a.at ∙ rw r_id at at in
        let size : box_size (laid_box made.sizes i b) ≡ r.location.whd =
        ap (λ (q : Cuboid). q.whd) (f.location ∙ sym location) in
        record {
          found = r;
          inside = inside;
          id = r_id;
          is = cc;
          fresh = low;
          stands = subst (MayStand c numbers i b) size
              (laid_way c all collected numbers turns turns_are made.sizes made.ways i b (slice_get_within boxes i b a.box) a.box);
          taken = f.taken;
        }

    gone : (i : ℕ) (b : RpBox) (x : X) → LiesAt boxes outs i b x → Lost i b → x ≡ entry
    gone i b x a l =
        let at : slice_get outs l.from.id ≡ Some entry =
        lost_at stood pairs all_stood stood_are homes left moved ps whole X written entry old.next outs w (as_many ∙ sym many) l.from l.inside in
        let both : Some x ≡ Some entry = sym a.at ∙ rw l.id at at in
        cc

    -- each box is outstanding, or its group is left
    pub seen_or_left : (i : ℕ) (b : RpBox) (x : X) → LiesAt boxes outs i b x → IsSeen written i b x ⊎ (Contains left (group_of i b) × (x ≡ entry))
    seen_or_left i b x a = by (either i b x a)
      where
        by : From i b x ⊎ Lost i b → IsSeen written i b x ⊎ (Contains left (group_of i b) × (x ≡ entry))
        by (inl f) = inl (seen i b x a f)
        by (inr l) = inr (l.group, gone i b x a l)

    -- boxes of one group are in one bin, that of what is left among them
    pub seen_together : (i j : ℕ) (a b : RpBox) (x y : X) → LiesAt boxes outs i a x → LiesAt boxes outs j b y → 0 < a.group → a.group ≡ b.group
        → (corner x).bin ≡ (corner y).bin
    seen_together i j a b x y s t named same =
        fitted_together stood pairs all_stood stood_are homes left moved ps whole old.next (map corner outs) corners corners_many i j
        (laid_box made.sizes i a) (laid_box made.sizes j b) (corner x) (corner y) (standing i a x s) (standing j b y t) named same

    -- boxes of groups that are excluded are in different bins, where they are not left
    pub seen_apart : All (λ e. e.one ≢ e.other) pairs → (i j : ℕ) (a b : RpBox) (x y : X) → LiesAt boxes outs i a x → LiesAt boxes outs j b y
        → 0 < a.group → 0 < b.group → (e : RpExclusion) → Contains pairs e → a.group ≡ e.one → b.group ≡ e.other
        → (x ≡ entry → ⊥) → (y ≡ entry → ⊥) → (corner x).bin ≢ (corner y).bin
    seen_apart differ i j a b x y s t named others e inside one other ne_x ne_y same = by (either i a x s) (either j b y t)
      where
        by : From i a x ⊎ Lost i a → From j b y ⊎ Lost j b → ⊥
        by (inl f) (inl g) =
            fitted_apart stood pairs all_stood stood_are homes left moved ps whole differ made.places.apart i j (laid_box made.sizes i a)
            (laid_box made.sizes j b) (corner x) (corner y) (standing i a x s).box (standing j b y t).box f g named others e inside one other same
        by (inl f) (inr l) = ne_y (gone j b y t l)
        by (inr l) g = ne_x (gone i a x s l)

-- the order of groups by another name
module _ (R : Group ℕ ℕ → Group ℕ ℕ → Ordering) (same : R ≡ group_order) (all : Collection ℕ ℕ) (turns : List (ℕ × Turns)) (may : Bool) (costs : List (ℕ × ℕ))
    (old new : State ℕ ℕ) (result : Result (Searched Numbers (Group ℕ ℕ) Global) SessionError) where
  pub searched_ordered : PacksSearched R nat_cmp nat_cmp all turns may costs old result new
      → PacksSearched group_order nat_cmp nat_cmp all turns may costs old result new
  searched_ordered h = subst (λ r. PacksSearched r nat_cmp nat_cmp all turns may costs old result new) same h

  pub promise_ordered : SearchedAsPromised R nat_cmp nat_cmp all turns may costs old result new
      → SearchedAsPromised group_order nat_cmp nat_cmp all turns may costs old result new
  promise_ordered h = subst (λ r. SearchedAsPromised r nat_cmp nat_cmp all turns may costs old result new) same h

-- a search that is refused
pub refused_search : (c : RpCollection) (o : RpSearchOptions) (all : Collection ℕ ℕ) → IsCollected (all_boxes c) c.exclusions.now all
    → (turns : List (ℕ × Turns)) (costs : List (ℕ × ℕ)) (may : Bool) → may ≡ may_leave o → (error : SessionError) (old new : State ℕ ℕ)
    → PacksSearched group_order nat_cmp nat_cmp all turns may costs {A = Global} old (Err error) new
    → SearchedAsPromised group_order nat_cmp nat_cmp all turns may costs {A = Global} old (Err error) new
    → RefusesSearch c o old error new
refused_search c o all collected turns costs may is NumbersUsedUp old new packs promise = (all, collected, packs.0, packs.1)
refused_search c o all collected turns costs may is NotEnoughBinSpace old new packs promise = (all, collected, sym is ∙ packs.1, promise, packs.3)
refused_search c o all collected turns costs may is OutOfMemory old new packs promise = packs.1
refused_search c o all collected turns costs may is error old new packs promise = absurd packs

-- what is told says how many are left besides
abbrev pub with_left : (c : RpCollection) (o : RpSearchOptions) (told : RpSearched) (old new : State ℕ ℕ) → FoundCollection c o told old new → (count : ℕ)
    → FoundCollection c o (record told { left = count }) old new
with_left c o told old new it count = record {
  all = it.all;
  collected = it.collected;
  turns = it.turns;
  turns_are = it.turns_are;
  costs = it.costs;
  costs_are = it.costs_are;
  found = it.found;
  packed = it.packed;
  promised = it.promised;
  used = it.used;
  least = it.least;
  optimal = it.optimal;
}

-- all that is said of a session into which a packing was searched for
module _ (c : RpCollection) (o : RpSearchOptions) (told : RpSearched) (old new : State ℕ ℕ) (it : FoundCollection c o told old new) where
  abbrev left : List (Group ℕ ℕ)
  left = names_left it.found.left

  abbrev made : PlacesSearched group_order nat_cmp nat_cmp it.all it.turns (may_leave o) it.costs old left new
  made = it.promised

  abbrev pub records_found : List (Outstanding ℕ ℕ)
  records_found = found_records c o.turns.now it.all it.collected it.turns it.turns_are (may_leave o) it.costs left old new made

  pub records_found_are : new.outstanding ≡ old.outstanding ++ records_found
  records_found_are = made.places.outstanding

  pub records_found_ids : All (λ r. r.id < length (all_boxes c)) records_found
  records_found_ids = found_ids c o.turns.now it.all it.collected it.turns it.turns_are (may_leave o) it.costs left old new made

  pub records_found_once : AllPairs (λ r s. r.id ≢ s.id) records_found
  records_found_once = found_once c o.turns.now it.all it.collected it.turns it.turns_are (may_leave o) it.costs left old new made

  there : (r : Outstanding ℕ ℕ) → Contains records_found r → Contains new.outstanding r
  there r inside = rw records_found_are (Contains-append_right old.outstanding records_found r inside)

  abbrev Seen : {X : Type 0} → (Outstanding ℕ ℕ → X) → ℕ → RpBox → X → Type 0
  Seen written i b x = IsSeen c o.turns.now it.all it.collected it.turns it.turns_are (may_leave o) it.costs left old new made written i b x

  module _ (outs : List RpStanding) (written : NewAreWrittenAmong standing_of left_standing old new outs) (as_many : length outs ≡ length (all_boxes c)) where
    at_end : AreWrittenAmong standing_of left_standing records_found outs
    at_end = subst (λ rs. AreWrittenAmong standing_of left_standing rs outs)
        (new_entries old.outstanding records_found new.outstanding records_found_are) written

    abbrev corner : RpStanding → RpPlacement
    corner s = record { bin = s.bin; x = s.section.x; y = s.section.y; z = s.section.z }

    each : (i : ℕ) (b : RpBox) (p : RpStanding) → LiesAt (all_boxes c) outs i b p → Seen standing_of i b p ⊎ (Contains left (group_of i b) × (p ≡ left_standing))
    each i b p a =
        seen_or_left c o.turns.now it.all it.collected it.turns it.turns_are (may_leave o) it.costs left old new made RpStanding standing_of left_standing
        corner (λ r. refl) refl outs at_end as_many i b p a

    pub found_apart : All (λ e. e.one ≢ e.other) c.exclusions.now → StandLaidApart (all_boxes c) c.exclusions.now outs
    found_apart differ i j a b p q s t named others e inside one other ne_p ne_q same =
        seen_apart c o.turns.now it.all it.collected it.turns it.turns_are (may_leave o) it.costs left old new made RpStanding standing_of left_standing
        corner (λ r. refl) refl outs at_end as_many differ i j a b p q s t named others e inside one other
        (λ is. ne_p (ap (λ (x : RpStanding). x.number) is)) (λ is. ne_q (ap (λ (x : RpStanding). x.number) is)) same

    module _ (always : IsSession nat_cmp new) (fits : new.next < 2 ^ 64) where
      below : (r : Outstanding ℕ ℕ) → Contains records_found r → r.number < 0xffffffffffffffff
      below r inside =
          let low : r.number < new.next = All-contains (λ (r : Outstanding ℕ ℕ). r.number < new.next) new.outstanding r always.below (there r inside) in
          omega (arith, low, fits)

      laid_now : (i : ℕ) (b : RpBox) (p : RpStanding) → Seen standing_of i b p → IsLaidNow c o left old new i b p
      laid_now i b p s = subst (λ (x : RpStanding). IsLaidNow c o left old new i b x) (sym s.is) (record {
        outstanding = subst (λ j. Contains new.outstanding (record { number = s.found.number; id = j; bin = s.found.bin; location = s.found.location })) s.id
            (there s.found s.inside);
        index = s.id;
        stands = s.stands;
        fresh = s.fresh;
        number = below s.found s.inside;
        taken = s.taken;
      })

      pub laid_all : (count : ℕ) → count ≡ count_by standing_says_left outs → AreLaidNow c o outs left count old new
      laid_all count counted = record {
        as_many = as_many;
        each = λ i b p a. by i b p (each i b p a);
        apart = λ i j a b p q s t differ same. numbers i j a b p q differ same (each i a p s) (each j b q t);
        together = λ i j a b p q s t named same. (
          seen_together c o.turns.now it.all it.collected it.turns it.turns_are (may_leave o) it.costs left old new made RpStanding standing_of left_standing
              corner (λ r. refl) refl outs at_end as_many i j a b p q s t named same,
          groups i j a b p q named same (each i a p s) (each j b q t),
        );
        counted = counted;
      }
        where
          by : (i : ℕ) (b : RpBox) (p : RpStanding) → Seen standing_of i b p ⊎ (Contains left (group_of i b) × (p ≡ left_standing))
              → IsLaidNow c o left old new i b p ⊎ (Contains left (group_of i b) × (p ≡ left_standing))
          by i b p (inl s) = inl (laid_now i b p s)
          by i b p (inr l) = inr l

          numbers : (i j : ℕ) (a b : RpBox) (p q : RpStanding) → i ≢ j → p.number ≡ q.number
              → Seen standing_of i a p ⊎ (Contains left (group_of i a) × (p ≡ left_standing))
              → Seen standing_of j b q ⊎ (Contains left (group_of j b) × (q ≡ left_standing)) → p.number ≡ 0xffffffffffffffff
          numbers i j a b p q differ same (inl s) (inl t) =
              let one : s.found.number ≡ t.found.number =
              sym (ap (λ (x : RpStanding). x.number) s.is) ∙ same ∙ ap (λ (x : RpStanding). x.number) t.is in
              absurd (differ (sym s.id ∙ ap (λ (r : Outstanding ℕ ℕ). r.id)
              (same_number old.next made.places.placements s.found t.found s.inside t.inside one) ∙ t.id))
          numbers i j a b p q differ same s (inr l) = same ∙ ap (λ (x : RpStanding). x.number) l.1
          numbers i j a b p q differ same (inr l) (inl t) = ap (λ (x : RpStanding). x.number) l.1

          groups : (i j : ℕ) (a b : RpBox) (p q : RpStanding) → 0 < a.group → a.group ≡ b.group
              → Seen standing_of i a p ⊎ (Contains left (group_of i a) × (p ≡ left_standing))
              → Seen standing_of j b q ⊎ (Contains left (group_of j b) × (q ≡ left_standing))
              → p.number ≡ 0xffffffffffffffff → q.number ≡ 0xffffffffffffffff
          groups i j a b p q named same (inl s) t is = absurd (omega (arith, (laid_now i a p s).number, is))
          groups i j a b p q named same (inr l) (inl t) is =
              let one : group_of i a ≡ group_of j b =
              named_group i a named ∙ ap (λ n. Grouped n) same ∙ sym (named_group j b (omega (arith, named, same))) in
              absurd (t.taken (subst (λ k. Contains left k) one l.0))
          groups i j a b p q named same (inr l) (inr m) is = ap (λ (x : RpStanding). x.number) m.1

-- the same of a session that began with these bins
module _ (c : RpCollection) (o : RpSearchOptions) (bins : List RpBin) (few : length bins < 2 ^ 32) (told : RpSearched) (new : State ℕ ℕ)
    (it : FoundCollection c o told (session_with bins) new) (always : IsSession nat_cmp new) (outs : List RpLocation)
    (written : NewAreWrittenAmong as_location left_location (session_with bins) new outs) (as_many : length outs ≡ length (all_boxes c)) where
  abbrev gone_groups : List (Group ℕ ℕ)
  gone_groups = names_left it.found.left

  abbrev laid_out : PlacesSearched group_order nat_cmp nat_cmp it.all it.turns (may_leave o) it.costs (session_with bins) gone_groups new
  laid_out = it.promised

  abbrev those : List (Outstanding ℕ ℕ)
  those = records_found c o told (session_with bins) new it

  written_there : AreWrittenAmong as_location left_location those outs
  written_there = subst (λ rs. AreWrittenAmong as_location left_location rs outs)
      (new_entries [] those new.outstanding (records_found_are c o told (session_with bins) new it)) written

  abbrev corner_there : RpLocation → RpPlacement
  corner_there s = record { bin = s.bin; x = s.section.x; y = s.section.y; z = s.section.z }

  abbrev SeenThere : ℕ → RpBox → RpLocation → Type 0
  SeenThere i b x =
      IsSeen c o.turns.now it.all it.collected it.turns it.turns_are (may_leave o) it.costs gone_groups (session_with bins) new laid_out as_location i b x

  each_there : (i : ℕ) (b : RpBox) (p : RpLocation) → LiesAt (all_boxes c) outs i b p
      → SeenThere i b p ⊎ (Contains gone_groups (group_of i b) × (p ≡ left_location))
  each_there i b p a =
      seen_or_left c o.turns.now it.all it.collected it.turns it.turns_are (may_leave o) it.costs gone_groups (session_with bins) new laid_out RpLocation
      as_location left_location corner_there (λ r. refl) refl outs written_there as_many i b p a

  pub keeps : KeepsEachBin nat_cmp (new_bins bins) it.packed.1.placements new.bins
  keeps =
      let done = it.packed.1.done in
      tellings_keep_cells group_order nat_cmp nat_cmp nat_cmp_total (in_sizes it.all done.sizes) done.steps (new_bins bins) new.bins it.packed.1.placements done.done

  -- where a box stands that is seen
  pub record IsIn (i : ℕ) (b : RpBox) (p : RpLocation) (s : SeenThere i b p) : Type 0 where
    pub bin : p.bin ≡ s.found.bin
    pub outstanding : Contains new.outstanding s.found
    pub after : Bin
    pub is : lookup (is_at (nat_cmp s.found.bin)) new.bins ≡ Some after
    pub kept : IsKeptAs bins it.packed.1.placements new.bins keeps s.found.bin after

  is_in : (i : ℕ) (b : RpBox) (p : RpLocation) (s : SeenThere i b p) → IsIn i b p s
  is_in i b p s =
      let inside = there c o told (session_with bins) new it s.found s.inside in
      let (after, is) = some_of (lookup (is_at (nat_cmp s.found.bin)) new.bins)
      (All-contains (λ (r : Outstanding ℕ ℕ). IsSome (lookup (is_at (nat_cmp r.bin)) new.bins)) new.outstanding s.found always.known inside) in
      record {
        bin = ap (λ (x : RpLocation). x.bin) s.is;
        outstanding = inside;
        after = after;
        is = is;
        kept = kept_bin bins it.packed.1.placements new.bins keeps s.found.bin after is;
      }

  laid_there : (i : ℕ) (b : RpBox) (p : RpLocation) → SeenThere i b p → IsLaid c o gone_groups new i b p
  laid_there i b p s =
      let at = is_in i b p s in
      let within : s.found.bin < length bins = slice_get_within bins s.found.bin at.kept.bin at.kept.at in
      subst (λ (x : RpLocation). IsLaid c o gone_groups new i b x) (sym s.is) (record {
        number = s.found.number;
        outstanding = subst (λ j. Contains new.outstanding (record { number = s.found.number; id = j; bin = s.found.bin; location = s.found.location })) s.id
            at.outstanding;
        stands = s.stands;
        bin = omega (arith, within, few);
        taken = s.taken;
      })

  pub found_new : (count : ℕ) → count ≡ count_by location_says_left outs → SearchesNewBins c o bins outs (record told { left = count })
  found_new count counted = record {
    after = new;
    it = with_left c o told (session_with bins) new it count;
    each = λ i b p a. by i b p (each_there i b p a);
    counted = counted;
  }
    where
      by : (i : ℕ) (b : RpBox) (p : RpLocation) → SeenThere i b p ⊎ (Contains gone_groups (group_of i b) × (p ≡ left_location))
          → IsLaid c o gone_groups new i b p ⊎ (Contains gone_groups (group_of i b) × (p ≡ left_location))
      by i b p (inl s) = inl (laid_there i b p s)
      by i b p (inr l) = inr l

  abbrev Either : ℕ → RpBox → RpLocation → Type 0
  Either i b p = SeenThere i b p ⊎ (Contains gone_groups (group_of i b) × (p ≡ left_location))

  gone_bin : (p : RpLocation) → p ≡ left_location → p.bin ≡ 0xffffffff
  gone_bin p is = ap (λ (x : RpLocation). x.bin) is

  pub laid_new : AreLaid bins c o.turns.now outs
  laid_new = record {
    as_many = as_many;
    inside = λ i b p a ne. inside i b p ne (each_there i b p a);
    stands = λ i b p a ne. stands i b p ne (each_there i b p a);
    apart = λ i j a b p q s t differ ne same. apart i j a b p q differ ne same (each_there i a p s) (each_there j b q t);
    together = λ i j a b p q s t named same.
        seen_together c o.turns.now it.all it.collected it.turns it.turns_are (may_leave o) it.costs gone_groups (session_with bins) new laid_out RpLocation
        as_location left_location corner_there (λ r. refl) refl outs written_there as_many i j a b p q s t named same;
  }
    where
      inside : (i : ℕ) (b : RpBox) (p : RpLocation) → p.bin ≢ 0xffffffff → Either i b p
          → IsSomeAnd (slice_get bins p.bin) (λ bin. IsInside (bin_size bin) (cuboid_of p.section))
      inside i b p ne (inl s) =
          let at = is_in i b p s in
          subst (λ (x : RpLocation). IsSomeAnd (slice_get bins x.bin) (λ bin. IsInside (bin_size bin) (cuboid_of x.section))) (sym s.is)
          (rw (at.kept.at, sym at.kept.size) (stand_inside new always s.found at.outstanding at.after at.is))
      inside i b p ne (inr l) = absurd (ne (gone_bin p l.1))

      stands : (i : ℕ) (b : RpBox) (p : RpLocation) → p.bin ≢ 0xffffffff → Either i b p → MayStand c o.turns.now i b (cuboid_of p.section).whd
      stands i b p ne (inl s) = (laid_there i b p s).stands
      stands i b p ne (inr l) = absurd (ne (gone_bin p l.1))

      apart : (i j : ℕ) (a b : RpBox) (p q : RpLocation) → i ≢ j → p.bin ≢ 0xffffffff → p.bin ≡ q.bin → Either i a p → Either j b q
          → AreApart (cuboid_of p.section) (cuboid_of q.section)
      apart i j a b p q differ ne same (inl s) (inl t) =
          let at = is_in i a p s in let other = is_in j b q t in
          let two : s.found.number ≢ t.found.number = λ e. differ (sym s.id ∙ ap (λ (r : Outstanding ℕ ℕ). r.id)
          (same_number 0 laid_out.places.placements s.found t.found s.inside t.inside e) ∙ t.id) in
          let places : AreApart s.found.location t.found.location =
          stand_apart new always s.found t.found at.outstanding other.outstanding two (sym at.bin ∙ same ∙ other.bin) at.after at.is in
          subst (λ (x : RpLocation). AreApart (cuboid_of x.section) (cuboid_of q.section)) (sym s.is)
          (subst (λ (x : RpLocation). AreApart s.found.location (cuboid_of x.section)) (sym t.is) places)
      apart i j a b p q differ ne same (inl s) (inr l) = absurd (ne (same ∙ gone_bin q l.1))
      apart i j a b p q differ ne same (inr l) t = absurd (ne (gone_bin p l.1))

  pub apart_new : All (λ e. e.one ≢ e.other) c.exclusions.now → LaidApart (all_boxes c) c.exclusions.now outs
  apart_new differ i j a b p q s t named others e inside one other ne same =
      seen_apart c o.turns.now it.all it.collected it.turns it.turns_are (may_leave o) it.costs gone_groups (session_with bins) new laid_out RpLocation
      as_location left_location corner_there (λ r. refl) refl outs written_there as_many differ i j a b p q s t named others e inside one other
      (λ is. ne (gone_bin p is)) (λ is. ne (same ∙ gone_bin q is)) same

-- all that is said of a call whose session began with these bins
pub record IsSearchAnswered (bins : List RpBin) (c : RpCollection) (o : RpSearchOptions) (placements : List RpLocation) (searched : RpSearched) : Type 0 where
  pub packed : SearchesNewBins c o bins placements searched
  pub done : AreLaid bins c o.turns.now placements
  pub apart : LaidApart (all_boxes c) c.exclusions.now placements

pub found_answered : (c : RpCollection) (o : RpSearchOptions) (bins : List RpBin) → length bins < 2 ^ 32 → (told : RpSearched) (old new : State ℕ ℕ)
    → old ≡ session_with bins → FoundCollection c o told old new → IsSession nat_cmp new → (outs : List RpLocation)
    → NewAreWrittenAmong as_location left_location old new outs → length outs ≡ length (all_boxes c) → All (λ e. e.one ≢ e.other) c.exclusions.now
    → (count : ℕ) → count ≡ count_by location_says_left outs → IsSearchAnswered bins c o outs (record told { left = count })
found_answered c o bins few told old new was found always outs written as_many differ count counted =
    let here = subst (λ (s : State ℕ ℕ). FoundCollection c o told s new) was found in
    let there = subst (λ (s : State ℕ ℕ). NewAreWrittenAmong as_location left_location s new outs) was written in
    record {
      packed = found_new c o bins few told new here always outs there as_many count counted;
      done = laid_new c o bins few told new here always outs there as_many;
      apart = apart_new c o bins few told new here always outs there as_many differ;
    }

-- the same of one that is refused for space
pub refused_new : (c : RpCollection) (o : RpSearchOptions) (bins : List RpBin) (old new : State ℕ ℕ) → old ≡ session_with bins
    → RefusesSearch c o old NotEnoughBinSpace new → IsRefusedSearch c o bins
refused_new c o bins old new was refuses =
    let here = subst (λ (s : State ℕ ℕ). RefusesSearch c o s NotEnoughBinSpace new) was refuses in
    record { all = here.0; collected = here.1; whole = here.2; each = here.3 }
