-- What a session's answer to a packing of what fits says of the lists of a C caller.
use Rattle.rectangle_pack_c.proofs.Std.{◌≡◌, ◌≢◌, ◌⊎◌, inl, inr, ℕ, ◌<◌, ◌≤◌, ◌^◌, ◌==◌, Bool, true, false, cond, List, ◌++◌, length, refl, ap, sym, ◌∙◌, subst, arith}
use Rattle.rectangle_pack_c.proofs.Std.{IsPermutation, keys_of}
use Rattle.rectangle_pack_c.proofs.Std.{All, AllPairs, Contains, IsSomeAnd, Some, map, slice_get, option_map, nat_cmp, Ordering, Result, nat_tests, list_any, nat_le, not}
use Rattle.rectangle_pack_c.proofs.Std.{All-weaker, All-contains, Contains-append_right, length-map, slice_get-map, slice_get_within}
use Rattle.std.proofs.Common.{Err, count_by}
use Rattle.std.specs.declared.alloc.Global.{Global}
use Rattle.rectangle_pack_packing.specs.declared.answer.Fitted.{Fitted}
use Rattle.rectangle_pack_packing.specs.Fitting.{names_left}
use Rattle.rectangle_pack_packing.proofs.lemmas.packing.Taken.{PlacesSome, some_placed}
use Rattle.rectangle_pack_sections.specs.declared.box_size_heuristics.named.Heuristic.{Heuristic}
use Rattle.rectangle_pack.specs.declared.grouped_rects_to_place.Group.{Group}
use Rattle.rectangle_pack.specs.declared.grouped_rects_to_place.Group.TheVariants.{Grouped}
use Rattle.rectangle_pack.specs.declared.pack.Placement.{Placement}
use Rattle.rectangle_pack.specs.declared.session.command.Outstanding.{Outstanding}
use Rattle.rectangle_pack.specs.declared.session.command.Packed.{Packed as Numbers}
use Rattle.rectangle_pack.specs.declared.session.command.Reply.TheVariants.{Refused}
use Rattle.rectangle_pack.specs.declared.session.command.SessionError.{SessionError}
use Rattle.rectangle_pack.specs.declared.session.command.SessionError.TheVariants.{NumbersUsedUp, NotEnoughBinSpace, OutOfMemory}
use Rattle.rectangle_pack.specs.Best.{named_rules}
use Rattle.rectangle_pack.specs.Boxes.{AreApart, IsInside}
use Rattle.rectangle_pack.specs.Groups.{Collection}
use Rattle.rectangle_pack.specs.Placed.{ArePlacedWhole}
use Rattle.rectangle_pack.specs.Heuristics.{named_answers}
use Rattle.rectangle_pack.specs.Packing.{AreKeptApart, Stage, rules_by, at_start, excludes_by}
use Rattle.rectangle_pack.specs.Session.{State, IsSession, numbered}
use Rattle.rectangle_pack.specs.SessionFitting.{PacksFittingBest, FitsBestAsPromised, PlacesWhatFits}
use Rattle.rectangle_pack_c.specs.declared.RpBin.{RpBin}
use Rattle.rectangle_pack_c.specs.declared.RpBox.{RpBox}
use Rattle.rectangle_pack_c.specs.declared.RpPlacement.{RpPlacement}
use Rattle.rectangle_pack_c.specs.declared.collection.RpCollection.{RpCollection}
use Rattle.rectangle_pack_c.specs.declared.collection.RpExclusion.{RpExclusion}
use Rattle.rectangle_pack_c.specs.declared.fitting.RpFitted.{RpFitted}
use Rattle.rectangle_pack_c.specs.declared.session.RpOutstanding.{RpOutstanding}
use Rattle.rectangle_pack_c.specs.Answers.{Stands, box_at}
use Rattle.rectangle_pack_c.specs.Arguments.{bin_size, new_bins}
use Rattle.rectangle_pack_c.specs.Collections.{group_order, group_of, are_as_many, fault_of, IsCollected}
use Rattle.rectangle_pack_c.specs.Heuristics.{asked}
use Rattle.rectangle_pack_c.specs.Fitting.{AreFitted, AreFittedNow, FitsApart, FitsCollection, FitsNewBins, IsPlaced, IsPlacedNow, RefusesFitting}
use Rattle.rectangle_pack_c.specs.Fitting.{StandFittedApart, left_outstanding, left_placement, number_says_left, says_left, session_with}
use Rattle.rectangle_pack_c.specs.Sessions.{IsAt, record_of, reply_status}
use Rattle.rectangle_pack_c.specs.private.Written.{as_outstanding, as_placement, AreWrittenAmong, NewAreWrittenAmong}
use Rattle.rectangle_pack_c.proofs.PlacedLemmas.{StandsIn, stands_in, inside_bin, apart_in, records_each, records_once}
use Rattle.rectangle_pack_c.proofs.SessionLemmas.{found_number, is_record, new_entries, same_number}
use Rattle.rectangle_pack_c.proofs.FittingLemmas.{IsFrom, IsLost, fitted_apart, fitted_ids, fitted_once, fitted_together, lost_at, lost_boxes, placed_or_lost}

-- what the library says in its order of groups, of the heuristics that a number asks for
pub fits_asked : (R : Group ℕ ℕ → Group ℕ ℕ → Ordering) (same : R ≡ group_order) (number : ℕ) (heuristics : List Heuristic) (is : asked number ≡ heuristics)
    (all : Collection ℕ ℕ) (old new : State ℕ ℕ) (result : Result (Heuristic × Fitted Numbers (Group ℕ ℕ) Global) SessionError)
    → PacksFittingBest R nat_cmp nat_cmp heuristics all old result new → PacksFittingBest group_order nat_cmp nat_cmp (asked number) all old result new
fits_asked R same number heuristics is all old new result h =
    subst (λ hs. PacksFittingBest group_order nat_cmp nat_cmp hs all old result new) (sym is)
    (subst (λ r. PacksFittingBest r nat_cmp nat_cmp heuristics all old result new) same h)

pub fit_promise_asked : (R : Group ℕ ℕ → Group ℕ ℕ → Ordering) (same : R ≡ group_order) (all : Collection ℕ ℕ) (old new : State ℕ ℕ)
    (result : Result (Heuristic × Fitted Numbers (Group ℕ ℕ) Global) SessionError)
    → FitsBestAsPromised R nat_cmp nat_cmp all old result new → FitsBestAsPromised group_order nat_cmp nat_cmp all old result new
fit_promise_asked R same all old new result h = subst (λ r. FitsBestAsPromised r nat_cmp nat_cmp all old result new) same h

-- a packing of what fits that is refused, by cases on the error
pub refused_fit : (heuristic : ℕ) (boxes : List RpBox) (exclusions : List RpExclusion) (all : Collection ℕ ℕ) → IsCollected boxes exclusions all
    → (error : SessionError) (old new : State ℕ ℕ) → PacksFittingBest group_order nat_cmp nat_cmp {A = Global} (asked heuristic) all old (Err error) new
    → RefusesFitting boxes exclusions old error new
refused_fit heuristic boxes exclusions all collected NumbersUsedUp old new packs = (all, collected, packs.0, packs.1)
refused_fit heuristic boxes exclusions all collected OutOfMemory old new packs = packs.2
refused_fit heuristic boxes exclusions all collected error old new packs = absurd packs

-- want of space is no reason
pub never_space : (boxes : List RpBox) (exclusions : List RpExclusion) (old new : State ℕ ℕ) (error : SessionError)
    → RefusesFitting boxes exclusions old error new → reply_status (Refused error) ≢ 1
never_space boxes exclusions old new NotEnoughBinSpace h e = h
never_space boxes exclusions old new error h e = absurd (omega (arith, e))

pub never_done : (error : SessionError) → reply_status (Refused error) ≢ 0
never_done OutOfMemory e = absurd (omega (arith, e))
never_done error e = absurd (omega (arith, e))

pub no_space_fault : (c : RpCollection) (heuristic places : ℕ) → fault_of c heuristic places ≢ 1
no_space_fault c heuristic places =
    by (not (are_as_many c places)) (length (asked heuristic) == 0) (list_any (λ m. nat_le (length c.boxes.now) m.index) c.members.now)
    (list_any (λ e. e.one == e.other) c.exclusions.now)
  where
    by : (r s t u : Bool) → (let status : ℕ = cond r 3 (cond s 10 (cond t 11 (cond u 12 0))) in status) ≢ 1
    by true s t u e = omega (arith, e)
    by false true t u e = omega (arith, e)
    by false false true u e = omega (arith, e)
    by false false false true e = omega (arith, e)
    by false false false false e = omega (arith, e)

named_group : (i : ℕ) (b : RpBox) → 0 < b.group → group_of i b ≡ Grouped b.group
named_group i b named = let not_alone : (b.group == 0) ≡ false = grind (arith, nat_tests) in rw not_alone refl

-- what a session keeps of a packing that leaves these groups: each other group has a home. The placements are those of one home after another,
-- behind what was outstanding
pub record IsKept (all : Collection ℕ ℕ) (left : List (Group ℕ ℕ)) (old new : State ℕ ℕ) : Type 0 where
  pub placements : List (Placement ℕ ℕ)
  pub outstanding : new.outstanding ≡ old.outstanding ++ numbered old.next placements
  pub homes : List (Group ℕ ℕ × ℕ)
  pub groups : IsPermutation (keys_of all.groups) (map (λ h. h.0) homes ++ left)
  pub whole : ArePlacedWhole nat_cmp nat_cmp group_order all.sizes all.groups homes placements
  pub apart : AreKeptApart group_order nat_cmp all.partners homes

abbrev pub kept_fitting : (best : Heuristic) (all : Collection ℕ ℕ) (left : List (Group ℕ ℕ)) (old new : State ℕ ℕ)
    → PlacesWhatFits group_order (named_rules nat_cmp nat_cmp best) all old left new → IsKept all left old new
kept_fitting best all left old new made = record {
  placements = made.placements;
  outstanding = made.outstanding;
  homes = made.homes;
  groups = made.groups;
  whole = made.whole;
  apart = made.apart;
}

-- what is written of what is kept
module _ (boxes : List RpBox) (exclusions : List RpExclusion) (all : Collection ℕ ℕ) (collected : IsCollected boxes exclusions all)
    (left : List (Group ℕ ℕ)) (old new : State ℕ ℕ) (made : IsKept all left old new) where
  abbrev pub fit_records : List (Outstanding ℕ ℕ)
  fit_records = numbered old.next made.placements

  pub fit_records_are : new.outstanding ≡ old.outstanding ++ fit_records
  fit_records_are = made.outstanding

  -- the new records have indices of boxes as ids, each once
  pub fit_ids : All (λ r. r.id < length boxes) fit_records
  fit_ids = records_each (λ id p. id < length boxes) old.next made.placements
      (fitted_ids boxes exclusions all collected made.homes left made.groups made.placements made.whole)

  pub fit_once : AllPairs (λ r s. r.id ≢ s.id) fit_records
  fit_once = records_once old.next made.placements (fitted_once boxes exclusions all collected made.homes left made.groups made.placements made.whole)

  -- what is written of the records that the session has beyond those of before is written of these
  pub at_end : {left_so : RpOutstanding} (outs : List RpOutstanding) → NewAreWrittenAmong as_outstanding left_so old new outs
      → AreWrittenAmong as_outstanding left_so fit_records outs
  at_end {left_so} outs written = subst (λ rs. AreWrittenAmong as_outstanding left_so rs outs)
      (new_entries old.outstanding fit_records new.outstanding fit_records_are) written

  abbrev lost : List (Placement ℕ ℕ)
  lost = lost_boxes boxes all left

  module _ (outs : List RpOutstanding) (w : AreWrittenAmong as_outstanding left_outstanding fit_records outs) (as_many : length outs ≡ length boxes) where
    abbrev placement : RpOutstanding → RpPlacement
    placement o = o.placement

    corners : AreWrittenAmong as_placement left_placement fit_records (map placement outs)
    corners = record {
      placed = All-weaker (λ (r : Outstanding ℕ ℕ). slice_get outs r.id ≡ Some (as_outstanding r))
          (λ r. slice_get (map placement outs) r.id ≡ Some (as_placement r))
          (λ r at. slice_get-map placement outs r.id ∙ ap (option_map placement) at) fit_records w.placed;
      others = λ k low none.
          slice_get-map placement outs k ∙ ap (option_map placement) (w.others k (omega (arith, low, length-map outs placement)) none);
    }

    many : length (map placement outs) ≡ length boxes
    many = length-map outs placement ∙ as_many

    standing : (i : ℕ) (b : RpBox) (p : RpOutstanding) → IsAt boxes outs i b p → Stands boxes (map placement outs) i b p.placement
    standing i b p a = record { box = a.box; at = slice_get-map placement outs i ∙ ap (option_map placement) a.at }

    found : (i : ℕ) (b : RpBox) (p : RpOutstanding) → IsAt boxes outs i b p → IsFrom made.placements left i b p.placement ⊎ IsLost lost left i b
    found i b p a =
        placed_or_lost boxes exclusions all collected made.homes left made.groups made.placements made.whole old.next (map placement outs) corners many
        i b p.placement (standing i b p a)

    -- the record of a box that is placed
    record_at : (i : ℕ) (b : RpBox) (p : RpOutstanding) → IsAt boxes outs i b p → IsFrom made.placements left i b p.placement
        → Contains fit_records (record_of i b p) × (old.next ≤ p.number)
    record_at i b p a f =
        let (r, inside, id, bin, location, low) = found_number old.next made.placements f.from f.inside in
        let r_id : r.id ≡ i = id ∙ f.id in
        let at : slice_get outs r.id ≡ Some (as_outstanding r) = All-contains
        (λ (r : Outstanding ℕ ℕ). slice_get outs r.id ≡ Some (as_outstanding r)) fit_records r w.placed inside in
        let both : Some p ≡ Some (as_outstanding r) = sym a.at ∙ rw r_id at at in
        let p_is : p ≡ as_outstanding r = cc in
        let number : p.number ≡ r.number = ap (λ (o : RpOutstanding). o.number) p_is in
        let same_record : record_of i b p ≡ r = is_record i b p r number r_id (f.bin ∙ sym bin) (f.location ∙ sym location) in
        (rw same_record inside, rw number low)

    -- and what is written of one that is left
    lost_out : (i : ℕ) (b : RpBox) (p : RpOutstanding) → IsAt boxes outs i b p → IsLost lost left i b → p ≡ left_outstanding
    lost_out i b p a l =
        let at : slice_get outs l.from.id ≡ Some left_outstanding =
        lost_at boxes exclusions all collected made.homes left made.groups made.placements made.whole RpOutstanding as_outstanding left_outstanding
        old.next outs w as_many l.from l.inside in
        let both : Some p ≡ Some left_outstanding = sym a.at ∙ rw l.id at at in
        cc

    lost_number : (i : ℕ) (b : RpBox) (p : RpOutstanding) → IsAt boxes outs i b p → IsLost lost left i b → p.number ≡ 0xffffffffffffffff
    lost_number i b p a l = ap (λ (o : RpOutstanding). o.number) (lost_out i b p a l)

    pub stand_fitted_apart : All (λ e. e.one ≢ e.other) exclusions → StandFittedApart boxes exclusions outs
    stand_fitted_apart differ i j a b p q s t named others e inside one other ne_p ne_q same = by (found i a p s) (found j b q t)
      where
        by : IsFrom made.placements left i a p.placement ⊎ IsLost lost left i a → IsFrom made.placements left j b q.placement ⊎ IsLost lost left j b → ⊥
        by (inl f) (inl g) =
            fitted_apart boxes exclusions all collected made.homes left made.groups made.placements made.whole differ made.apart i j a b
            p.placement q.placement s.box t.box f g named others e inside one other same
        by (inl f) (inr l) = ne_q (lost_number j b q t l)
        by (inr l) g = ne_p (lost_number i a p s l)

    is_placed : IsSession nat_cmp new → new.next < 2 ^ 64 → (i : ℕ) (b : RpBox) (p : RpOutstanding) → IsAt boxes outs i b p
        → IsFrom made.placements left i b p.placement → IsPlacedNow left old new i b p
    is_placed always fits i b p a f =
        let (inside, low) = record_at i b p a f in
        let there : Contains new.outstanding (record_of i b p) =
        rw fit_records_are (Contains-append_right old.outstanding fit_records (record_of i b p) inside) in
        let below : p.number < new.next = All-contains (λ (r : Outstanding ℕ ℕ). r.number < new.next) new.outstanding (record_of i b p)
        always.below there in
        record { outstanding = there; fresh = low; number = omega (arith, below, fits); taken = f.taken }

    pub are_fitted_now : IsSession nat_cmp new → new.next < 2 ^ 64 → (count : ℕ) → count ≡ count_by number_says_left outs
        → AreFittedNow boxes outs left count old new
    are_fitted_now always fits count counted = record {
      as_many = as_many;
      each = λ i b p a. placed i b p a (found i b p a);
      apart = λ i j a b p q s t differ same. numbers i j a b p q s t differ same (found i a p s) (found j b q t);
      together = λ i j a b p q s t named same. (
        fitted_together boxes exclusions all collected made.homes left made.groups made.placements made.whole old.next (map placement outs) corners many
            i j a b p.placement q.placement (standing i a p s) (standing j b q t) named same,
        groups i j a b p q s t named same (found i a p s) (found j b q t),
      );
      counted = counted;
    }
      where
        placed : (i : ℕ) (b : RpBox) (p : RpOutstanding) → IsAt boxes outs i b p → IsFrom made.placements left i b p.placement ⊎ IsLost lost left i b
            → IsPlacedNow left old new i b p ⊎ (Contains left (group_of i b) × (p ≡ left_outstanding))
        placed i b p a (inl f) = inl (is_placed always fits i b p a f)
        placed i b p a (inr l) = inr (l.group, lost_out i b p a l)

        numbers : (i j : ℕ) (a b : RpBox) (p q : RpOutstanding) → IsAt boxes outs i a p → IsAt boxes outs j b q → i ≢ j → p.number ≡ q.number
            → IsFrom made.placements left i a p.placement ⊎ IsLost lost left i a → IsFrom made.placements left j b q.placement ⊎ IsLost lost left j b
            → p.number ≡ 0xffffffffffffffff
        numbers i j a b p q s t differ same (inl f) (inl g) =
            absurd (differ (ap (λ (r : Outstanding ℕ ℕ). r.id)
            (same_number old.next made.placements (record_of i a p) (record_of j b q) (record_at i a p s f).0 (record_at j b q t g).0 same)))
        numbers i j a b p q s t differ same (inl f) (inr l) = same ∙ lost_number j b q t l
        numbers i j a b p q s t differ same (inr l) g = lost_number i a p s l

        groups : (i j : ℕ) (a b : RpBox) (p q : RpOutstanding) → IsAt boxes outs i a p → IsAt boxes outs j b q → 0 < a.group → a.group ≡ b.group
            → IsFrom made.placements left i a p.placement ⊎ IsLost lost left i a → IsFrom made.placements left j b q.placement ⊎ IsLost lost left j b
            → p.number ≡ 0xffffffffffffffff → q.number ≡ 0xffffffffffffffff
        groups i j a b p q s t named same (inl f) g is = absurd (omega (arith, (is_placed always fits i a p s f).number, is))
        groups i j a b p q s t named same (inr l) (inl g) is =
            let one : group_of i a ≡ group_of j b = named_group i a named ∙ ap (λ n. Grouped n) same
            ∙ sym (named_group j b (omega (arith, named, same))) in
            absurd (g.taken (subst (λ k. Contains left k) one l.group))
        groups i j a b p q s t named same (inr l) (inr m) is = lost_number j b q t m

-- the same of a packing of what fits whose answer is known
module _ (heuristic : ℕ) (boxes : List RpBox) (exclusions : List RpExclusion) (chosen : ℕ) (old new : State ℕ ℕ)
    (fits : FitsCollection heuristic boxes exclusions chosen old new) (outs : List RpOutstanding)
    (written : NewAreWrittenAmong as_outstanding left_outstanding old new outs) (as_many : length outs ≡ length boxes) where
  abbrev names : List (Group ℕ ℕ)
  names = names_left fits.fitted.left

  abbrev kept : IsKept fits.all names old new
  kept = kept_fitting fits.best fits.all names old new fits.promised

  pub fit_written : IsSession nat_cmp new → new.next < 2 ^ 64 → (count : ℕ) → count ≡ count_by number_says_left outs
      → AreFittedNow boxes outs (names_left fits.fitted.left) count old new
  fit_written always below count counted =
      are_fitted_now boxes exclusions fits.all fits.collected names old new kept outs
      (at_end boxes exclusions fits.all fits.collected names old new kept outs written) as_many always below count counted

  pub fit_written_apart : All (λ e. e.one ≢ e.other) exclusions → StandFittedApart boxes exclusions outs
  fit_written_apart differ =
      stand_fitted_apart boxes exclusions fits.all fits.collected names old new kept outs
      (at_end boxes exclusions fits.all fits.collected names old new kept outs written) as_many differ

-- what is written of what is kept in new bins
module _ (bins : List RpBin) (few : length bins < 2 ^ 32) (boxes : List RpBox) (exclusions : List RpExclusion) (all : Collection ℕ ℕ)
    (collected : IsCollected boxes exclusions all) (left : List (Group ℕ ℕ)) (new : State ℕ ℕ)
    (made : IsKept all left (session_with bins) new)
    (in_bin : (q : Placement ℕ ℕ) → Contains made.placements q → StandsIn bins made.placements new.bins q)
    (places : List RpPlacement) (w : AreWrittenAmong as_placement left_placement (numbered 0 made.placements) places)
    (as_many : length places ≡ length boxes) where
  abbrev none : List (Placement ℕ ℕ)
  none = lost_boxes boxes all left

  seen : (i : ℕ) (b : RpBox) (p : RpPlacement) → Stands boxes places i b p → IsFrom made.placements left i b p ⊎ IsLost none left i b
  seen i b p s =
      placed_or_lost boxes exclusions all collected made.homes left made.groups made.placements made.whole 0 places w as_many i b p s

  lost_place : (i : ℕ) (b : RpBox) (p : RpPlacement) → Stands boxes places i b p → IsLost none left i b → p ≡ left_placement
  lost_place i b p s l =
      let at : slice_get places l.from.id ≡ Some left_placement =
      lost_at boxes exclusions all collected made.homes left made.groups made.placements made.whole RpPlacement as_placement left_placement
      0 places w as_many l.from l.inside in
      let both : Some p ≡ Some left_placement = sym s.at ∙ rw l.id at at in
      cc

  lost_in : (i : ℕ) (b : RpBox) (p : RpPlacement) → Stands boxes places i b p → IsLost none left i b → p.bin ≡ 0xffffffff
  lost_in i b p s l = ap (λ (o : RpPlacement). o.bin) (lost_place i b p s l)

  pub fit_done : AreFitted bins boxes places
  fit_done = record {
    as_many = as_many;
    inside = λ i b p s ne. stand i b p s ne (seen i b p s);
    apart = λ i j a b p q s t differ ne same. sharing i j a b p q s t differ ne same (seen i a p s) (seen j b q t);
    together = fitted_together boxes exclusions all collected made.homes left made.groups made.placements made.whole 0 places w as_many;
  }
    where
      stand : (i : ℕ) (b : RpBox) (p : RpPlacement) → Stands boxes places i b p → p.bin ≢ 0xffffffff
          → IsFrom made.placements left i b p ⊎ IsLost none left i b → IsSomeAnd (slice_get bins p.bin) (λ bin. IsInside (bin_size bin) (box_at b p))
      stand i b p s ne (inl f) =
          let at = in_bin f.from f.inside in
          rw (f.bin, at.is, f.location)
          (inside_bin bins made.placements new.bins f.from f.inside at)
      stand i b p s ne (inr l) = absurd (ne (lost_in i b p s l))

      sharing : (i j : ℕ) (a b : RpBox) (p q : RpPlacement) → Stands boxes places i a p → Stands boxes places j b q → i ≢ j → p.bin ≢ 0xffffffff
          → p.bin ≡ q.bin → IsFrom made.placements left i a p ⊎ IsLost none left i a → IsFrom made.placements left j b q ⊎ IsLost none left j b
          → AreApart (box_at a p) (box_at b q)
      sharing i j a b p q s t differ ne same (inl f) (inl g) =
          rw (f.location, g.location)
          (apart_in bins made.placements new.bins f.from g.from f.inside (in_bin f.from f.inside) g.inside
          (λ e. differ (sym f.id ∙ e ∙ g.id)) (sym g.bin ∙ sym same ∙ f.bin))
      sharing i j a b p q s t differ ne same (inl f) (inr l) = absurd (ne (same ∙ lost_in j b q t l))
      sharing i j a b p q s t differ ne same (inr l) g = absurd (ne (lost_in i a p s l))

  pub fit_apart : All (λ e. e.one ≢ e.other) exclusions → FitsApart boxes exclusions places
  fit_apart differ i j a b p q s t named others e inside one other ne same = by (seen i a p s) (seen j b q t)
    where
      by : IsFrom made.placements left i a p ⊎ IsLost none left i a → IsFrom made.placements left j b q ⊎ IsLost none left j b → ⊥
      by (inl f) (inl g) =
          fitted_apart boxes exclusions all collected made.homes left made.groups made.placements made.whole differ made.apart i j a b
          p q s.box t.box f g named others e inside one other same
      by (inl f) (inr l) = ne (same ∙ lost_in j b q t l)
      by (inr l) g = ne (lost_in i a p s l)

  pub fit_each : (i : ℕ) (b : RpBox) (p : RpPlacement) → Stands boxes places i b p
      → IsPlaced left new i b p ⊎ (Contains left (group_of i b) × (p ≡ left_placement))
  fit_each i b p s = by (seen i b p s)
    where
      by : IsFrom made.placements left i b p ⊎ IsLost none left i b → IsPlaced left new i b p ⊎ (Contains left (group_of i b) × (p ≡ left_placement))
      by (inl f) =
          let (r, inside, id, bin, location, low) = found_number 0 made.placements f.from f.inside in
          let same : record_of i b (record { number = r.number; placement = p }) ≡ r =
          is_record i b (record { number = r.number; placement = p }) r refl (id ∙ f.id) (f.bin ∙ sym bin) (f.location ∙ sym location) in
          let there : Contains new.outstanding r = subst (λ (os : List (Outstanding ℕ ℕ)). Contains os r) (sym made.outstanding) inside in
          let at = in_bin f.from f.inside in
          let within : f.from.bin < length bins = slice_get_within bins f.from.bin at.bin at.is in
          inl (record {
            number = r.number;
            outstanding = subst (λ x. Contains new.outstanding x) (sym same) there;
            bin = omega (arith, f.bin, within, few);
            taken = f.taken;
          })
      by (inr l) = inr (l.group, lost_place i b p s l)

-- what fits into new bins stands in them
fit_stands : (bins : List RpBin) (all : Collection ℕ ℕ) (best : Heuristic) (left : List (Group ℕ ℕ)) (new : State ℕ ℕ)
    (made : PlacesWhatFits group_order (named_rules nat_cmp nat_cmp best) all (session_with bins) left new)
    (q : Placement ℕ ℕ) → Contains made.placements q → StandsIn bins made.placements new.bins q
fit_stands bins all best left new made q inside =
    let excludes : List (Group ℕ ℕ × ℕ) → Group ℕ ℕ → ℕ → Bool = excludes_by group_order nat_cmp all.partners in
    let order : List ℕ = map (λ (o : ℕ × ℕ). o.1) made.fits.bin_order in
    let last : Stage (Group ℕ ℕ) ℕ = record { bins = new.bins; homes = made.fits.homes } in
    let some : PlacesSome (rules_by nat_cmp nat_cmp (named_answers best)) excludes (λ _. Unit {0}) order made.fits.groups (at_start (new_bins bins))
    made.placements left last =
    some_placed (rules_by nat_cmp nat_cmp (named_answers best)) excludes order made.fits.groups (at_start (new_bins bins)) made.placements left last
    made.fits.tests made.fits.taken in
    stands_in bins (named_answers best) excludes order some.kept made.placements last some.tests some.placed q inside

-- all that is said of a call whose session began with these bins
pub record IsFitAnswered (heuristic : ℕ) (bins : List RpBin) (boxes : List RpBox) (exclusions : List RpExclusion) (placements : List RpPlacement)
    (fitted : RpFitted) : Type 0 where
  pub packed : FitsNewBins heuristic bins boxes exclusions placements fitted
  pub done : AreFitted bins boxes placements
  pub apart : FitsApart boxes exclusions placements

pub fit_answered : (heuristic : ℕ) (bins : List RpBin) (boxes : List RpBox) (exclusions : List RpExclusion) (chosen count : ℕ) (old new : State ℕ ℕ)
    → old ≡ session_with bins → FitsCollection heuristic boxes exclusions chosen old new
    → (placements : List RpPlacement) → NewAreWrittenAmong as_placement left_placement old new placements → length placements ≡ length boxes
    → All (λ e. e.one ≢ e.other) exclusions → length bins < 2 ^ 32 → count ≡ count_by says_left placements
    → IsFitAnswered heuristic bins boxes exclusions placements (record { heuristic = chosen; left = count })
fit_answered heuristic bins boxes exclusions chosen count old new was fits placements written as_many differ few counted =
    let here = subst (λ (o : State ℕ ℕ). FitsCollection heuristic boxes exclusions chosen o new) was fits in
    let there = subst (λ (o : State ℕ ℕ). NewAreWrittenAmong as_placement left_placement o new placements) was written in
    by here there
  where
    by : FitsCollection heuristic boxes exclusions chosen (session_with bins) new
        → NewAreWrittenAmong as_placement left_placement (session_with bins) new placements
        → IsFitAnswered heuristic bins boxes exclusions placements (record { heuristic = chosen; left = count })
    by f w =
        let names = names_left f.fitted.left in
        let made = kept_fitting f.best f.all names (session_with bins) new f.promised in
        let stands = fit_stands bins f.all f.best names new f.promised in
        let at_end : AreWrittenAmong as_placement left_placement (numbered 0 made.placements) placements =
        subst (λ rs. AreWrittenAmong as_placement left_placement rs placements) made.outstanding w in
        record {
          packed = record {
            after = new;
            fits = f;
            as_many = as_many;
            each = fit_each bins few boxes exclusions f.all f.collected names new made stands placements at_end as_many;
            counted = counted;
          };
          done = fit_done bins few boxes exclusions f.all f.collected names new made stands placements at_end as_many;
          apart = fit_apart bins few boxes exclusions f.all f.collected names new made stands placements at_end as_many differ;
        }
