-- What a session's answers say to a C caller: of the boxes of a packing and the placements that are written, of a change
-- of the session, and of a bin.
use Rattle.rectangle_pack_c.proofs.Std.{◌≡◌, ◌≢◌, ◌⊎◌, inl, inr, ℕ, zero, suc, ◌+◌, ◌-◌, ◌<◌, ◌≤◌, List, [], ◌∷◌, ◌++◌, length, take, drop, refl, ap, sym, ◌∙◌, subst}
use Rattle.rectangle_pack_c.proofs.Std.{Bool, MatchOption, arith, length-append, All, AllPairs, Contains, Option, None, Some, map, slice_get, option_map, nat_cmp, Ordering, lookup, is_at, Result}
use Rattle.rectangle_pack_c.proofs.Std.{drop-append_seam, take_all, All-weaker, All-contains, Contains-append_right, slice_get-map}
use Rattle.rectangle_pack_c.proofs.OrderLemmas.{group_same}
use Rattle.std.proofs.Common.{Err, if◌then◌else◌}
use Rattle.rectangle_pack_sections.specs.declared.box_size_heuristics.named.Heuristic.{Heuristic}
use Rattle.rectangle_pack_sections.specs.declared.box_size_heuristics.named.Heuristic.TheVariants.{Volume}
use Rattle.rectangle_pack.specs.declared.grouped_rects_to_place.Group.{Group}
use Rattle.rectangle_pack.specs.declared.pack.Placement.{Placement}
use Rattle.rectangle_pack.specs.declared.session.command.Outstanding.{Outstanding}
use Rattle.rectangle_pack.specs.declared.session.command.Packed.{Packed as Numbers}
use Rattle.rectangle_pack.specs.declared.session.command.Reply.{Reply}
use Rattle.rectangle_pack.specs.declared.session.command.Reply.TheVariants.{Packed, Refused}
use Rattle.rectangle_pack.specs.declared.session.command.SessionError.{SessionError}
use Rattle.rectangle_pack.specs.declared.session.command.SessionError.TheVariants.{OutOfMemory}
use Rattle.rectangle_pack.specs.Best.{named_rules}
use Rattle.rectangle_pack.specs.Groups.{Collection}
use Rattle.rectangle_pack.specs.Promise.{PlacesWhole}
use Rattle.rectangle_pack.specs.Bins.{Bin}
use Rattle.rectangle_pack.specs.Session.{State, IsSession, numbered}
use Rattle.rectangle_pack.specs.SessionBest.{PacksBest, PacksBestAsPromised}
use Rattle.rectangle_pack_c.specs.declared.RpBox.{RpBox}
use Rattle.rectangle_pack_c.specs.declared.RpPlacement.{RpPlacement}
use Rattle.rectangle_pack_c.specs.declared.collection.RpExclusion.{RpExclusion}
use Rattle.rectangle_pack_c.specs.declared.collection.RpCollection.{RpCollection}
use Rattle.rectangle_pack_c.specs.declared.session.RpOutstanding.{RpOutstanding}
use Rattle.rectangle_pack_c.specs.Collections.{group_order, all_boxes, IsCollected}
use Rattle.rectangle_pack_c.specs.Answers.{Stands, corner_of, box_at}
use Rattle.rectangle_pack_c.specs.Heuristics.{asked}
use Rattle.rectangle_pack_c.specs.Sessions.{reply_status, ChangesAs, PacksCollection, IsAt, record_of, AreOutstanding, StandApart}
use Rattle.rectangle_pack_c.specs.private.Written.{as_outstanding, AreWritten, NewAreWritten}
use Rattle.rectangle_pack_c.proofs.WholeLemmas.{none_in, in_cases, in_first, in_later}
use Rattle.rectangle_pack_c.proofs.AnswerLemmas.{only_one}
use Rattle.rectangle_pack_c.proofs.PlacedLemmas.{records_each, placements_each, records_once, known_ids, placed_alone, comes_from, stand_together, keep_apart}

-- what was put at the end of a list
pub new_part : {X : Type 0} (old more all : List X) → all ≡ old ++ more → take (length all - length old) (drop (length old) all) ≡ more
new_part old more all is =
    rw (is, drop-append_seam old more) (take_all (length (old ++ more) - length old) more (omega (arith, length-append old more)))

-- the entries behind those of before
pub new_entries : {X : Type 0} (old more all : List X) → all ≡ old ++ more → drop (length old) all ≡ more
new_entries old more all is = rw is (drop-append_seam old more)

-- a placement under its number
pub found_number : (n : ℕ) (ps : List (Placement ℕ ℕ)) (q : Placement ℕ ℕ) → Contains ps q
    → (r : Outstanding ℕ ℕ) × Contains (numbered n ps) r × (r.id ≡ q.id) × (r.bin ≡ q.bin) × (r.location ≡ q.location) × (n ≤ r.number)
found_number n [] q h = absurd (none_in q h)
found_number n (p ∷ ps) q h = by (in_cases p ps q h) (found_number (n + 1) ps q)
  where
    here : Outstanding ℕ ℕ
    here = record { number = n; id = p.id; bin = p.bin; location = p.location }

    by : (p ≡ q) ⊎ Contains ps q
        → (Contains ps q → (r : Outstanding ℕ ℕ) × Contains (numbered (n + 1) ps) r × (r.id ≡ q.id) × (r.bin ≡ q.bin)
        × (r.location ≡ q.location) × (n + 1 ≤ r.number))
        → (r : Outstanding ℕ ℕ) × Contains (here ∷ numbered (n + 1) ps) r × (r.id ≡ q.id) × (r.bin ≡ q.bin) × (r.location ≡ q.location) × (n ≤ r.number)
    by (inl e) ih = (
      here,
      in_first here (numbered (n + 1) ps) here refl,
      ap (λ (x : Placement ℕ ℕ). x.id) e,
      ap (λ (x : Placement ℕ ℕ). x.bin) e,
      ap
          (λ (x : Placement ℕ ℕ). x.location) e,
      omega arith,
    )
    by (inr more) ih = let (r, inside, id, bin, location, low) = ih more in
        (r, in_later here (numbered (n + 1) ps) r inside, id, bin, location, omega (arith, low))

-- numbers rise from the first one on, so two records of one number are of one box
numbers_from : (n : ℕ) (ps : List (Placement ℕ ℕ)) (r : Outstanding ℕ ℕ) → Contains (numbered n ps) r → n ≤ r.number
numbers_from n [] r h = absurd (none_in r h)
numbers_from n (p ∷ ps) r h = by (in_cases (record { number = n; id = p.id; bin = p.bin; location = p.location }) (numbered (n + 1) ps) r h)
    (numbers_from (n + 1) ps r)
  where
    by : (record { number = n; id = p.id; bin = p.bin; location = p.location } ≡ r) ⊎ Contains (numbered (n + 1) ps) r
        → (Contains (numbered (n + 1) ps) r → n + 1 ≤ r.number) → n ≤ r.number
    by (inl e) ih = omega (arith, ap (λ (x : Outstanding ℕ ℕ). x.number) e)
    by (inr more) ih = omega (arith, ih more)

pub same_number : (n : ℕ) (ps : List (Placement ℕ ℕ)) (r s : Outstanding ℕ ℕ) → Contains (numbered n ps) r → Contains (numbered n ps) s
    → r.number ≡ s.number → r ≡ s
same_number n [] r s h g e = absurd (none_in r h)
same_number n (p ∷ ps) r s h g e =
    by (in_cases (record { number = n; id = p.id; bin = p.bin; location = p.location }) (numbered (n + 1) ps) r h)
    (in_cases (record { number = n; id = p.id; bin = p.bin; location = p.location }) (numbered (n + 1) ps) s g) (λ x y. same_number (n + 1) ps r s x y e)
  where
    is_n : (q : Outstanding ℕ ℕ) → record { number = n; id = p.id; bin = p.bin; location = p.location } ≡ q → n ≡ q.number
    is_n q x = ap (λ (o : Outstanding ℕ ℕ). o.number) x

    by : (record { number = n; id = p.id; bin = p.bin; location = p.location } ≡ r) ⊎ Contains (numbered (n + 1) ps) r
        → (record { number = n; id = p.id; bin = p.bin; location = p.location } ≡ s) ⊎ Contains (numbered (n + 1) ps) s
        → (Contains (numbered (n + 1) ps) r → Contains (numbered (n + 1) ps) s → r ≡ s) → r ≡ s
    by (inl x) (inl y) ih = sym x ∙ y
    by (inl x) (inr y) ih = absurd (omega (arith, is_n r x, numbers_from (n + 1) ps s y, e))
    by (inr x) (inl y) ih = absurd (omega (arith, is_n s y, numbers_from (n + 1) ps r x, e))
    by (inr x) (inr y) ih = ih x y

-- where there are no boxes there are no groups
pub no_groups : (exclusions : List RpExclusion) (all : Collection ℕ ℕ) → IsCollected [] exclusions all → all.groups ≡ []
no_groups exclusions all collected = none all.groups collected.groups
  where
    none : (groups : List (Group ℕ ℕ × List ℕ)) → ((group : Group ℕ ℕ) → lookup (is_at (group_order group)) groups ≡ None) → groups ≡ []
    none [] absent = refl
    none (g ∷ gs) absent = let found : lookup (is_at (group_order g.0)) (g ∷ gs) ≡ Some g.1 = rw (group_same g.0) refl in
        let missing : lookup (is_at (group_order g.0)) (g ∷ gs) ≡ None = absent g.0 in absurd (let both : Some g.1 ≡ None = sym found ∙ missing in cc)

-- what is written of a box is its record
pub is_record : (i : ℕ) (b : RpBox) (p : RpOutstanding) (r : Outstanding ℕ ℕ) → p.number ≡ r.number → r.id ≡ i → p.placement.bin ≡ r.bin
    → box_at b p.placement ≡ r.location → record_of i b p ≡ r
is_record i b p r number id bin place =
    ap (λ n. record { number = n; id = i; bin = p.placement.bin; location = box_at b p.placement }) number
    ∙ ap (λ n. record { number = r.number; id = n; bin = p.placement.bin; location = box_at b p.placement }) (sym id)
    ∙ ap (λ n. record { number = r.number; id = r.id; bin = n; location = box_at b p.placement }) bin
    ∙ ap (λ n. record { number = r.number; id = r.id; bin = r.bin; location = n }) place

-- what is written of a packing that is kept
module _ (boxes : List RpBox) (exclusions : List RpExclusion) (all : Collection ℕ ℕ) (collected : IsCollected boxes exclusions all) (best : Heuristic)
    (old new : State ℕ ℕ) (made : PlacesWhole group_order (named_rules nat_cmp nat_cmp best) all old new) where
  abbrev pub new_records : List (Outstanding ℕ ℕ)
  new_records = numbered old.next made.placements

  pub records_are : new.outstanding ≡ old.outstanding ++ new_records
  records_are = made.outstanding

  -- the new records have indices of boxes as ids, each once
  pub new_ids : All (λ r. r.id < length boxes) new_records
  new_ids = records_each (λ id p. id < length boxes) old.next made.placements
      (known_ids boxes exclusions all collected made.placements made.homes made.groups made.whole)

  pub new_once : AllPairs (λ r s. r.id ≢ s.id) new_records
  new_once = records_once old.next made.placements (placed_alone boxes exclusions all collected made.placements made.homes made.groups made.whole)

  module _ (outs : List RpOutstanding) (written : AreWritten as_outstanding new_records outs) where
    abbrev placement : RpOutstanding → RpPlacement
    placement o = o.placement

    stood : All (λ p. slice_get (map placement outs) p.id ≡ Some (corner_of p.bin p.location)) made.placements
    stood = placements_each (λ id q. slice_get (map placement outs) id ≡ Some q) old.next made.placements
        (All-weaker (λ (r : Outstanding ℕ ℕ). slice_get outs r.id ≡ Some (as_outstanding r))
        (λ r. slice_get (map placement outs) r.id ≡ Some (corner_of r.bin r.location))
        (λ r at. slice_get-map placement outs r.id ∙ ap (option_map placement) at) new_records written)

    standing : (i : ℕ) (b : RpBox) (p : RpOutstanding) → IsAt boxes outs i b p → Stands boxes (map placement outs) i b p.placement
    standing i b p a = record { box = a.box; at = slice_get-map placement outs i ∙ ap (option_map placement) a.at }

    -- the record of a box
    found : (i : ℕ) (b : RpBox) (p : RpOutstanding) → IsAt boxes outs i b p → Contains new_records (record_of i b p) × (old.next ≤ p.number)
    found i b p a =
        let f = comes_from boxes exclusions all collected made.placements made.homes made.groups made.whole (map placement outs) stood i b
        p.placement (standing i b p a) in
        let (r, inside, id, bin, location, low) = found_number old.next made.placements f.from f.inside in
        let r_id : r.id ≡ i = id ∙ f.id in
        let at : slice_get outs r.id ≡ Some (as_outstanding r) = All-contains
        (λ (r : Outstanding ℕ ℕ). slice_get outs r.id ≡ Some (as_outstanding r)) new_records r written inside in
        let both : Some p ≡ Some (as_outstanding r) = sym a.at ∙ rw r_id at at in
        let p_is : p ≡ as_outstanding r = cc in
        let number : p.number ≡ r.number = ap (λ (o : RpOutstanding). o.number) p_is in
        let place : box_at b p.placement ≡ r.location = f.location ∙ sym location in
        let in_bin : p.placement.bin ≡ r.bin = f.bin ∙ sym bin in
        let same_record : record_of i b p ≡ r = is_record i b p r number r_id in_bin place in
        (rw same_record inside, rw number low)

    pub are_outstanding : length outs ≡ length boxes → AreOutstanding boxes outs old new
    are_outstanding as_many = record {
      as_many = as_many;
      outstanding = λ i b p a. rw records_are (Contains-append_right old.outstanding new_records (record_of i b p) (found i b p a).0);
      fresh = λ i b p a. (found i b p a).1;
      apart = λ i j a b p q s t differ same.
          differ (ap (λ (r : Outstanding ℕ ℕ). r.id)
          (same_number old.next made.placements (record_of i a p) (record_of j b q) (found i a p s).0 (found j b q t).0 same));
      together = λ i j a b p q s t named same.
          stand_together boxes exclusions all collected made.placements made.homes made.groups made.whole (map placement outs) stood i j a b p.placement q.placement
          (standing i a p s) (standing j b q t) named same;
    }

    pub stand_apart : All (λ e. e.one ≢ e.other) exclusions → StandApart boxes exclusions outs
    stand_apart differ = keep_apart boxes exclusions all collected made.placements made.homes made.groups made.whole (map placement outs) stood differ made.apart

-- the same of a packing that the reply says was kept
module _ (heuristic : ℕ) (boxes : List RpBox) (exclusions : List RpExclusion) (chosen : ℕ) (old new : State ℕ ℕ) (numbers : Numbers)
    (packs : PacksCollection heuristic boxes exclusions chosen old (Packed numbers) new) (outs : List RpOutstanding)
    (written : NewAreWritten as_outstanding old new outs) where
  at_end : AreWritten as_outstanding (new_records boxes exclusions packs.0 packs.2 packs.1 old new packs.5) outs
  at_end = subst (λ rs. AreWritten as_outstanding rs outs)
      (new_entries old.outstanding (new_records boxes exclusions packs.0 packs.2 packs.1 old new packs.5) new.outstanding
      (records_are boxes exclusions packs.0 packs.2 packs.1 old new packs.5)) written

  pub written_outstanding : length outs ≡ length boxes → AreOutstanding boxes outs old new
  written_outstanding as_many = are_outstanding boxes exclusions packs.0 packs.2 packs.1 old new packs.5 outs at_end as_many

  pub written_apart : All (λ e. e.one ≢ e.other) exclusions → StandApart boxes exclusions outs
  written_apart differ = stand_apart boxes exclusions packs.0 packs.2 packs.1 old new packs.5 outs at_end differ

-- of a packing by volume alone that heuristic is chosen
pub by_volume : (boxes : List RpBox) (exclusions : List RpExclusion) (chosen : ℕ) (old new : State ℕ ℕ) (reply : Reply)
    → PacksCollection 0 boxes exclusions chosen old reply new → PacksCollection 0 boxes exclusions 0 old reply new
by_volume boxes exclusions chosen old new (Packed numbers) (all, best, collected, number, packed, promised) =
    let is : best ≡ Volume = only_one packed.2.before best Volume packed.2.after packed.2.listed in
    (all, best, collected, rw is refl, packed, promised)
by_volume boxes exclusions chosen old new (Refused OutOfMemory) h = h
by_volume boxes exclusions chosen old new reply h = h

-- of a packing that is refused no heuristic is chosen
pub none_chosen : (heuristic : ℕ) (boxes : List RpBox) (exclusions : List RpExclusion) (chosen other : ℕ) (old new : State ℕ ℕ) (error : SessionError)
    → PacksCollection heuristic boxes exclusions chosen old (Refused error) new → PacksCollection heuristic boxes exclusions other old (Refused error) new
none_chosen heuristic boxes exclusions chosen other old new OutOfMemory h = h
none_chosen heuristic boxes exclusions chosen other old new error h = h

-- a packing that is refused, by cases on the error
pub refused_so : (heuristic : ℕ) (boxes : List RpBox) (exclusions : List RpExclusion) (all : Collection ℕ ℕ) → IsCollected boxes exclusions all
    → (error : SessionError) (old new : State ℕ ℕ) → PacksBest group_order nat_cmp nat_cmp (asked heuristic) all old (Err error) new
    → PacksBestAsPromised group_order nat_cmp nat_cmp (asked heuristic) all old (Err error) new
    → PacksCollection heuristic boxes exclusions 0 old (Refused error) new
refused_so heuristic boxes exclusions all collected OutOfMemory old new packs promise = packs.1
refused_so heuristic boxes exclusions all collected error old new packs promise = (all, collected, packs, promise)

-- a session changes by volume as the collection of boxes alone says
pub changes_by_volume : (c : RpCollection) (boxes : List RpBox) (chosen : ℕ) (old : Option (State ℕ ℕ)) (status : ℕ) (new : Option (State ℕ ℕ))
    → all_boxes c ≡ boxes → c.exclusions.now ≡ []
    → ChangesAs (PacksCollection 0 (all_boxes c) c.exclusions.now chosen) old status new → ChangesAs (PacksCollection 0 boxes [] 0) old status new
changes_by_volume c boxes chosen old status new are none h = record {
  before = h.before;
  after = h.after;
  reply = h.reply;
  had = h.had;
  has = h.has;
  status_is = h.status_is;
  changed = by_volume boxes [] chosen h.before h.after h.reply
      (subst (λ es. PacksCollection 0 boxes es chosen h.before h.reply h.after) none
      (subst (λ bs. PacksCollection 0 bs c.exclusions.now chosen h.before h.reply h.after) are h.changed));
  always = h.always;
}

-- the status of want of memory is that of no other refusal
pub is_memory : (error : SessionError) → reply_status (Refused error) ≡ 2 → error ≡ OutOfMemory
is_memory OutOfMemory e = refl
is_memory error e = absurd (omega (arith, e))

pub some_entry : (m n : ℕ) → (m ≡ 0 → n ≡ 0 → ⊥) → 0 < m + n
some_entry zero zero none = absurd (none refl refl)
some_entry zero (suc n) none = omega arith
some_entry (suc m) n none = omega arith

-- what the library says in its order of groups, of the heuristics that a number asks for
module _ (R : Group ℕ ℕ → Group ℕ ℕ → Ordering) (same : R ≡ group_order) (number : ℕ) (heuristics : List Heuristic) (is : asked number ≡ heuristics)
    (all : Collection ℕ ℕ) (old new : State ℕ ℕ) (result : Result (Heuristic × Numbers) SessionError) where
  pub packs_asked : PacksBest R nat_cmp nat_cmp heuristics all old result new → PacksBest group_order nat_cmp nat_cmp (asked number) all old result new
  packs_asked h = subst (λ hs. PacksBest group_order nat_cmp nat_cmp hs all old result new) (sym is)
      (subst (λ r. PacksBest r nat_cmp nat_cmp heuristics all old result new) same h)

  pub promise_asked : PacksBestAsPromised R nat_cmp nat_cmp heuristics all old result new
      → PacksBestAsPromised group_order nat_cmp nat_cmp (asked number) all old result new
  promise_asked h = subst (λ hs. PacksBestAsPromised group_order nat_cmp nat_cmp hs all old result new) (sym is)
      (subst (λ r. PacksBestAsPromised r nat_cmp nat_cmp heuristics all old result new) same h)

-- a call changed the session that a handle has: what taking it out, the call and putting it back say of it
pub changed_so : {Change : State ℕ ℕ → Reply → State ℕ ℕ → Type 0} {old new : Option (State ℕ ℕ)} {taken before after : State ℕ ℕ} {status : ℕ}
    (reply : Reply) → old ≡ Some taken → before ≡ taken → new ≡ Some after → status ≡ reply_status reply → Change before reply after
    → IsSession nat_cmp after → ChangesAs Change old status new
changed_so {before} {after} reply had held has is changed always = record {
  before = before;
  after = after;
  reply = reply;
  had = had ∙ ap (λ s. Some s) (sym held);
  has = has;
  status_is = is;
  changed = changed;
  always = always;
}

-- whether a bin that is there was coalesced is told by 1 or 0
pub told_coalesced : (found : Option Bin) (was : Bool) (absent : Type 0) → option_map (λ b. b.coalesced) found ≡ Some was
    → MatchOption found absent (λ b. ◌≡◌ {A = ℕ} 0 0 × ◌≡◌ {A = ℕ} (if was then 1 else 0) (if b.coalesced then 1 else 0))
told_coalesced None was absent e = absurd cc
told_coalesced (Some b) was absent e = (refl, cc)
