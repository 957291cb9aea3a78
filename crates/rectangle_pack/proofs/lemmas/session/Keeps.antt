-- What a session's calls keep: the boxes of each bin, the bins of the outstanding placements, and the order of numbers.
use Rattle.rectangle_pack_sections.proofs.Std.{◌≡◌, ℕ, suc, ◌+◌, ◌-◌, ◌<◌, List, [], ◌∷◌, ◌++◌, refl, ap, sym, ◌∙◌, subst, cond, true, false, Bool, arith}
use Rattle.rectangle_pack_sections.proofs.Std.{length, append-nil, append_assoc, get_or, take, drop, Some, None, IsSome, MatchBool, map, filter, All}
use Rattle.rectangle_pack_sections.proofs.Std.{AllPairs, remove, Ordering, IsTotalOrder, Equal-is, is_eq, option_map, lookup, set_value, keys_of, is_at}
use Rattle.rectangle_pack_sections.proofs.Std.{insert_entry, split_at, keys-set_value, set_value_same, map-append, length-append, get_or_default, All-nil}
use Rattle.rectangle_pack_sections.proofs.Std.{All-cons, All-head, All-tail, All-append, All-push, All-weaker, filter-append, remove-append_right}
use Rattle.rectangle_pack_sections.proofs.Std.{all_pairs_push, all_pairs_remove, tied_itself}
use Rattle.rectangle_pack_sections.specs.declared.group.Group.{Group}
use Rattle.rectangle_pack_packing.specs.declared.answer.Placement.{Placement}
use Rattle.rectangle_pack.specs.declared.session.command.Outstanding.{Outstanding}
use Rattle.rectangle_pack_sections.specs.Boxes.{Size, Cuboid, IsCellOf, IsInside, has_cells}
use Rattle.rectangle_pack_sections.specs.Bins.{Bin, Held, IsAccepted, whole, new_bin, bins_of}
use Rattle.rectangle_pack_sections.specs.Covering.{CoverBin}
use Rattle.rectangle_pack_sections.specs.CutTrees.{IsFromCuts}
use Rattle.rectangle_pack_packing.specs.KeptBins.{locations_in}
use Rattle.rectangle_pack_sections.specs.Groups.{Collection}
use Rattle.rectangle_pack_packing.specs.Packing.{Rules, Members, Stage, AreAllPlaced, PackingDone, at_start, excludes_by}
use Rattle.rectangle_pack.specs.Session.{State, outstanding_in, boxes_of, IsSession, IsOutstanding, numbered, GivesBack}
use Rattle.rectangle_pack_sections.proofs.lemmas.util.Lists.{All-front, All-back, All-middle, All-without}
use Rattle.rectangle_pack_sections.proofs.lemmas.cuts.Counting.{filled-append, filled-nil, filled_yes, filled_from_some}
use Rattle.rectangle_pack_sections.proofs.lemmas.cuts.Trees.{IsFromCuts-leaf}
use Rattle.rectangle_pack_packing.proofs.lemmas.packing.Frame.{IsRecut, changed-all}
use Rattle.rectangle_pack_bins.proofs.lemmas.bins.Maps.{lookup-bins_of, is_some-bins_of}
use Rattle.rectangle_pack_packing.proofs.lemmas.packing.KeepsCuts.{KeepsCuts, KeepsBoxes, IsFrame-boxes, KeptBySteps-boxes}
use Rattle.rectangle_pack_sections.proofs.lemmas.util.Maps.{lookup-equal, lookup-written, is_some-keys, insert_entry-map_values}
use Rattle.rectangle_pack_sections.proofs.lemmas.util.Searches.{some_of}
use Rattle.rectangle_pack_packing.proofs.lemmas.packing.Placed.{keys-placed, known-placed}

-- the bin of this id in the new state was there in the old one, in its size, and not coalesced where it is not now; its boxes
-- keep what they keep in a session, where bins that are let off need not keep cuts
pub record IsCarried {Id B : Type 0} (bin_cmp : B → B → Ordering) (let_off : Bin → Bool) (old new : State Id B) (id : B) (after : Bin) : Type 0 where
  pub before : Bin
  pub found : lookup (is_at (bin_cmp id)) old.bins ≡ Some before
  pub size : after.size ≡ before.size
  pub uncoalesced : after.coalesced ≡ false → before.coalesced ≡ false
  pub framed : KeepsBoxes (let_off after) (boxes_of bin_cmp old.outstanding id before) (boxes_of bin_cmp new.outstanding id after)

-- each bin of the new state is carried
abbrev pub AreCarried : {Id B : Type 0} → (B → B → Ordering) → (Bin → Bool) → State Id B → State Id B → Type 0
AreCarried {Id} {B} bin_cmp let_off old new =
    (id : B) (after : Bin) → lookup (is_at (bin_cmp id)) new.bins ≡ Some after → IsCarried bin_cmp let_off old new id after

-- in a session bins that count as coalesced are let off
abbrev pub in_session : Bin → Bool
in_session bin = bin.coalesced

-- boxes that cover a bin are cut anew, and cover it
CoverBin-recut : (size : Size) (old new : List Cuboid) → IsRecut old new → CoverBin old size → CoverBin new size
CoverBin-recut size old new recut h = record { inside = recut.inside size h.inside; once = λ c in_bin. recut.cells c ∙ h.once c in_bin }

-- and those that were from cuts are from cuts
pub IsFromCuts-kept : (size : Size) (old new : List Cuboid) → KeepsCuts old new → IsFromCuts old (whole size) → IsFromCuts new (whole size)
IsFromCuts-kept size old new keeps h =
    subst (λ bs. IsFromCuts bs (whole size)) (append-nil new) (keeps.kept [] (whole size) (subst (λ bs. IsFromCuts bs (whole size)) (sym (append-nil old)) h))

-- the boxes of lists of outstanding placements
module _ {Id B : Type 0} (bin_cmp : B → B → Ordering) where
  outstanding_in-append : (before after : List (Outstanding Id B)) (q : B)
      → outstanding_in bin_cmp (before ++ after) q ≡ outstanding_in bin_cmp before q ++ outstanding_in bin_cmp after q
  outstanding_in-append before after q =
      ap (map (λ (r : Outstanding Id B). r.location)) (filter-append (λ r. is_at (bin_cmp r.bin) q) before after)
      ∙ map-append (λ (r : Outstanding Id B). r.location) (filter (λ r. is_at (bin_cmp r.bin) q) before) (filter (λ r. is_at (bin_cmp r.bin) q) after)

  outstanding_in-numbered : (n : ℕ) (ps : List (Placement Id B)) (q : B) → outstanding_in bin_cmp (numbered n ps) q ≡ locations_in bin_cmp ps q
  outstanding_in-numbered n [] q = refl
  outstanding_in-numbered n (p ∷ ps) q = by (is_eq (bin_cmp p.bin q)) refl (outstanding_in-numbered (n + 1) ps q)
    where
      by : (b : Bool) → is_eq (bin_cmp p.bin q) ≡ b → outstanding_in bin_cmp (numbered (n + 1) ps) q ≡ locations_in bin_cmp ps q
          → outstanding_in bin_cmp (numbered n (p ∷ ps)) q ≡ locations_in bin_cmp (p ∷ ps) q
      by true e ih = rw e (ap (λ l. p.location ∷ l) ih)
      by false e ih = rw e ih

  pub outstanding_in-record : (before : List (Outstanding Id B)) (r : Outstanding Id B) (after : List (Outstanding Id B)) (q : B) (b : Bool)
      → is_eq (bin_cmp r.bin q) ≡ b
      → outstanding_in bin_cmp (before ++ r ∷ after) q ≡ outstanding_in bin_cmp before q
      ++ cond b (r.location ∷ outstanding_in bin_cmp after q) (outstanding_in bin_cmp after q)
  outstanding_in-record before r after q b e = outstanding_in-append before (r ∷ after) q ∙ ap (λ l. outstanding_in bin_cmp before q ++ l) (here b e)
    where
      here : (b : Bool) → is_eq (bin_cmp r.bin q) ≡ b → outstanding_in bin_cmp (r ∷ after) q
          ≡ cond b (r.location ∷ outstanding_in bin_cmp after q) (outstanding_in bin_cmp after q)
      here true e = rw e refl
      here false e = rw e refl

-- numbers rise, and are below n
pub record AreNumbered {Id B : Type 0} (outstanding : List (Outstanding Id B)) (n : ℕ) : Type 0 where
  pub rising : AllPairs (λ a b. a.number < b.number) outstanding
  pub below : All (λ r. r.number < n) outstanding

AreNumbered-more : {Id B : Type 0} (ps : List (Placement Id B)) (outstanding : List (Outstanding Id B)) (n : ℕ) → AreNumbered outstanding n
    → AreNumbered (outstanding ++ numbered n ps) (n + length ps)
AreNumbered-more {Id} {B} [] outstanding n h =
    let same : n ≡ n + length {0} {A = Placement Id B} [] = omega arith in
    rw (append-nil outstanding) (subst (λ m. AreNumbered outstanding m) same h)
AreNumbered-more {Id} {B} (p ∷ ps) outstanding n h =
    let r : Outstanding Id B = record { number = n; id = p.id; bin = p.bin; location = p.location } in
    let next : AreNumbered (outstanding ++ r ∷ []) (n + 1) = record {
      rising = all_pairs_push (λ (a b : Outstanding Id B). a.number < b.number) outstanding r h.rising (λ k d within. h.below k d within);
      below = All-push (λ (x : Outstanding Id B). x.number < n + 1) outstanding r (All-weaker (λ (x : Outstanding Id B). x.number < n)
          (λ (x : Outstanding Id B). x.number < n + 1) (λ x lt. omega arith) outstanding h.below) (omega arith);
    } in
    let count : n + 1 + length ps ≡ n + length (p ∷ ps) = omega arith in
    subst (λ m. AreNumbered (outstanding ++ r ∷ numbered (n + 1) ps) m) count
    (subst (λ rs. AreNumbered rs (n + 1 + length ps)) (append_assoc outstanding (r ∷ []) (numbered (n + 1) ps))
    (AreNumbered-more ps (outstanding ++ r ∷ []) (n + 1) next))

All-numbered : {Id B : Type 0} (P : B → Type 0) (n : ℕ) (ps : List (Placement Id B)) → All (λ p. P p.bin) ps → All (λ r. P r.bin) (numbered n ps)
All-numbered {Id} {B} P n [] h = All-nil (λ (r : Outstanding Id B). P r.bin)
All-numbered {Id} {B} P n (p ∷ ps) h =
    All-cons (λ (r : Outstanding Id B). P r.bin) (record { number = n; id = p.id; bin = p.bin; location = p.location }) (numbered (n + 1) ps)
    (All-head (λ (x : Placement Id B). P x.bin) p ps h) (All-numbered P (n + 1) ps (All-tail (λ (x : Placement Id B). P x.bin) p ps h))

-- where no bin comes or goes, the bins of the outstanding placements stay there
pub known-kept : {Id B : Type 0} (bin_cmp : B → B → Ordering) (old new : List (B × Bin)) → keys_of new ≡ keys_of old → (outstanding : List (Outstanding Id B))
    → All (λ r. IsSome (lookup (is_at (bin_cmp r.bin)) old)) outstanding → All (λ r. IsSome (lookup (is_at (bin_cmp r.bin)) new)) outstanding
known-kept {Id} {B} bin_cmp old new same outstanding =
    All-weaker (λ (r : Outstanding Id B). IsSome (lookup (is_at (bin_cmp r.bin)) old)) (λ (r : Outstanding Id B). IsSome (lookup (is_at (bin_cmp r.bin)) new))
    (λ r some. is_some-keys (is_at (bin_cmp r.bin)) new old same ∙ some) outstanding

-- so a session whose bins are carried stays one
pub IsSession-carried : {Id B : Type 0} (bin_cmp : B → B → Ordering) (old new : State Id B) → AreCarried bin_cmp in_session old new
    → All (λ r. IsSome (lookup (is_at (bin_cmp r.bin)) new.bins)) new.outstanding → AreNumbered new.outstanding new.next
    → IsSession bin_cmp old → IsSession bin_cmp new
IsSession-carried bin_cmp old new carried known numbers h = record {
  covered = λ id bin found.
      let c = carried id bin found in
      rw c.size (CoverBin-recut c.before.size (boxes_of bin_cmp old.outstanding id c.before) (boxes_of bin_cmp new.outstanding id bin) c.framed.0
      (h.covered id c.before c.found));
  from_cuts = λ id bin found not_so.
      let c = carried id bin found in
      rw c.size (IsFromCuts-kept c.before.size (boxes_of bin_cmp old.outstanding id c.before) (boxes_of bin_cmp new.outstanding id bin) (c.framed.1 not_so)
      (h.from_cuts id c.before c.found (c.uncoalesced not_so)));
  known = known;
  rising = numbers.rising;
  below = numbers.below;
}

-- a packing that is kept
module _ {Id B : Type 0} (rules : Rules Id B) (o : IsTotalOrder rules.bin_cmp) {K : Type 0} (excludes : List (K × B) → K → B → Bool) where
  AreCarried-packed : (let_off : Bin → Bool) (order : List B) (gs : List (K × Members Id)) (old new : Stage K B) (placements : List (Placement Id B)) (tests : ℕ)
      (outstanding : List (Outstanding Id B)) (next : ℕ)
      → AreAllPlaced rules excludes order gs old placements new tests
      → AreCarried rules.bin_cmp let_off (record { bins = old.bins; outstanding = outstanding; next = next })
      (record { bins = new.bins; outstanding = outstanding ++ numbered next placements; next = next + length placements })
  AreCarried-packed let_off order gs old new placements tests outstanding next done id bin found =
      let before = some_of _ (is_some-keys (is_at (rules.bin_cmp id)) old.bins new.bins
      (sym (keys-placed rules excludes order gs old placements new tests done)) ∙ rw found refl) in
      let changed = changed-all (IsFrame-boxes (let_off bin)) rules o (KeptBySteps-boxes rules.may (let_off bin)) excludes order gs old placements new
      tests done id before.0 before.1 in
      let same : Some changed.after ≡ Some bin = sym changed.found ∙ found in
      let is : changed.after ≡ bin = cc in
      let boxes : outstanding_in rules.bin_cmp (outstanding ++ numbered next placements) id ≡ outstanding_in rules.bin_cmp outstanding id
      ++ locations_in rules.bin_cmp placements id =
      outstanding_in-append rules.bin_cmp outstanding (numbered next placements) id
      ∙ ap (λ l. outstanding_in rules.bin_cmp outstanding id ++ l) (outstanding_in-numbered rules.bin_cmp next placements id) in
      record {
        before = before.0;
        found = before.1;
        size = rw (← is) (ap (λ (b : Bin). b.size) changed.kept);
        uncoalesced = λ not_so. sym (ap (λ (b : Bin). b.coalesced) changed.kept) ∙ ap (λ (b : Bin). b.coalesced) is ∙ not_so;
        framed = subst (λ sections. KeepsBoxes (let_off bin) (boxes_of rules.bin_cmp outstanding id before.0)
            (sections ++ outstanding_in rules.bin_cmp (outstanding ++ numbered next placements) id)) (ap (λ (b : Bin). b.sections) is)
            (rw boxes ((IsFrame-boxes (let_off bin)).beside before.0.sections changed.after.sections
            (locations_in rules.bin_cmp placements id) (outstanding_in rules.bin_cmp outstanding id) changed.framed));
      }

  pub IsSession-packed : (order : List B) (gs : List (K × Members Id)) (old new : Stage K B) (placements : List (Placement Id B)) (tests : ℕ)
      (outstanding : List (Outstanding Id B)) (next : ℕ)
      → AreAllPlaced rules excludes order gs old placements new tests
      → IsSession rules.bin_cmp (record { bins = old.bins; outstanding = outstanding; next = next })
      → IsSession rules.bin_cmp (record { bins = new.bins; outstanding = outstanding ++ numbered next placements; next = next + length placements })
  IsSession-packed order gs old new placements tests outstanding next done h =
      let There : B → Type 0 = λ id. IsSome (lookup (is_at (rules.bin_cmp id)) new.bins) in
      IsSession-carried rules.bin_cmp (record { bins = old.bins; outstanding = outstanding; next = next })
      (record { bins = new.bins; outstanding = outstanding ++ numbered next placements; next = next + length placements })
      (AreCarried-packed in_session order gs old new placements tests outstanding next done)
      (All-append (λ (r : Outstanding Id B). There r.bin) outstanding (numbered next placements)
      (known-kept rules.bin_cmp old.bins new.bins (keys-placed rules excludes order gs old placements new tests done) outstanding h.known)
      (All-numbered There next placements (known-placed rules excludes o order gs old placements new tests done)))
      (AreNumbered-more placements outstanding next (record { rising = h.rising; below = h.below })) h

-- the same, of a packing that is done
pub AreCarried-done : {Id B G : Type 0} (group_cmp : Group G Id → Group G Id → Ordering) (rules : Rules Id B) → IsTotalOrder rules.bin_cmp
    → (let_off : Bin → Bool) (all : Collection Id G) (old new : List (B × Bin)) (placements : List (Placement Id B)) (outstanding : List (Outstanding Id B))
    (next : ℕ) → PackingDone group_cmp rules all old placements new
    → AreCarried rules.bin_cmp let_off (record { bins = old; outstanding = outstanding; next = next })
    (record { bins = new; outstanding = outstanding ++ numbered next placements; next = next + length placements })
AreCarried-done group_cmp rules o let_off all old new placements outstanding next done =
    AreCarried-packed rules o (excludes_by group_cmp rules.bin_cmp all.partners) let_off (map (λ o. o.1) done.bin_order) done.groups (at_start old)
    (record { bins = new; homes = done.homes }) placements done.tests outstanding next done.placed

pub IsSession-done : {Id B G : Type 0} (group_cmp : Group G Id → Group G Id → Ordering) (rules : Rules Id B) → IsTotalOrder rules.bin_cmp
    → (all : Collection Id G) (old new : List (B × Bin)) (placements : List (Placement Id B)) (outstanding later : List (Outstanding Id B)) (next after : ℕ)
    → PackingDone group_cmp rules all old placements new → later ≡ outstanding ++ numbered next placements → after ≡ next + length placements
    → IsSession rules.bin_cmp (record { bins = old; outstanding = outstanding; next = next })
    → IsSession rules.bin_cmp (record { bins = new; outstanding = later; next = after })
IsSession-done group_cmp rules o all old new placements outstanding later next after done are is h =
    rw (are, is) (IsSession-packed rules o (excludes_by group_cmp rules.bin_cmp all.partners) (map (λ o. o.1) done.bin_order) done.groups (at_start old)
    (record { bins = new; homes = done.homes }) placements done.tests outstanding next done.placed h)

-- where a box is given back no bin comes or goes
keys-released : {B : Type 0} (bin_cmp : B → B → Ordering) (old new : List (B × Bin)) (id : B) (box : Cuboid)
    → GivesBack bin_cmp old id box new → keys_of new ≡ keys_of old
keys-released {B} bin_cmp old new id box = by (has_cells box)
  where
    by : (cells : Bool) → MatchBool cells ((b : Bin) × (lookup (is_at (bin_cmp id)) old ≡ Some b)
        × (new ≡ set_value (is_at (bin_cmp id)) old (record b { sections = b.sections ++ box ∷ [] }))) (new ≡ old) → keys_of new ≡ keys_of old
    by true (b, found, written) = ap keys_of written ∙ keys-set_value (is_at (bin_cmp id)) old (record b { sections = b.sections ++ box ∷ [] })
    by false same = ap keys_of same

module _ {Id B : Type 0} {bin_cmp : B → B → Ordering} (o : IsTotalOrder bin_cmp) where
  -- one bin is written, and what stands in the others stays
  pub AreCarried-written : (let_off : Bin → Bool) (old : State Id B) (id : B) (v w : Bin) (outstanding : List (Outstanding Id B)) → lookup (is_at (bin_cmp id)) old.bins ≡ Some v
      → w.size ≡ v.size → (w.coalesced ≡ false → v.coalesced ≡ false)
      → ((q : B) → is_eq (bin_cmp id q) ≡ true → KeepsBoxes (let_off w) (boxes_of bin_cmp old.outstanding q v) (boxes_of bin_cmp outstanding q w))
      → ((q : B) → is_eq (bin_cmp id q) ≡ false → outstanding_in bin_cmp outstanding q ≡ outstanding_in bin_cmp old.outstanding q)
      → AreCarried bin_cmp let_off old (record { bins = set_value (is_at (bin_cmp id)) old.bins w; outstanding = outstanding; next = old.next })
  AreCarried-written let_off old id v w outstanding there size uncoalesced here beside q after found = by (is_eq (bin_cmp id q)) refl
    where
      new : State Id B
      new = record { bins = set_value (is_at (bin_cmp id)) old.bins w; outstanding = outstanding; next = old.next }

      by : (b : Bool) → is_eq (bin_cmp id q) ≡ b → IsCarried bin_cmp let_off old new q after
      by true e =
          let now : Some after ≡ Some w = sym found ∙ lookup-written o id old.bins v w q there ∙ rw e refl in
          let is : after ≡ w = cc in
          record {
            before = v;
            found = sym (lookup-equal o id q ((Equal-is _).0 e) old.bins) ∙ there;
            size = rw is size;
            uncoalesced = rw is uncoalesced;
            framed = rw is (here q e);
          }
      by false e = record {
        before = after;
        found = sym (lookup-written o id old.bins v w q there ∙ rw e refl) ∙ found;
        size = refl;
        uncoalesced = λ not_so. not_so;
        framed = rw (beside q e) ((IsFrame-boxes (let_off after)).same (boxes_of bin_cmp old.outstanding q after));
      }

  -- a placement that is released, of a bin that is there
  AreCarried-released : (let_off : Bin → Bool) (old new : List (B × Bin)) (before : List (Outstanding Id B)) (r : Outstanding Id B)
      (after : List (Outstanding Id B)) (next : ℕ) (v : Bin)
      → lookup (is_at (bin_cmp r.bin)) old ≡ Some v → GivesBack bin_cmp old r.bin r.location new
      → AreCarried bin_cmp let_off (record { bins = old; outstanding = before ++ r ∷ after; next = next })
      (record { bins = new; outstanding = before ++ after; next = next })
  AreCarried-released let_off old new before r after next v there gives = by (has_cells r.location) refl gives
    where
      was : State Id B
      was = record { bins = old; outstanding = before ++ r ∷ after; next = next }

      left : B → List Cuboid
      left q = outstanding_in bin_cmp before q

      right : B → List Cuboid
      right q = outstanding_in bin_cmp after q

      both : (q : B) → outstanding_in bin_cmp (before ++ after) q ≡ left q ++ right q
      both q = outstanding_in-append bin_cmp before after q

      beside : (q : B) → is_eq (bin_cmp r.bin q) ≡ false → outstanding_in bin_cmp (before ++ after) q ≡ outstanding_in bin_cmp (before ++ r ∷ after) q
      beside q e = both q ∙ sym (outstanding_in-record bin_cmp before r after q false e)

      by : (cells : Bool) → has_cells r.location ≡ cells
          → MatchBool cells ((b : Bin) × (lookup (is_at (bin_cmp r.bin)) old ≡ Some b)
          × (new ≡ set_value (is_at (bin_cmp r.bin)) old (record b { sections = b.sections ++ r.location ∷ [] }))) (new ≡ old)
          → AreCarried bin_cmp let_off was (record { bins = new; outstanding = before ++ after; next = next })
      by true cells (b, found, written) =
          rw written (AreCarried-written let_off was r.bin b (record b { sections = b.sections ++ r.location ∷ [] }) (before ++ after) found refl (λ not_so. not_so)
          (λ q e. rw (outstanding_in-record bin_cmp before r after q true e, both q)
          ((IsFrame-boxes (let_off (record b { sections = b.sections ++ r.location ∷ [] }))).moved b.sections (left q) (right q) r.location)) beside)
      by false cells same =
          rw (same ∙ sym (set_value_same (is_at (bin_cmp r.bin)) old v there)) (AreCarried-written let_off was r.bin v v (before ++ after) there refl (λ not_so. not_so)
          (λ q e. rw (outstanding_in-record bin_cmp before r after q true e, both q)
          ((IsFrame-boxes (let_off v)).dropped v.sections (left q) (right q) r.location cells)) beside)

  -- the same, of a session, in which the bin is there
  pub AreCarried-given : (let_off : Bin → Bool) (old new : List (B × Bin)) (before : List (Outstanding Id B)) (r : Outstanding Id B)
      (after : List (Outstanding Id B)) (next : ℕ)
      → GivesBack bin_cmp old r.bin r.location new
      → IsSession bin_cmp (record { bins = old; outstanding = before ++ r ∷ after; next = next })
      → AreCarried bin_cmp let_off (record { bins = old; outstanding = before ++ r ∷ after; next = next })
      (record { bins = new; outstanding = before ++ after; next = next })
  AreCarried-given let_off old new before r after next gives h =
      let There : Outstanding Id B → Type 0 = λ x. IsSome (lookup (is_at (bin_cmp x.bin)) old) in
      let there = some_of _ (All-middle There (before ++ r ∷ after) before after r refl h.known) in
      AreCarried-released let_off old new before r after next there.0 there.1 gives

  pub IsSession-released : (old new : List (B × Bin)) (before : List (Outstanding Id B)) (r : Outstanding Id B) (after : List (Outstanding Id B)) (next : ℕ)
      → GivesBack bin_cmp old r.bin r.location new
      → IsSession bin_cmp (record { bins = old; outstanding = before ++ r ∷ after; next = next })
      → IsSession bin_cmp (record { bins = new; outstanding = before ++ after; next = next })
  IsSession-released old new before r after next gives h =
      let There : Outstanding Id B → Type 0 = λ x. IsSome (lookup (is_at (bin_cmp x.bin)) old) in
      let Below : Outstanding Id B → Type 0 = λ x. x.number < next in
      let without : remove (before ++ r ∷ after) (length before) ≡ before ++ after =
      remove-append_right before (r ∷ after) (length before) (length before) refl (omega arith)
      ∙ (let none : length before - length before ≡ 0 = omega arith in ap (λ n. before ++ remove (r ∷ after) n) none) in
      IsSession-carried bin_cmp (record { bins = old; outstanding = before ++ r ∷ after; next = next })
      (record { bins = new; outstanding = before ++ after; next = next })
      (AreCarried-given in_session old new before r after next gives h)
      (known-kept bin_cmp old new (keys-released bin_cmp old new r.bin r.location gives) (before ++ after) (All-without There before r after h.known))
      (record {
        rising = subst (λ rs. AllPairs (λ (a b : Outstanding Id B). a.number < b.number) rs) without
            (all_pairs_remove (λ (a b : Outstanding Id B). a.number < b.number) (before ++ r ∷ after) (length before)
            (let e = length-append before (r ∷ after) in omega arith) h.rising);
        below = All-without Below before r after h.below;
      }) h

  -- an outstanding box can be given back
  IsSession-accepts : (bins : List (B × Bin)) (before : List (Outstanding Id B)) (r : Outstanding Id B) (after : List (Outstanding Id B)) (next : ℕ) (bin : Bin)
      → IsSession bin_cmp (record { bins = bins; outstanding = before ++ r ∷ after; next = next })
      → lookup (is_at (bin_cmp r.bin)) bins ≡ Some bin → IsAccepted bin r.location
  IsSession-accepts bins before r after next bin h found =
      let left = outstanding_in bin_cmp before r.bin in
      let right = outstanding_in bin_cmp after r.bin in
      let box = r.location in
      let P : Cuboid → Type 0 = IsInside bin.size in
      let cover : CoverBin (bin.sections ++ (left ++ box ∷ right)) bin.size =
      rw (outstanding_in-record bin_cmp before r after r.bin true (ap is_eq (tied_itself o r.bin))) at (h.covered r.bin bin found) in
      record {
        inside = All-head P box right (All-back P left (box ∷ right) (All-back P bin.sections (left ++ box ∷ right) cover.inside));
        apart = λ k d within. record {
          none = λ c first second.
              let inside = All-front P bin.sections (left ++ box ∷ right) cover.inside k d within in
              let in_bin : IsCellOf c (whole bin.size) = record {
                from_x = omega arith;
                below_x = omega (arith, inside.within_x, first.below_x);
                from_y = omega arith;
                below_y = omega (arith, inside.within_y, first.below_y);
                from_z = omega arith;
                below_z = omega (arith, inside.within_z, first.below_z);
              } in
              omega (
                arith,
                cover.once c in_bin,
                filled-append c bin.sections (left ++ box ∷ right),
                filled-append c left (box ∷ right),
                filled_yes c box right second,
                filled_from_some c bin.sections (k, get_or bin.sections k d, within, get_or_default bin.sections k (get_or bin.sections k d) d within, first),
              );
        };
      }

-- what a look-up finds or does not find, without the room
pub Some-bins_of : {B : Type 0} (test : B → Bool) (es : List (B × Held)) (v : Held) → lookup test es ≡ Some v → lookup test (bins_of es) ≡ Some v.bin
Some-bins_of test es v h = lookup-bins_of test es ∙ ap (option_map (λ (x : Held). x.bin)) h

pub None-bins_of : {B : Type 0} (test : B → Bool) (es : List (B × Held)) → lookup test es ≡ None → lookup test (bins_of es) ≡ None
None-bins_of test es h = lookup-bins_of test es ∙ ap (option_map (λ (x : Held). x.bin)) h

-- the placement at an index is outstanding
abbrev pub outstanding_at : {Id B : Type 0} (outstanding : List (Outstanding Id B)) (number i : ℕ) (r : Outstanding Id B) → (i < length outstanding)
    × ((d : Outstanding Id B) → (get_or outstanding i d).number ≡ number) → r ≡ get_or outstanding i r → IsOutstanding outstanding number
outstanding_at {Id} {B} outstanding number i r at is = record {
  before = take i outstanding;
  found = r;
  after = drop (suc i) outstanding;
  splits = subst (λ (z : Outstanding Id B). outstanding ≡ take i outstanding ++ z ∷ drop (suc i) outstanding) (sym is) (split_at outstanding i r at.0);
  number_is = ap (λ (x : Outstanding Id B). x.number) is ∙ at.1 r;
}

-- its bin is there, and accepts its box
pub IsSession-found : {Id B : Type 0} {bin_cmp : B → B → Ordering} → IsTotalOrder bin_cmp
    → (bins : List (B × Held)) (outstanding : List (Outstanding Id B)) (next number : ℕ) (at : IsOutstanding outstanding number)
    → IsSession bin_cmp (record { bins = bins_of bins; outstanding = outstanding; next = next })
    → (held : Held) × (lookup (is_at (bin_cmp at.found.bin)) bins ≡ Some held) × IsAccepted held.bin at.found.location
IsSession-found {Id} {B} {bin_cmp} o bins outstanding next number at h =
    let test = is_at (bin_cmp at.found.bin) in
    let session : IsSession bin_cmp (record { bins = bins_of bins; outstanding = at.before ++ at.found ∷ at.after; next = next }) = subst
    (λ rs. IsSession bin_cmp (record { bins = bins_of bins; outstanding = rs; next = next })) at.splits h in
    let known = All-middle (λ (r : Outstanding Id B). IsSome (lookup (is_at (bin_cmp r.bin)) (bins_of bins))) outstanding at.before at.after
    at.found at.splits h.known in
    let there = some_of (lookup test bins) (sym (is_some-bins_of test bins) ∙ known) in
    (there.0, there.1, IsSession-accepts o (bins_of bins) at.before at.found at.after next there.0.bin session (Some-bins_of test bins there.0 there.1))

-- a new bin is covered by its one section
pub whole-covers : (size : Size) → CoverBin (whole size ∷ []) size
whole-covers size = record {
  inside = All-cons (IsInside size) (whole size) [] (record { within_x = omega arith; within_y = omega arith; within_z = omega arith })
      (All-nil (IsInside size));
  once = λ c in_bin. omega (arith, filled_yes c (whole size) [] in_bin, filled-nil c);
}

-- no placement is in a bin that is not there
outstanding_in-absent : {Id B : Type 0} {bin_cmp : B → B → Ordering} → IsTotalOrder bin_cmp
    → (bins : List (B × Bin)) (outstanding : List (Outstanding Id B)) (q : B)
    → lookup (is_at (bin_cmp q)) bins ≡ None → All (λ r. IsSome (lookup (is_at (bin_cmp r.bin)) bins)) outstanding → outstanding_in bin_cmp outstanding q ≡ []
outstanding_in-absent o bins [] q absent known = refl
outstanding_in-absent {Id} {B} {bin_cmp} o bins (r ∷ rs) q absent known =
    at (is_eq (bin_cmp r.bin q)) refl
    (outstanding_in-absent o bins rs q absent (All-tail (λ (x : Outstanding Id B). IsSome (lookup (is_at (bin_cmp x.bin)) bins)) r rs known))
  where
    at : (b : Bool) → is_eq (bin_cmp r.bin q) ≡ b → outstanding_in bin_cmp rs q ≡ [] → outstanding_in bin_cmp (r ∷ rs) q ≡ []
    at true e ih =
        let none : lookup (is_at (bin_cmp r.bin)) bins ≡ None = lookup-equal o r.bin q ((Equal-is _).0 e) bins ∙ absent in
        let some : IsSome {T = Bin} None = rw none at (All-head (λ (x : Outstanding Id B). IsSome (lookup (is_at (bin_cmp x.bin)) bins)) r rs known) in
        absurd cc
    at false e ih = rw e ih

pub IsSession-added : {Id B : Type 0} {bin_cmp : B → B → Ordering} → IsTotalOrder bin_cmp
    → (bins new : List (B × Bin)) (outstanding : List (Outstanding Id B)) (next : ℕ) (id : B) (size : Size)
    → lookup (is_at (bin_cmp id)) bins ≡ None
    → ((q : B) → lookup (is_at (bin_cmp q)) new ≡ cond (is_at (bin_cmp id) q) (Some (new_bin size)) (lookup (is_at (bin_cmp q)) bins))
    → IsSession bin_cmp (record { bins = bins; outstanding = outstanding; next = next })
    → IsSession bin_cmp (record { bins = new; outstanding = outstanding; next = next })
IsSession-added {Id} {B} {bin_cmp} o bins new outstanding next id size absent seen h = record {
  covered = λ q bin found. (each q bin found (is_eq (bin_cmp id q)) refl).0;
  from_cuts = λ q bin found not_so. (each q bin found (is_eq (bin_cmp id q)) refl).1 not_so;
  known = All-weaker (λ (r : Outstanding Id B). IsSome (lookup (is_at (bin_cmp r.bin)) bins))
      (λ (r : Outstanding Id B). IsSome (lookup (is_at (bin_cmp r.bin)) new)) (λ r some. there r.bin (is_eq (bin_cmp id r.bin)) refl some) outstanding h.known;
  rising = h.rising;
  below = h.below;
}
  where
    there : (q : B) (b : Bool) → is_eq (bin_cmp id q) ≡ b → IsSome (lookup (is_at (bin_cmp q)) bins) → IsSome (lookup (is_at (bin_cmp q)) new)
    there q true e some = rw (seen q, e) refl
    there q false e some = rw (seen q, e) some

    each : (q : B) (bin : Bin) → lookup (is_at (bin_cmp q)) new ≡ Some bin → (b : Bool) → is_eq (bin_cmp id q) ≡ b
        → CoverBin (boxes_of bin_cmp outstanding q bin) bin.size × (bin.coalesced ≡ false → IsFromCuts (boxes_of bin_cmp outstanding q bin) (whole bin.size))
    each q bin found true e =
        let now : Some bin ≡ Some (new_bin size) = sym found ∙ seen q ∙ rw e refl in
        let same : bin ≡ new_bin size = cc in
        let none : lookup (is_at (bin_cmp q)) bins ≡ None = sym (lookup-equal o id q ((Equal-is _).0 e) bins) ∙ absent in
        rw (same, outstanding_in-absent o bins outstanding q none h.known) (whole-covers size, λ not_so. IsFromCuts-leaf (whole size))
    each q bin found false e =
        let was = sym (seen q ∙ rw e refl) ∙ found in
        (h.covered q bin was, h.from_cuts q bin was)

-- an entry that is inserted, without its room
pub bins_of-insert_entry : {B : Type 0} (bin_cmp : B → B → Ordering) (es : List (B × Held)) (k : B) (v : Held)
    → bins_of (insert_entry bin_cmp es k v) ≡ insert_entry bin_cmp (bins_of es) k v.bin
bins_of-insert_entry bin_cmp es k v = insert_entry-map_values (λ (h : Held). h.bin) bin_cmp es k v
