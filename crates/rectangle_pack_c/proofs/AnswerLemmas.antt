-- What a session's answer to a packing says of the lists of a C caller.
use Rattle.rectangle_pack_c.proofs.Std.{◌≡◌, ◌≢◌, ◌⊎◌, inl, inr, ℕ, ◌<◌, List, [], ◌∷◌, ◌++◌, length, get_or, refl, ap, sym, ◌∙◌, subst, arith, suc, All, Some, map}
use Rattle.rectangle_pack_c.proofs.Std.{slice_get, Equal, nat_cmp_is, IsPermutation, nat_cmp, keys_of, values_of, nat_cmp_total, Contains}
use Rattle.rectangle_pack_c.proofs.Std.{IsPermutation-map, All-contains, All-weaker, exact_unsigned, get_or_from_slice_get, Contains-append_right, length-append}
use Rattle.rectangle_pack_sections.specs.declared.box_size_heuristics.named.Heuristic.{Heuristic}
use Rattle.rectangle_pack.specs.declared.grouped_rects_to_place.Group.{Group}
use Rattle.rectangle_pack.specs.declared.pack.Placement.{Placement}
use Rattle.rectangle_pack.specs.declared.session.command.Packed.{Packed}
use Rattle.rectangle_pack.specs.declared.session.command.Reply.TheVariants.{Packed as Kept, Refused}
use Rattle.rectangle_pack.specs.declared.session.command.SessionError.TheVariants.{NotEnoughBinSpace}
use Rattle.rectangle_pack_packing.specs.declared.uses.Use.{Use}
use Rattle.rectangle_pack.specs.Best.{named_rules, use_of, IsBetterUse, PacksWith}
use Rattle.rectangle_pack.specs.Bins.{Bin}
use Rattle.rectangle_pack.specs.Closures.{Answers}
use Rattle.rectangle_pack.specs.Groups.{Collection}
use Rattle.rectangle_pack.specs.Heuristics.{rate_of, named_answers}
use Rattle.rectangle_pack.specs.Packing.{rules_by, at_start, PackingDone}
use Rattle.rectangle_pack.specs.Placed.{ArePlacedWhole}
use Rattle.rectangle_pack.specs.Results.{HaveOneResult, AreSameBins, ArePlacementsAlike}
use Rattle.rectangle_pack.specs.Promise.{NoBinTakes, PlacesWhole}
use Rattle.rectangle_pack.specs.Session.{State, IsKept, numbered}
use Rattle.rectangle_pack_packing.proofs.lemmas.determinism.OnePacking.{one_result}
use Rattle.rectangle_pack_packing.proofs.lemmas.packing.Orders.{names-zip}
use Rattle.rectangle_pack_sections.proofs.lemmas.cuts.SmallestBox.{smallest_is_preorder}
use Rattle.rectangle_pack_packing.proofs.lemmas.determinism.Preorders.{total_decides}
use Rattle.rectangle_pack_packing.proofs.lemmas.packing.Whole.{all_whole}
use Rattle.rectangle_pack_c.specs.declared.RpBin.{RpBin}
use Rattle.rectangle_pack_c.specs.declared.RpBox.{RpBox}
use Rattle.rectangle_pack_c.specs.declared.RpPlacement.{RpPlacement}
use Rattle.rectangle_pack_c.specs.declared.collection.RpExclusion.{RpExclusion}
use Rattle.rectangle_pack_c.specs.Arguments.{new_bins}
use Rattle.rectangle_pack_c.specs.Collections.{group_order, IsCollected}
use Rattle.rectangle_pack_c.specs.Heuristics.{asked, heuristic_number}
use Rattle.rectangle_pack_c.specs.Answers.{ArePlaced, KeepApart, IsDonePacking, IsBestPacking, IsRefusedPacking, corner_of}
use Rattle.rectangle_pack_c.specs.Sessions.{PacksCollection}
use Rattle.rectangle_pack_c.specs.private.Written.{AreWritten, NewAreWritten, as_placement}
use Rattle.rectangle_pack_c.proofs.OrderLemmas.{group_order_total}
use Rattle.rectangle_pack_sections.proofs.lemmas.util.Zips.{AllZip-itself}
use Rattle.rectangle_pack_c.proofs.WholeLemmas.{zip_right, in_later, in_first}
use Rattle.rectangle_pack_c.proofs.CollectedLemmas.{collected_alike, done_again}
use Rattle.rectangle_pack_c.proofs.PlacedLemmas.{placements_each, placed_each, packed_placed, keep_apart}

-- a session that has these bins, and nothing in them
abbrev pub start : List RpBin → State ℕ ℕ
start bins = record { bins = new_bins bins; outstanding = []; next = 0 }

-- where the groups of a packing that is done are
record HasHomes (all : Collection ℕ ℕ) (ps : List (Placement ℕ ℕ)) : Type 0 where
  homes : List (Group ℕ ℕ × ℕ)
  moved : IsPermutation (keys_of all.groups) (map (λ h. h.0) homes)
  are : ArePlacedWhole nat_cmp nat_cmp group_order all.sizes all.groups homes ps

has_homes : (may : Answers) (all : Collection ℕ ℕ) (old left : List (ℕ × Bin)) (ps : List (Placement ℕ ℕ))
    → PackingDone group_order (rules_by nat_cmp nat_cmp may) all old ps left → HasHomes all ps
has_homes may all old left ps done =
    let whole = all_whole (rules_by nat_cmp nat_cmp may) group_order all.sizes all.groups _ done.group_order _ done.groups (at_start old) ps _
    done.tests done.listed done.placed in
    let names : map (λ h. h.0) whole.0.added ≡ map (λ e. e.1) done.group_order = whole.0.names ∙ whole.1 in
    let order = done.by_groups in
    record {
      homes = whole.0.added;
      moved = rw (names, ← names-zip (λ (e : ℕ × Group ℕ ℕ). e.1) _ all.groups order.unsorted order.each)
          (IsPermutation-map (λ e. e.1) order.unsorted done.group_order order.permutation);
      are = whole.0.whole;
    }

-- the placements of a new session that are written stand at the indices of their boxes
stood_at : (ps : List (Placement ℕ ℕ)) (bins : List RpBin) (new : State ℕ ℕ) (placements : List RpPlacement)
    → new.outstanding ≡ (start bins).outstanding ++ numbered 0 ps
    → NewAreWritten as_placement (start bins) new placements → All (λ p. slice_get placements p.id ≡ Some (corner_of p.bin p.location)) ps
stood_at ps bins new placements outstanding written = placements_each (λ id q. slice_get placements id ≡ Some q) 0 ps
    (subst (λ rs. AreWritten as_placement rs placements) outstanding written)

module _ (bins : List RpBin) (boxes : List RpBox) (exclusions : List RpExclusion) (heuristic chosen : ℕ) (new : State ℕ ℕ) where
  module _ (numbers : Packed) (packs : PacksCollection heuristic boxes exclusions chosen (start bins) (Kept numbers) new)
      (placements : List RpPlacement) (written : NewAreWritten as_placement (start bins) new placements) where
    abbrev all : Collection ℕ ℕ
    all = packs.0

    abbrev best : Heuristic
    best = packs.1

    abbrev kept : IsKept group_order (named_rules nat_cmp nat_cmp best) all (start bins) numbers new
    kept = packs.4.1

    abbrev whole : PlacesWhole group_order (named_rules nat_cmp nat_cmp best) all (start bins) new
    whole = packs.5

    found : HasHomes all kept.placements
    found = has_homes (named_answers best) all (new_bins bins) new.bins kept.placements kept.done

    stood : All (λ p. slice_get placements p.id ≡ Some (corner_of p.bin p.location)) kept.placements
    stood = stood_at kept.placements bins new placements kept.outstanding written

    -- where they are written, the boxes are placed
    pub answer_placed : length placements ≡ length boxes → ArePlaced bins boxes placements
    answer_placed as_many =
        packed_placed boxes exclusions all packs.2 kept.placements found.homes found.moved found.are placements stood bins (named_answers best) new.bins
        kept.done as_many

    -- those of groups that are excluded in different bins
    pub answer_apart : All (λ e. e.one ≢ e.other) exclusions → KeepApart boxes exclusions placements
    answer_apart differ =
        keep_apart boxes exclusions all packs.2 whole.placements whole.homes whole.groups whole.whole placements
        (stood_at whole.placements bins new placements whole.outstanding written) differ whole.apart

    -- and the placements are those of the packing with the best heuristic
    pub answer_packed : length placements ≡ length boxes → IsBestPacking bins boxes exclusions (asked heuristic) chosen placements
    answer_packed as_many = record {
      best = best;
      number = packs.3;
      packing = record {
        all = all;
        collected = packs.2;
        made = kept.placements;
        left = new.bins;
        done = kept.done;
        written = stood;
        as_many = as_many;
      };
      best_of = packs.4.2;
    }

  -- a packing that is refused
  pub answer_refused : PacksCollection heuristic boxes exclusions chosen (start bins) (Refused NotEnoughBinSpace) new
      → All (IsRefusedPacking bins boxes exclusions) (asked heuristic)
  answer_refused packs = All-weaker (λ h. NoBinTakes group_order (named_rules nat_cmp nat_cmp h) packs.0 (new_bins bins)) (IsRefusedPacking bins boxes exclusions)
      (λ h none. record { all = packs.0; collected = packs.1; refused = none }) (asked heuristic) packs.3

-- all that is said of a call whose session began with these bins
pub record IsAnswered (bins : List RpBin) (boxes : List RpBox) (exclusions : List RpExclusion) (heuristic chosen : ℕ) (placements : List RpPlacement)
    : Type 0 where
  pub placed : ArePlaced bins boxes placements
  pub apart : KeepApart boxes exclusions placements
  pub packed : IsBestPacking bins boxes exclusions (asked heuristic) chosen placements

pub answered : (bins : List RpBin) (boxes : List RpBox) (exclusions : List RpExclusion) (heuristic chosen : ℕ) (old new : State ℕ ℕ) → old ≡ start bins
    → (numbers : Packed) → PacksCollection heuristic boxes exclusions chosen old (Kept numbers) new
    → (placements : List RpPlacement) → NewAreWritten as_placement old new placements → length placements ≡ length boxes
    → All (λ e. e.one ≢ e.other) exclusions → IsAnswered bins boxes exclusions heuristic chosen placements
answered bins boxes exclusions heuristic chosen old new was numbers packs placements written as_many differ =
    let here = subst (λ (o : State ℕ ℕ). PacksCollection heuristic boxes exclusions chosen o (Kept numbers) new) was packs in
    let there = subst (λ (o : State ℕ ℕ). NewAreWritten as_placement o new placements) was written in
    record {
      placed = answer_placed bins boxes exclusions heuristic chosen new numbers here placements there as_many;
      apart = answer_apart bins boxes exclusions heuristic chosen new numbers here placements there differ;
      packed = answer_packed bins boxes exclusions heuristic chosen new numbers here placements there as_many;
    }

-- packings of the same boxes into the same bins with one heuristic have one result
one_answer : (bins : List RpBin) (boxes : List RpBox) (exclusions : List RpExclusion) (h : Heuristic) (all other : Collection ℕ ℕ)
    → IsCollected boxes exclusions all → IsCollected boxes exclusions other
    → HaveOneResult group_order (named_rules nat_cmp nat_cmp h) (named_rules nat_cmp nat_cmp h) all other (new_bins bins) (new_bins bins)
one_answer bins boxes exclusions h all other one two =
    one_result group_order (named_rules nat_cmp nat_cmp h) group_order_total nat_cmp_total nat_cmp_total all other (new_bins bins) (new_bins bins)
    (collected_alike boxes exclusions all other one two)
    (AllZip-itself (λ x y. (nat_cmp x.0 y.0 ≡ Equal) × AreSameBins x.1 y.1)
    (λ x. (sym (nat_cmp_is x.0 x.0 Equal refl), record { size = refl; sections = refl })) (new_bins bins))
    (total_decides (values_of all.sizes) (values_of (new_bins bins)) (named_answers h) (record { rate = rate_of h; only = λ size rate says. says })
    (smallest_is_preorder (λ size rate. rate ≡ rate_of h size) (rate_of h) (λ size rate small says. says) (named_answers h).prefer
    (λ a b r says. (says.0.small, says.1.small)) (λ a b r says. says.2)))

-- lists with the same entries are the same
pub same_lists : {X : Type 0} (xs ys : List X) → length xs ≡ length ys → ((i : ℕ) (d : X) → i < length xs → get_or xs i d ≡ get_or ys i d) → xs ≡ ys
same_lists [] [] long each = refl
same_lists [] (y ∷ ys) long each = absurd (omega arith)
same_lists (x ∷ xs) [] long each = absurd (omega arith)
same_lists (x ∷ xs) (y ∷ ys) long each =
    let first : x ≡ y = each 0 x (omega arith) in
    ap (λ z. z ∷ xs) first ∙ ap (λ zs. y ∷ zs) (same_lists xs ys (omega arith) (λ i d low. each (suc i) d (omega arith)))

-- so equal bins and boxes have equal placements
pub one_packing : (bins : List RpBin) (boxes : List RpBox) (exclusions : List RpExclusion) (heuristic : Heuristic) (one other : List RpPlacement)
    → IsDonePacking bins boxes exclusions heuristic one → IsDonePacking bins boxes exclusions heuristic other → other ≡ one
one_packing bins boxes exclusions heuristic one other h g = same_lists other one (g.as_many ∙ sym h.as_many) same
  where
    alike : ArePlacementsAlike nat_cmp nat_cmp h.made g.made
    alike = ((one_answer bins boxes exclusions heuristic h.all g.all h.collected g.collected).done h.made g.made h.left g.left h.done g.done).1

    found : HasHomes h.all h.made
    found = has_homes (named_answers heuristic) h.all (new_bins bins) h.left h.made h.done

    same : (i : ℕ) (d : RpPlacement) → i < length other → get_or other i d ≡ get_or one i d
    same i d low =
        let (p, inside, p_id) = placed_each boxes exclusions h.all h.collected h.made found.homes found.moved found.are i (omega (arith, low, g.as_many)) in
        let (q, among, like) = zip_right (λ p q. (nat_cmp p.id q.id ≡ Equal) × (nat_cmp p.bin q.bin ≡ Equal) × (p.location ≡ q.location))
        h.made g.made alike p inside in
        let q_id : q.id ≡ i = sym (exact_unsigned p.id q.id like.0) ∙ p_id in
        let here : slice_get one i ≡ Some (corner_of p.bin p.location) = rw p_id at
        (All-contains (λ (p : Placement ℕ ℕ). slice_get one p.id ≡ Some (corner_of p.bin p.location)) h.made p h.written inside) in
        let there : slice_get other i ≡ Some (corner_of q.bin q.location) = rw q_id at
        (All-contains (λ (p : Placement ℕ ℕ). slice_get other p.id ≡ Some (corner_of p.bin p.location)) g.made q g.written among) in
        let corners : corner_of q.bin q.location ≡ corner_of p.bin p.location = ap (λ b. corner_of b q.location) (sym (exact_unsigned p.bin q.bin like.1))
        ∙ ap (corner_of p.bin) (sym like.2) in
        get_or_from_slice_get other i (corner_of q.bin q.location) d there ∙ corners ∙ sym (get_or_from_slice_get one i (corner_of p.bin p.location) d here)

-- and what is packed by one call is refused by none
pub never_both : (bins : List RpBin) (boxes : List RpBox) (exclusions : List RpExclusion) (heuristic : Heuristic) (placements : List RpPlacement)
    → IsDonePacking bins boxes exclusions heuristic placements → IsRefusedPacking bins boxes exclusions heuristic → ⊥
never_both bins boxes exclusions heuristic placements h r =
    (one_answer bins boxes exclusions heuristic h.all r.all h.collected r.collected).not_done_and_refused h.made h.left r.refused.left h.done r.refused.refused

-- two places of a list are one, or the first is before the second, or behind it
pub two_places : {X : Type 0} (xs : List X) (x : X) (ys us : List X) (v : X) (vs : List X) → xs ++ x ∷ ys ≡ us ++ v ∷ vs
    → (x ≡ v) ⊎ ((Contains us x × Contains ys v) ⊎ (Contains xs v × Contains vs x))
two_places [] x ys [] v vs same = inl cc
two_places [] x ys (u ∷ us) v vs same =
    let first : x ≡ u = cc in
    let later : ys ≡ us ++ v ∷ vs = cc in
    inr (inl (in_first u us x (sym first), rw later (Contains-append_right us (v ∷ vs) v (in_first v vs v refl))))
two_places (y ∷ xs) x ys [] v vs same =
    let first : y ≡ v = cc in
    let later : xs ++ x ∷ ys ≡ vs = cc in
    inr (inr (in_first y xs v first, rw (← later) (Contains-append_right xs (x ∷ ys) x (in_first x ys x refl))))
two_places (y ∷ xs) x ys (u ∷ us) v vs same = by (two_places xs x ys us v vs cc)
  where
    by : (x ≡ v) ⊎ ((Contains us x × Contains ys v) ⊎ (Contains xs v × Contains vs x))
        → (x ≡ v) ⊎ ((Contains (u ∷ us) x × Contains ys v) ⊎ (Contains (y ∷ xs) v × Contains vs x))
    by (inl e) = inl e
    by (inr (inl h)) = inr (inl (in_later u us x h.0, h.1))
    by (inr (inr h)) = inr (inr (in_later y xs v h.0, h.1))

-- one heuristic is the best
module _ (bins : List RpBin) (boxes : List RpBox) (exclusions : List RpExclusion) (heuristics : List Heuristic) where
  abbrev Best : Type 0
  Best = (chosen : ℕ) × (placements : List RpPlacement) × IsBestPacking bins boxes exclusions heuristics chosen placements

  abbrev made_by : Best → Use
  made_by b = use_of nat_cmp b.2.packing.made (new_bins bins)

  -- what the one packs is packed of the other's collection too
  with_other : (a b : Best) → PacksWith group_order nat_cmp nat_cmp a.2.packing.all (new_bins bins) b.2.best (made_by b)
  with_other a b = record {
    placements = b.2.packing.made;
    new = b.2.packing.left;
    done = done_again (named_rules nat_cmp nat_cmp b.2.best) boxes exclusions b.2.packing.all a.2.packing.all b.2.packing.collected a.2.packing.collected
        (new_bins bins) b.2.packing.left b.2.packing.made b.2.packing.done;
    use_is = refl;
  }

  -- so none of two that are the best is before the other
  not_before : (a b : Best) → Contains b.2.best_of.before a.2.best → Contains a.2.best_of.after b.2.best → ⊥
  not_before a b before after =
      let b_better : IsBetterUse (made_by b) (made_by a) = All-contains
      (λ h. (other : Use) → PacksWith group_order nat_cmp nat_cmp b.2.packing.all (new_bins bins) h other → IsBetterUse (made_by b) other)
      b.2.best_of.before a.2.best b.2.best_of.worse before (made_by a) (with_other b a) in
      All-contains (λ h. (other : Use) → PacksWith group_order nat_cmp nat_cmp a.2.packing.all (new_bins bins) h other → ¬ IsBetterUse other (made_by a))
      a.2.best_of.after b.2.best a.2.best_of.no_better after (made_by b) (with_other a b) b_better

  same_best : (a b : Best) → a.2.best ≡ b.2.best
  same_best a b = by (two_places a.2.best_of.before a.2.best a.2.best_of.after b.2.best_of.before b.2.best b.2.best_of.after
      (sym a.2.best_of.listed ∙ b.2.best_of.listed))
    where
      by : (a.2.best ≡ b.2.best) ⊎ ((Contains b.2.best_of.before a.2.best × Contains a.2.best_of.after b.2.best)
          ⊎ (Contains a.2.best_of.before b.2.best × Contains b.2.best_of.after a.2.best)) → a.2.best ≡ b.2.best
      by (inl same) = same
      by (inr (inl h)) = absurd (not_before a b h.0 h.1)
      by (inr (inr h)) = absurd (not_before b a h.0 h.1)

  -- so the best of all has one answer
  pub one_best : (chosen : ℕ) (placements : List RpPlacement) → IsBestPacking bins boxes exclusions heuristics chosen placements
      → (other : ℕ) (others : List RpPlacement) → IsBestPacking bins boxes exclusions heuristics other others → (others ≡ placements) × (other ≡ chosen)
  one_best chosen placements a other others b =
      let same : a.best ≡ b.best = same_best (chosen, placements, a) (other, others, b) in (
        one_packing bins boxes exclusions b.best placements others (subst (λ h. IsDonePacking bins boxes exclusions h placements) same a.packing) b.packing,
        b.number ∙ ap heuristic_number (sym same) ∙ sym a.number,
      )

  -- and is not refused by another call
  pub never_best : (chosen : ℕ) (placements : List RpPlacement) → IsBestPacking bins boxes exclusions heuristics chosen placements
      → All (IsRefusedPacking bins boxes exclusions) heuristics → ⊥
  never_best chosen placements a refused =
      let listed : Contains heuristics a.best = rw a.best_of.listed
      (Contains-append_right a.best_of.before (a.best ∷ a.best_of.after) a.best (in_first a.best a.best_of.after a.best refl)) in
      never_both bins boxes exclusions a.best placements a.packing
      (All-contains (IsRefusedPacking bins boxes exclusions) heuristics a.best refused listed)

-- a packing with the best of one heuristic is one with that
pub only_one : {X : Type 0} (xs : List X) (x y : X) (ys : List X) → y ∷ [] ≡ xs ++ x ∷ ys → x ≡ y
only_one [] x y ys same = cc
only_one (z ∷ xs) x y ys same = absurd (omega (arith, ap length same, length-append xs (x ∷ ys)))

module _ (bins : List RpBin) (boxes : List RpBox) (exclusions : List RpExclusion) (heuristic : Heuristic) (placements : List RpPlacement) where
  pub one_of_best : (chosen : ℕ) → IsBestPacking bins boxes exclusions (heuristic ∷ []) chosen placements
      → IsDonePacking bins boxes exclusions heuristic placements
  one_of_best chosen b = subst (λ h. IsDonePacking bins boxes exclusions h placements)
      (only_one b.best_of.before b.best heuristic b.best_of.after b.best_of.listed) b.packing
