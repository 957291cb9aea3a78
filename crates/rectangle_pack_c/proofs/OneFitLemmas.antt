-- What fits into new bins has one result.
use Rattle.rectangle_pack_c.proofs.Std.{◌≡◌, ◌≢◌, ◌⊎◌, inl, inr, ℕ, List, [], ◌∷◌, get_or, refl, ap, sym, ◌∙◌, subst, arith, AllPairs, All-contains}
use Rattle.rectangle_pack_c.proofs.Std.{AllZip, Contains, map, nat_cmp, nat_cmp_is, nat_cmp_total, Equal, exact_unsigned, is_eq, values_of, slice_get-get_or}
use Rattle.std.proofs.Common.{count_by}
use Rattle.rectangle_pack_packing.specs.declared.uses.FitUse.{FitUse}
use Rattle.rectangle_pack_packing.specs.Fitting.{AreTaken, FitsWith, IsBestFit, IsBetterFit, PackingFits, cells_in_groups, fit_use_of, names_left}
use Rattle.rectangle_pack_packing.specs.FittingLaws.{HaveOneFit}
use Rattle.rectangle_pack_packing.proofs.lemmas.determinism.OneFitting.{one_fit}
use Rattle.rectangle_pack_packing.proofs.lemmas.determinism.Preorders.{total_decides}
use Rattle.rectangle_pack_sections.proofs.lemmas.cuts.SmallestBox.{smallest_is_preorder}
use Rattle.rectangle_pack_sections.proofs.lemmas.util.Zips.{AllZip-itself}
use Rattle.rectangle_pack_sections.specs.declared.box_size_heuristics.named.Heuristic.{Heuristic}
use Rattle.rectangle_pack.specs.declared.grouped_rects_to_place.Group.{Group}
use Rattle.rectangle_pack.specs.declared.pack.Placement.{Placement}
use Rattle.rectangle_pack.specs.declared.session.command.Outstanding.{Outstanding}
use Rattle.rectangle_pack.specs.Best.{named_rules}
use Rattle.rectangle_pack.specs.Bins.{Bin}
use Rattle.rectangle_pack.specs.Groups.{Collection}
use Rattle.rectangle_pack.specs.Heuristics.{rate_of, named_answers}
use Rattle.rectangle_pack.specs.Packing.{Rules, at_start}
use Rattle.rectangle_pack.specs.Results.{AreSameBins}
use Rattle.rectangle_pack.specs.Session.{numbered}
use Rattle.rectangle_pack.specs.SessionFitting.{IsFittingKept}
use Rattle.rectangle_pack_c.specs.declared.RpBin.{RpBin}
use Rattle.rectangle_pack_c.specs.declared.RpBox.{RpBox}
use Rattle.rectangle_pack_c.specs.declared.RpPlacement.{RpPlacement}
use Rattle.rectangle_pack_c.specs.declared.collection.RpExclusion.{RpExclusion}
use Rattle.rectangle_pack_c.specs.declared.fitting.RpFitted.{RpFitted}
use Rattle.rectangle_pack_c.specs.Answers.{Stands, box_at}
use Rattle.rectangle_pack_c.specs.Arguments.{new_bins}
use Rattle.rectangle_pack_c.specs.Collections.{IsCollected, group_of, group_order}
use Rattle.rectangle_pack_c.specs.Fitting.{FitsNewBins, IsPlaced, left_placement, says_left, session_with}
use Rattle.rectangle_pack_c.specs.Heuristics.{asked, heuristic_number}
use Rattle.rectangle_pack_c.specs.Sessions.{record_of}
use Rattle.rectangle_pack_c.proofs.AnswerLemmas.{same_lists, two_places}
use Rattle.rectangle_pack_c.proofs.CollectedLemmas.{collected_alike, same_excludes, same_groups}
use Rattle.rectangle_pack_c.proofs.FittedLemmas.{fit_once, fit_records_are, kept_fitting}
use Rattle.rectangle_pack_c.proofs.OrderLemmas.{exact_group, group_order_total}
use Rattle.rectangle_pack_c.proofs.PlacedLemmas.{no_box, pair_of}

-- what fits of a collection fits of another of the same boxes
fits_again : (rules : Rules ℕ ℕ) (boxes : List RpBox) (exclusions : List RpExclusion) (all other : Collection ℕ ℕ)
    → IsCollected boxes exclusions all → IsCollected boxes exclusions other
    → (old new : List (ℕ × Bin)) (placements : List (Placement ℕ ℕ)) (left : List (Group ℕ ℕ)) → PackingFits group_order rules all old placements left new
    → PackingFits group_order rules other old placements left new
fits_again rules boxes exclusions all other h g old new placements left fits = record {
  group_order = fits.group_order;
  bin_order = fits.bin_order;
  groups = fits.groups;
  by_groups = rw (← sizes, ← groups) fits.by_groups;
  by_bins = fits.by_bins;
  listed = rw (← sizes, ← groups) fits.listed;
  homes = fits.homes;
  tests = fits.tests;
  taken = subst (λ excludes. AreTaken rules excludes (map (λ o. o.1) fits.bin_order) fits.groups (at_start old) placements left
      (record { bins = new; homes = fits.homes }) fits.tests) (same_excludes rules.bin_cmp boxes exclusions all other h g) fits.taken;
}
  where
    sizes : all.sizes ≡ other.sizes
    sizes = h.sizes ∙ sym g.sizes

    groups : all.groups ≡ other.groups
    groups = same_groups boxes exclusions all other h g

-- lists that are alike are the same
same_names : (xs ys : List (Group ℕ ℕ)) → AllZip (λ x y. group_order x y ≡ Equal) xs ys → xs ≡ ys
same_names [] [] h = refl
same_names [] (y ∷ ys) h = absurd h
same_names (x ∷ xs) [] h = absurd h
same_names (x ∷ xs) (y ∷ ys) h = ap (λ z. z ∷ xs) (exact_group x y (ap is_eq h.0)) ∙ ap (λ zs. y ∷ zs) (same_names xs ys h.1)

same_placements : (ps qs : List (Placement ℕ ℕ)) → AllZip (λ p q. (nat_cmp p.id q.id ≡ Equal) × (nat_cmp p.bin q.bin ≡ Equal) × (p.location ≡ q.location)) ps qs → ps ≡ qs
same_placements [] [] h = refl
same_placements [] (q ∷ qs) h = absurd h
same_placements (p ∷ ps) [] h = absurd h
same_placements (p ∷ ps) (q ∷ qs) h =
    let first : p ≡ q =
    ap (λ i. record { id = i; bin = p.bin; location = p.location }) (exact_unsigned p.id q.id h.0.0)
    ∙ ap (λ b. record { id = q.id; bin = b; location = p.location }) (exact_unsigned p.bin q.bin h.0.1)
    ∙ ap (λ l. record { id = q.id; bin = q.bin; location = l }) h.0.2 in
    ap (λ r. r ∷ ps) first ∙ ap (λ rs. q ∷ rs) (same_placements ps qs h.1)

-- the corner of a box, and its bin, are all of a placement
same_place : (b : RpBox) (p q : RpPlacement) → p.bin ≡ q.bin → box_at b p ≡ box_at b q → p ≡ q
same_place b p q bin at =
    let x : p.x ≡ q.x = ap (λ c. c.x) at in
    let y : p.y ≡ q.y = ap (λ c. c.y) at in
    let z : p.z ≡ q.z = ap (λ c. c.z) at in
    ap (λ n. record { bin = n; x = p.x; y = p.y; z = p.z }) bin
    ∙ ap (λ n. record { bin = q.bin; x = n; y = p.y; z = p.z }) x
    ∙ ap (λ n. record { bin = q.bin; x = q.x; y = n; z = p.z }) y
    ∙ ap (λ n. record { bin = q.bin; x = q.x; y = q.y; z = n }) z

-- records of one id are one
same_record : (rs : List (Outstanding ℕ ℕ)) → AllPairs (λ r s. r.id ≢ s.id) rs → (r s : Outstanding ℕ ℕ) → Contains rs r → Contains rs s → r.id ≡ s.id → r ≡ s
same_record rs once r s in_r in_s same = by (pair_of (λ (r s : Outstanding ℕ ℕ). r.id ≢ s.id) rs once r s in_r in_s)
  where
    by : (r ≡ s) ⊎ ((r.id ≢ s.id) ⊎ (s.id ≢ r.id)) → r ≡ s
    by (inl is) = is
    by (inr (inl differ)) = absurd (differ same)
    by (inr (inr differ)) = absurd (differ (sym same))

module _ (heuristic : ℕ) (bins : List RpBin) (boxes : List RpBox) (exclusions : List RpExclusion) where
  abbrev Fit : Type 0
  Fit = (fitted : RpFitted) × (placements : List RpPlacement) × FitsNewBins heuristic bins boxes exclusions placements fitted

  abbrev names : Fit → List (Group ℕ ℕ)
  names f = names_left f.2.fits.fitted.left

  abbrev kept : (f : Fit) → IsFittingKept group_order (named_rules nat_cmp nat_cmp f.2.fits.best) f.2.fits.all (session_with bins)
      f.2.fits.fitted.packed (names f) f.2.after
  kept f = f.2.fits.packed.1

  abbrev made_by : Fit → FitUse
  made_by f = fit_use_of group_order nat_cmp nat_cmp f.2.fits.all (new_bins bins) (kept f).placements (names f)

  abbrev best_of : (f : Fit) → IsBestFit group_order nat_cmp nat_cmp f.2.fits.all (new_bins bins) (asked heuristic) f.2.fits.best (made_by f)
  best_of f = f.2.fits.packed.2

  -- as many cells are left of the one collection as of the other
  abbrev cells_of : (all : Collection ℕ ℕ) → List (Group ℕ ℕ) → ℕ
  cells_of all left = cells_in_groups nat_cmp group_order all left

  same_cells : (all other : Collection ℕ ℕ) → IsCollected boxes exclusions all → IsCollected boxes exclusions other → (left : List (Group ℕ ℕ))
      → cells_of all left ≡ cells_of other left
  same_cells all other h g left =
      ap (λ ss. cells_of (record { sizes = ss; groups = all.groups; partners = other.partners }) left) (h.sizes ∙ sym g.sizes)
      ∙ ap (λ gs. cells_of (record { sizes = other.sizes; groups = gs; partners = other.partners }) left) (same_groups boxes exclusions all other h g)

  -- what fits of the one fits of the other's collection too
  with_other : (a b : Fit) → FitsWith group_order nat_cmp nat_cmp a.2.fits.all (new_bins bins) b.2.fits.best (made_by b)
  with_other a b = record {
    placements = (kept b).placements;
    left = names b;
    new = b.2.after.bins;
    fits = fits_again (named_rules nat_cmp nat_cmp b.2.fits.best) boxes exclusions b.2.fits.all a.2.fits.all b.2.fits.collected a.2.fits.collected
        (new_bins bins) b.2.after.bins (kept b).placements (names b) (kept b).fits;
    use_is = ap (λ (n : ℕ). record { left = n; made = (made_by b).made })
        (same_cells b.2.fits.all a.2.fits.all b.2.fits.collected a.2.fits.collected (names b));
  }

  -- so none of two that are the best is before the other
  not_before : (a b : Fit) → Contains (best_of b).before a.2.fits.best → Contains (best_of a).after b.2.fits.best → ⊥
  not_before a b before after =
      let b_better : IsBetterFit (made_by b) (made_by a) = All-contains
      (λ h. (other : FitUse) → FitsWith group_order nat_cmp nat_cmp b.2.fits.all (new_bins bins) h other → IsBetterFit (made_by b) other)
      (best_of b).before a.2.fits.best (best_of b).worse before (made_by a) (with_other b a) in
      All-contains (λ h. (other : FitUse) → FitsWith group_order nat_cmp nat_cmp a.2.fits.all (new_bins bins) h other → ¬ IsBetterFit other (made_by a))
      (best_of a).after b.2.fits.best (best_of a).no_better after (made_by b) (with_other a b) b_better

  same_best : (a b : Fit) → a.2.fits.best ≡ b.2.fits.best
  same_best a b = by (two_places (best_of a).before a.2.fits.best (best_of a).after (best_of b).before b.2.fits.best (best_of b).after
      (sym (best_of a).listed ∙ (best_of b).listed))
    where
      by : (a.2.fits.best ≡ b.2.fits.best) ⊎ ((Contains (best_of b).before a.2.fits.best × Contains (best_of a).after b.2.fits.best)
          ⊎ (Contains (best_of a).before b.2.fits.best × Contains (best_of b).after a.2.fits.best)) → a.2.fits.best ≡ b.2.fits.best
      by (inl same) = same
      by (inr (inl h)) = absurd (not_before a b h.0 h.1)
      by (inr (inr h)) = absurd (not_before b a h.0 h.1)

  -- what fits of equal collections with one heuristic is one
  one_result : (h : Heuristic) (all other : Collection ℕ ℕ) → IsCollected boxes exclusions all → IsCollected boxes exclusions other
      → HaveOneFit group_order (named_rules nat_cmp nat_cmp h) all other (new_bins bins) (new_bins bins)
  one_result h all other one two =
      one_fit group_order (named_rules nat_cmp nat_cmp h) group_order_total nat_cmp_total nat_cmp_total all other (new_bins bins) (new_bins bins)
      (collected_alike boxes exclusions all other one two)
      (AllZip-itself (λ x y. (nat_cmp x.0 y.0 ≡ Equal) × AreSameBins x.1 y.1)
      (λ x. (sym (nat_cmp_is x.0 x.0 Equal refl), record { size = refl; sections = refl })) (new_bins bins))
      (total_decides (values_of all.sizes) (values_of (new_bins bins)) (named_answers h) (record { rate = rate_of h; only = λ size rate says. says })
      (smallest_is_preorder (λ size rate. rate ≡ rate_of h size) (rate_of h) (λ size rate small says. says) (named_answers h).prefer
      (λ a b r says. (says.0.small, says.1.small)) (λ a b r says. says.2)))

  module _ (a b : Fit) where
    both : (names a ≡ names b) × ((kept a).placements ≡ (kept b).placements)
    both =
        let here : PackingFits group_order (named_rules nat_cmp nat_cmp b.2.fits.best) a.2.fits.all (new_bins bins) (kept a).placements (names a) a.2.after.bins =
        subst (λ h. PackingFits group_order (named_rules nat_cmp nat_cmp h) a.2.fits.all (new_bins bins) (kept a).placements (names a) a.2.after.bins)
        (same_best a b) (kept a).fits in
        let one = (one_result b.2.fits.best a.2.fits.all b.2.fits.all a.2.fits.collected b.2.fits.collected).alike (kept a).placements (kept b).placements
        (names a) (names b) a.2.after.bins b.2.after.bins here (kept b).fits in
        (same_names (names a) (names b) one.2, same_placements (kept a).placements (kept b).placements one.1)

    -- the two sessions have the same records
    records : b.2.after.outstanding ≡ a.2.after.outstanding
    records = (kept b).outstanding ∙ ap (numbered 0) (sym both.1) ∙ sym (kept a).outstanding

    once : AllPairs (λ r s. r.id ≢ s.id) a.2.after.outstanding
    once =
        let f = a.2.fits in
        let made = kept_fitting f.best f.all (names a) (session_with bins) a.2.after f.promised in
        rw (fit_records_are boxes exclusions f.all f.collected (names a) (session_with bins) a.2.after made)
        (fit_once boxes exclusions f.all f.collected (names a) (session_with bins) a.2.after made)

    same_at : (i : ℕ) (c : RpBox) (p q : RpPlacement) → Stands boxes a.1 i c p → Stands boxes b.1 i c q → p ≡ q
    same_at i c p q s t = by (a.2.each i c p s) (b.2.each i c q t)
      where
        by : IsPlaced (names a) a.2.after i c p ⊎ (Contains (names a) (group_of i c) × (p ≡ left_placement))
            → IsPlaced (names b) b.2.after i c q ⊎ (Contains (names b) (group_of i c) × (q ≡ left_placement)) → p ≡ q
        by (inl f) (inl g) =
            let r = record_of i c (record { number = f.number; placement = p }) in
            let v = record_of i c (record { number = g.number; placement = q }) in
            let is : r ≡ v = same_record a.2.after.outstanding once r v f.outstanding
            (subst (λ (os : List (Outstanding ℕ ℕ)). Contains os v) records g.outstanding) refl in
            same_place c p q (ap (λ (o : Outstanding ℕ ℕ). o.bin) is) (ap (λ (o : Outstanding ℕ ℕ). o.location) is)
        by (inl f) (inr l) = absurd (f.taken (subst (λ (ks : List (Group ℕ ℕ)). Contains ks (group_of i c)) (sym both.0) l.0))
        by (inr l) (inl g) = absurd (g.taken (subst (λ (ks : List (Group ℕ ℕ)). Contains ks (group_of i c)) both.0 l.0))
        by (inr l) (inr m) = l.1 ∙ sym m.1

    same_lists_of : b.1 ≡ a.1
    same_lists_of = same_lists b.1 a.1 (b.2.as_many ∙ sym a.2.as_many) (λ i d low.
        let c = get_or boxes i no_box in
        let here = slice_get-get_or boxes i no_box (omega (arith, low, b.2.as_many)) in
        sym (same_at i c (get_or a.1 i d) (get_or b.1 i d)
        (record { box = here; at = slice_get-get_or a.1 i d (omega (arith, low, a.2.as_many, b.2.as_many)) })
        (record { box = here; at = slice_get-get_or b.1 i d low })))

    same_fitted : b.0 ≡ a.0
    same_fitted =
        let heuristics : b.0.heuristic ≡ a.0.heuristic = b.2.fits.number ∙ ap heuristic_number (sym (same_best a b)) ∙ sym a.2.fits.number in
        let lefts : b.0.left ≡ a.0.left = b.2.counted ∙ ap (count_by says_left) same_lists_of ∙ sym a.2.counted in
        ap (λ n. record { heuristic = n; left = b.0.left }) heuristics ∙ ap (λ n. record { heuristic = a.0.heuristic; left = n }) lefts

  -- so equal calls have one answer
  pub one_answer : (placements : List RpPlacement) (fitted : RpFitted) → FitsNewBins heuristic bins boxes exclusions placements fitted
      → (other : RpFitted) (others : List RpPlacement) → FitsNewBins heuristic bins boxes exclusions others other → (others ≡ placements) × (other ≡ fitted)
  one_answer placements fitted f other others g =
      let a : Fit = (fitted, placements, f) in
      let b : Fit = (other, others, g) in
      (same_lists_of a b, same_fitted a b)
