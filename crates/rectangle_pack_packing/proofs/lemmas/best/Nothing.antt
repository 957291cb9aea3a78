-- Without groups no bin is used and nothing is left, so the first heuristic of a list is the best.
use Rattle.std.specs.Result.{IsOk}
use Rattle.rectangle_pack_sections.proofs.Std.{◌≡◌, ℕ, ◌<◌, ◌⊎◌, List, [], ◌∷◌, length, get_or, refl, sym, ap, subst, ◌∙◌, arith, filter, map, nat_lt, sum, values_of}
use Rattle.rectangle_pack_sections.proofs.Std.{inl, inr, sum_by, sum_by-cons, keys_of, All, All-nil, All-cons, Ordering, Result, Ok, Err}
use Rattle.rectangle_pack_sections.specs.declared.box_size_heuristics.named.Heuristic.{Heuristic}
use Rattle.rectangle_pack_sections.specs.Bins.{Bin}
use Rattle.rectangle_pack_sections.specs.declared.group.Group.{Group}
use Rattle.rectangle_pack_sections.specs.Groups.{Collection, entries_of}
use Rattle.rectangle_pack_packing.specs.declared.answer.Placement.{Placement}
use Rattle.rectangle_pack_packing.specs.declared.answer.RectanglePackOk.{RectanglePackOk}
use Rattle.rectangle_pack_packing.specs.declared.answer.RectanglePackError.{RectanglePackError}
use Rattle.rectangle_pack_packing.specs.declared.uses.Use.{Use}
use Rattle.rectangle_pack_lists.specs.Numbers.{saturated}
use Rattle.rectangle_pack_packing.specs.declared.uses.FitUse.{FitUse}
use Rattle.rectangle_pack_packing.specs.Best.{use_by, use_of, named_rules, cells_placed_in, IsBestBy, IsBetterUse, PacksWith, IsBestOf, IsBestAnswer}
use Rattle.rectangle_pack_packing.specs.Fitting.{IsBetterFit, FitsWith, cells_in_group, fit_use_of}
use Rattle.rectangle_pack_packing.specs.Packing.{excludes_by}
use Rattle.rectangle_pack_packing.specs.private.Choices.{IsBestChoice}
use Rattle.rectangle_pack_packing.specs.private.Orders.{entries_at}
use Rattle.rectangle_pack_packing.proofs.lemmas.packing.Groups.{AreGroups-length, AreTaken-length}
use Rattle.rectangle_pack_packing.specs.Placed.{placements_of}
use Rattle.rectangle_pack_packing.proofs.lemmas.best.Alone.{alone-listed, best-alone}

-- the use of no bins
abbrev nothing : Use
nothing = use_by []

-- is as good as any other
none-better : (other : Use) → ¬ IsBetterUse other nothing
none-better other (inl less) = absurd (omega (arith, less))
none-better other (inr (same, less)) = absurd (omega (arith, less))

module _ (Id : Type 0) {B : Type 0} (bin_cmp : B → B → Ordering) where
  -- without placements no bin gets cells
  uncounted : (ids : List B) → filter (nat_lt 0) (map (cells_placed_in {Id = Id} bin_cmp []) ids) ≡ []
  uncounted [] = refl
  uncounted (id ∷ ids) = uncounted ids

  -- and so make this use
  unused : (placements : List (Placement Id B)) (bins : List (B × Bin)) → length placements ≡ 0 → use_of bin_cmp placements bins ≡ nothing
  unused [] bins none = ap use_by (uncounted (keys_of bins))
  unused (p ∷ ps) bins none = absurd (omega (arith, none))

-- what is made with the first heuristic of a list is the best, where nothing is better
first-best : {M : Type 0} (Makes : Heuristic → M → Type 0) (IsBetter : M → M → Type 0) (h : Heuristic) (rest : List Heuristic) (best : Heuristic) (made : M)
    → ((other : M) → ¬ IsBetter other made) → best ≡ h → Makes best made → IsBestBy Makes IsBetter (h ∷ rest) best made
first-best {M} Makes IsBetter h rest best made none is done = record {
  done = done;
  before = [];
  after = rest;
  listed = ap (λ x. x ∷ rest) (sym is);
  worse = All-nil _;
  no_better = each rest;
}
  where
    NoBetter : Heuristic → Type 0
    NoBetter g = (other : M) → Makes g other → ¬ IsBetter other made

    each : (hs : List Heuristic) → All NoBetter hs
    each [] = All-nil NoBetter
    each (g ∷ gs) = All-cons NoBetter g gs (λ other makes. none other) (each gs)

-- what counts nothing in each element adds up to nothing
adds-none : {X : Type 0} (f : X → ℕ) → ((x : X) → f x ≡ 0) → (xs : List X) → sum_by f xs ≡ 0
adds-none f none [] = refl
adds-none f none (x ∷ xs) = omega (arith, none x, adds-none f none xs, sum_by-cons f x xs)

module _ {Id B G : Type 0} (group_cmp : Group G Id → Group G Id → Ordering) (cmp : Id → Id → Ordering) (bin_cmp : B → B → Ordering)
    (all : Collection Id G) (old : List (B × Bin)) where
  -- where a packing places one box for each entry, of which there are none
  pub first-listed : all.groups ≡ [] → (d : Heuristic) (heuristics : List Heuristic) → 0 < length heuristics → (best : Heuristic)
      (placements : List (Placement Id B)) → length placements ≡ entries_of all
      → IsBestOf group_cmp cmp bin_cmp all old (get_or heuristics 0 d ∷ []) best (use_of bin_cmp placements old)
      → IsBestOf group_cmp cmp bin_cmp all old heuristics best (use_of bin_cmp placements old)
  first-listed none d [] some best placements counted alone = absurd (omega (arith, some))
  first-listed none d (h ∷ rest) some best placements counted alone =
      let empty = counted ∙ ap (λ groups. sum (map length (values_of groups))) none in
      first-best (PacksWith group_cmp cmp bin_cmp all old) IsBetterUse h rest best (use_of bin_cmp placements old)
      (subst (λ by. (other : Use) → ¬ IsBetterUse other by) (sym (unused Id bin_cmp placements old empty)) none-better)
      (best-alone group_cmp cmp bin_cmp all old h best _ alone) alone.done

  -- so where a list has one heuristic, or there are no groups, what is answered to the first is answered to the list
  pub first-answered : {A : Type 0} (heuristics : List Heuristic) (d : Heuristic) → 0 < length heuristics → (length heuristics ≡ 1) ⊎ (all.groups ≡ [])
      → (answer : Result (Heuristic × RectanglePackOk Id B A) RectanglePackError) (new : List (B × Bin)) → (all.groups ≡ [] → IsOk answer)
      → IsBestAnswer group_cmp cmp bin_cmp all old (get_or heuristics 0 d ∷ []) answer new → IsBestAnswer group_cmp cmp bin_cmp all old heuristics answer new
  first-answered heuristics d some (inl one) answer new done h = alone-listed group_cmp cmp bin_cmp all old heuristics d one answer new h
  first-answered heuristics d some (inr none) (Ok (best, ok)) new done (packed, alone) =
      (packed, first-listed none d heuristics some best (placements_of ok) packed.counted alone)
  first-answered heuristics d some (inr none) (Err error) new done h = absurd (let is = done none in cc)

  -- where nothing is left, and no bin is used, nothing is better
  none-fits-better : (made other : FitUse) → made.left ≡ 0 → made.made ≡ nothing → ¬ IsBetterFit other made
  none-fits-better made other none unused (inl less) = absurd (omega (arith, less, none))
  none-fits-better made other none unused (inr (same, better)) = none-better other.made (rw unused at better)

  -- so it is with what fits without groups
  pub choice-nothing : all.groups ≡ [] → (heuristics : List Heuristic) (d : Heuristic) → 0 < length heuristics
      → IsBestChoice group_cmp cmp bin_cmp all old heuristics (get_or heuristics 0 d)
  choice-nothing none [] d some placements left new fits = absurd (omega (arith, some))
  choice-nothing none (h ∷ rest) d some placements left new fits =
      let rules = named_rules cmp bin_cmp h in
      let entries = adds-none (entries_at group_cmp all.groups) (λ o. rw none refl) fits.group_order in
      let most = AreTaken-length rules (excludes_by group_cmp bin_cmp all.partners) _ fits.groups _ _ placements left fits.tests fits.taken in
      let empty : length placements ≡ 0 =
      omega (arith, entries, most, AreGroups-length cmp group_cmp all.sizes all.groups fits.group_order fits.groups fits.listed) in
      let made = fit_use_of group_cmp cmp bin_cmp all old placements left in
      first-best (FitsWith group_cmp cmp bin_cmp all old) IsBetterFit h rest h made
      (λ other. none-fits-better made other (ap saturated (adds-none (cells_in_group cmp group_cmp all) (λ name. rw none refl) left))
      (unused Id bin_cmp placements old empty)) refl
      (record { placements = placements; left = left; new = new; fits = fits; use_is = refl })
