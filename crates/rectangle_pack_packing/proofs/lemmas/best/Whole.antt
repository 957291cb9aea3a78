-- A packing with a heuristic that has a name has one result, and so it makes one use of the bins. So has what fits.
use Rattle.rectangle_pack_sections.proofs.Std.{◌≡◌, Bool, true, false, cond, List, [], ◌∷◌, refl, sym, ap, ◌∙◌, filter, map, nat_lt, Ordering}
use Rattle.rectangle_pack_sections.proofs.Std.{IsTotalOrder, tied_itself, is_at, keys_of, values_of, fun_ext, All-head, AllZip, Equal, Result, Ok, Err}
use Rattle.rectangle_pack_sections.proofs.Std.{lookup, sum_by, unwrap_or, option_map}
use Rattle.rectangle_pack_sections.specs.declared.box_size_heuristics.named.Heuristic.{Heuristic}
use Rattle.rectangle_pack_sections.specs.Bins.{Bin}
use Rattle.rectangle_pack_sections.specs.Alike.{AreCollectionsAlike}
use Rattle.rectangle_pack_sections.specs.Boxes.{Size, Cuboid, volume_of}
use Rattle.rectangle_pack_sections.specs.Counting.{total_volume}
use Rattle.rectangle_pack_sections.specs.Heuristics.{rate_of, named_answers}
use Rattle.rectangle_pack_lists.specs.Numbers.{saturated}
use Rattle.rectangle_pack_sections.specs.declared.group.Group.{Group}
use Rattle.rectangle_pack_sections.specs.Groups.{Collection}
use Rattle.rectangle_pack_packing.specs.declared.answer.Placement.{Placement}
use Rattle.rectangle_pack_packing.specs.declared.answer.RectanglePackOk.{RectanglePackOk}
use Rattle.rectangle_pack_packing.specs.declared.answer.RectanglePackError.{RectanglePackError}
use Rattle.rectangle_pack_packing.specs.declared.answer.RectanglePackError.TheVariants.{NotEnoughBinSpace, OutOfMemory}
use Rattle.rectangle_pack_packing.specs.declared.uses.Use.{Use}
use Rattle.rectangle_pack_packing.specs.Best.{use_by, use_of, named_rules, PacksWith, IsRefusedWith, IsBestOf, IsBestAnswer}
use Rattle.rectangle_pack_packing.specs.declared.uses.FitUse.{FitUse}
use Rattle.rectangle_pack_packing.specs.Fitting.{PackingFits, FitsWith, cells_in_groups, fit_use_of}
use Rattle.rectangle_pack_packing.specs.KeptBins.{locations_in}
use Rattle.rectangle_pack_packing.specs.Packing.{PackingDone}
use Rattle.rectangle_pack_packing.specs.PackAnswers.{IsPacked}
use Rattle.rectangle_pack_packing.specs.Placed.{placements_of}
use Rattle.rectangle_pack_packing.specs.Results.{ClosuresDecide, AreBinsAlike, ArePlacementsAlike, HaveOneResult}
use Rattle.rectangle_pack_sections.proofs.lemmas.cuts.SmallestBox.{smallest_is_preorder}
use Rattle.rectangle_pack_sections.proofs.lemmas.util.Maps.{lookup-equal}
use Rattle.rectangle_pack_sections.proofs.lemmas.util.Zips.{AllZip-itself, sums_alike}
use Rattle.rectangle_pack_packing.proofs.lemmas.best.Alone.{best-alone}
use Rattle.rectangle_pack_packing.proofs.lemmas.determinism.OneFitting.{one_fitting}
use Rattle.rectangle_pack_packing.proofs.lemmas.determinism.OnePacking.{one_result}
use Rattle.rectangle_pack_packing.proofs.lemmas.determinism.Preorders.{total_decides}

-- placements that are alike make the same use of the bins
module _ {Id B : Type 0} (cmp : Id → Id → Ordering) {bin_cmp : B → B → Ordering} (o : IsTotalOrder bin_cmp) where
  pub locations_in-alike : (ps qs : List (Placement Id B)) → ArePlacementsAlike cmp bin_cmp ps qs → (id : B) → locations_in bin_cmp ps id ≡ locations_in bin_cmp qs id
  locations_in-alike [] [] h id = refl
  locations_in-alike [] (q ∷ qs) h id = absurd h
  locations_in-alike (p ∷ ps) [] h id = absurd h
  locations_in-alike (p ∷ ps) (q ∷ qs) h id = rw (o.congr p.bin q.bin id h.0.1) (by (locations_in-alike ps qs h.1 id) (is_at (bin_cmp q.bin) id))
    where
      here : List (Placement Id B) → List (Placement Id B)
      here = filter (λ p. is_at (bin_cmp p.bin) id)

      at : List (Placement Id B) → List Cuboid
      at = map (λ p. p.location)

      by : at (here ps) ≡ at (here qs) → (b : Bool) → at (cond b (p ∷ here ps) (here ps)) ≡ at (cond b (q ∷ here qs) (here qs))
      by later true = rw (h.0.2, later) refl
      by later false = later

  pub use_of-alike : (ps qs : List (Placement Id B)) (bins : List (B × Bin)) → ArePlacementsAlike cmp bin_cmp ps qs → use_of bin_cmp ps bins ≡ use_of bin_cmp qs bins
  use_of-alike ps qs bins h =
      ap (λ count. use_by (filter (nat_lt 0) (map count (keys_of bins))))
      (fun_ext (λ id. ap (λ here. saturated (total_volume here)) (locations_in-alike ps qs h id)))

-- what is the same is alike
pub collections-same : {Id G : Type 0} {group_cmp : Group G Id → Group G Id → Ordering} {cmp : Id → Id → Ordering}
    → IsTotalOrder group_cmp → IsTotalOrder cmp → (all : Collection Id G) → AreCollectionsAlike group_cmp cmp all all
collections-same group_total total all = record {
  sizes = AllZip-itself _ (λ e. (tied_itself total e.0, refl)) all.sizes;
  groups = AllZip-itself _ (λ e. (tied_itself group_total e.0, AllZip-itself _ (tied_itself total) e.1)) all.groups;
  excluded = λ a b. refl;
}

pub bins-same : {B : Type 0} {bin_cmp : B → B → Ordering} → IsTotalOrder bin_cmp → (old : List (B × Bin)) → AreBinsAlike bin_cmp old old
bins-same bin_total old = AllZip-itself _ (λ e. (tied_itself bin_total e.0, record { size = refl; sections = refl })) old

-- a heuristic that has a name decides each packing
pub named_decides : (boxes : List Size) (bins : List Bin) (h : Heuristic) → ClosuresDecide boxes bins (named_answers h)
named_decides boxes bins h =
    total_decides boxes bins (named_answers h) (record { rate = rate_of h; only = λ size rate says. says })
    (smallest_is_preorder (λ size rate. rate ≡ rate_of h size) (rate_of h) (λ size rate small says. says) (named_answers h).prefer
    (λ a b r says. (says.0.small, says.1.small)) (λ a b r says. says.2))

module _ {Id B G : Type 0} {group_cmp : Group G Id → Group G Id → Ordering} {cmp : Id → Id → Ordering} {bin_cmp : B → B → Ordering}
    (group_total : IsTotalOrder group_cmp) (total : IsTotalOrder cmp) (bin_total : IsTotalOrder bin_cmp)
    (all : Collection Id G) (old : List (B × Bin)) where
  -- by a heuristic of a name there is one result
  one_by_name : (h : Heuristic) → HaveOneResult group_cmp (named_rules cmp bin_cmp h) (named_rules cmp bin_cmp h) all all old old
  one_by_name h =
      one_result group_cmp (named_rules cmp bin_cmp h) group_total total bin_total all all old old (collections-same group_total total all)
      (bins-same bin_total old) (named_decides (values_of all.sizes) (values_of old) h)

  -- so what is done with it makes one use of the bins
  pub use-same : (h : Heuristic) (made : Use) → PacksWith group_cmp cmp bin_cmp all old h made → (placements : List (Placement Id B)) (new : List (B × Bin))
      → PackingDone group_cmp (named_rules cmp bin_cmp h) all old placements new → made ≡ use_of bin_cmp placements old
  use-same h made done placements new again =
      done.use_is ∙ use_of-alike cmp bin_total done.placements placements old ((one_by_name h).done done.placements placements done.new new done.done again).1

  pub one-use : (h : Heuristic) (made other : Use) → PacksWith group_cmp cmp bin_cmp all old h made → PacksWith group_cmp cmp bin_cmp all old h other
      → made ≡ other
  one-use h made other done again = use-same h made done again.placements again.new again.done ∙ sym again.use_is

  -- groups of equal names have as many cells
  cells-alike : (xs ys : List (Group G Id)) → AllZip (λ x y. group_cmp x y ≡ Equal) xs ys
      → cells_in_groups cmp group_cmp all xs ≡ cells_in_groups cmp group_cmp all ys
  cells-alike xs ys h =
      ap saturated (sums_alike (λ name. sum_by (λ id. unwrap_or (option_map volume_of (lookup (is_at (cmp id)) all.sizes)) 0)
      (unwrap_or (lookup (is_at (group_cmp name)) all.groups) [])) (λ x y. group_cmp x y ≡ Equal)
      (λ x y same. rw (lookup-equal group_total x y same all.groups) refl) xs ys h)

  -- with a heuristic that has a name, what fits of a collection into these bins is compared by one thing
  pub fit_use-same : (h : Heuristic) (made : FitUse) → FitsWith group_cmp cmp bin_cmp all old h made
      → (placements : List (Placement Id B)) (left : List (Group G Id)) (new : List (B × Bin))
      → PackingFits group_cmp (named_rules cmp bin_cmp h) all old placements left new → made ≡ fit_use_of group_cmp cmp bin_cmp all old placements left
  fit_use-same h made fits placements left new again =
      let one = one_fitting group_cmp (named_rules cmp bin_cmp h) group_total total bin_total all all old old
      (collections-same group_total total all) (bins-same bin_total old) (named_decides (values_of all.sizes) (values_of old) h)
      fits.placements placements fits.left left fits.new new fits.fits again in
      fits.use_is ∙ rw (cells-alike fits.left left one.left, use_of-alike cmp bin_total fits.placements placements old one.placements) refl

  pub one-fit-use : (h : Heuristic) (made other : FitUse) → FitsWith group_cmp cmp bin_cmp all old h made → FitsWith group_cmp cmp bin_cmp all old h other
      → made ≡ other
  one-fit-use h made other fits again =
      fit_use-same h made fits again.placements again.left again.new again.fits ∙ sym again.use_is

  -- and is not refused for space
  pub not-refused : (h : Heuristic) (made : Use) → PacksWith group_cmp cmp bin_cmp all old h made → IsRefusedWith group_cmp cmp bin_cmp all old h → ⊥
  not-refused h made done refused =
      (one_by_name h).not_done_and_refused done.placements done.new refused.left done.done refused.refused

  -- so the packing with the best heuristic is the answer, or it ends for want of memory
  pub best-named : {A : Type 0} (heuristics : List Heuristic) (best : Heuristic) (made : Use) → IsBestOf group_cmp cmp bin_cmp all old heuristics best made
      → (answer : Result (Heuristic × RectanglePackOk Id B A) RectanglePackError) (new : List (B × Bin))
      → IsBestAnswer group_cmp cmp bin_cmp all old (best ∷ []) answer new → IsBestAnswer group_cmp cmp bin_cmp all old heuristics answer new
  best-named heuristics best made b (Ok (one, ok)) new (packed, alone) =
      let is = best-alone group_cmp cmp bin_cmp all old best one _ alone in
      let by_best : IsPacked group_cmp (named_rules cmp bin_cmp best) all old ok new = rw is at packed in
      rw is (by_best, rw (← use-same best made b.done (placements_of ok) new by_best.done) b)
  best-named heuristics best made b (Err NotEnoughBinSpace) new (refused, same) =
      absurd (not-refused best made b.done (All-head (IsRefusedWith group_cmp cmp bin_cmp all old) best [] refused))
  best-named heuristics best made b (Err OutOfMemory) new same = same
