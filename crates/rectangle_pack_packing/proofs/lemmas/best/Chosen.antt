-- Which heuristic is chosen, where what fits is packed with the best of a list.
use Rattle.rectangle_pack_sections.proofs.Std.{◌≡◌, ℕ, List, [], ◌∷◌, length, get_or, refl, sym, subst, All-nil, Ordering, IsTotalOrder}
use Rattle.rectangle_pack_sections.specs.declared.box_size_heuristics.named.Heuristic.{Heuristic}
use Rattle.rectangle_pack_sections.specs.Bins.{Bin}
use Rattle.rectangle_pack_sections.specs.declared.group.Group.{Group}
use Rattle.rectangle_pack_sections.specs.Groups.{Collection}
use Rattle.rectangle_pack_packing.specs.declared.uses.FitUse.{FitUse}
use Rattle.rectangle_pack_packing.specs.Fitting.{IsBestFit, fit_use_of}
use Rattle.rectangle_pack_packing.specs.private.Choices.{IsBestChoice}
use Rattle.rectangle_pack_packing.proofs.lemmas.best.Alone.{one-entry}
use Rattle.rectangle_pack_packing.proofs.lemmas.best.Whole.{fit_use-same}

module _ {Id B G : Type 0} {group_cmp : Group G Id → Group G Id → Ordering} {cmp : Id → Id → Ordering} {bin_cmp : B → B → Ordering}
    (group_total : IsTotalOrder group_cmp) (total : IsTotalOrder cmp) (bin_total : IsTotalOrder bin_cmp)
    (all : Collection Id G) (old : List (B × Bin)) where
  -- the one heuristic of a list
  pub choice-alone : (heuristics : List Heuristic) (d : Heuristic) → length heuristics ≡ 1
      → IsBestChoice group_cmp cmp bin_cmp all old heuristics (get_or heuristics 0 d)
  choice-alone heuristics d one placements left new fits =
      let made = fit_use_of group_cmp cmp bin_cmp all old placements left in
      subst (λ hs. IsBestFit group_cmp cmp bin_cmp all old hs (get_or heuristics 0 d) made) (sym (one-entry heuristics d one)) (record {
        done = record { placements = placements; left = left; new = new; fits = fits; use_is = refl };
        before = [];
        after = [];
        listed = refl;
        worse = All-nil _;
        no_better = All-nil _;
      })

  -- and the best of those that were tried
  pub choice-found : (heuristics : List Heuristic) (best : Heuristic) (made : FitUse) → IsBestFit group_cmp cmp bin_cmp all old heuristics best made
      → IsBestChoice group_cmp cmp bin_cmp all old heuristics best
  choice-found heuristics best made b placements left new fits =
      subst (IsBestFit group_cmp cmp bin_cmp all old heuristics best)
      (fit_use-same group_total total bin_total all old best made b.done placements left new fits) b
