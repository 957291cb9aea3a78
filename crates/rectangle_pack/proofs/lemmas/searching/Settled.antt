-- What is kept of a search.
use Rattle.rectangle_pack_sections.proofs.Std.{◌≡◌, ℕ, Bool, List, ap, ◌∙◌, map, reverse, Some, Ok, Err, Ordering, IsTotalOrder, IsDistinct, eq_by_cmp, keys_of, IsPermutation-sym, IsPermutation-trans}
use Rattle.rectangle_pack_sections.specs.declared.box_size_heuristics.named.Heuristic.{Heuristic}
use Rattle.rectangle_pack_sections.specs.declared.group.Group.{Group}
use Rattle.rectangle_pack_sections.specs.Bins.{Bin}
use Rattle.rectangle_pack_sections.specs.Groups.{Collection}
use Rattle.rectangle_pack_bounds.specs.declared.turning.Turns.{Turns}
use Rattle.rectangle_pack_packing.specs.declared.answer.Placement.{Placement}
use Rattle.rectangle_pack_packing.specs.declared.pack.told.Step.{Step}
use Rattle.rectangle_pack_packing.specs.declared.pack.told.ToldError.{ToldError}
use Rattle.rectangle_pack_packing.specs.declared.pack.told.ToldError.TheVariants.{StepRefused, NumbersUsedUp, OutOfMemory}
use Rattle.rectangle_pack_packing.specs.Best.{named_rules, use_of}
use Rattle.rectangle_pack_packing.specs.Fitting.{PackingFits, names_left}
use Rattle.rectangle_pack_packing.specs.Placed.{placements_of}
use Rattle.rectangle_pack_packing.specs.Results.{ArePlacementsAlike}
use Rattle.rectangle_pack_packing.specs.Told.{in_sizes}
use Rattle.rectangle_pack_packing.specs.ToldLaws.{step_to}
use Rattle.rectangle_pack_packing.specs.private.ToldOnItsWay.{IsTold}
use Rattle.rectangle_pack_packing.proofs.lemmas.best.OneTelling.{one_telling}
use Rattle.rectangle_pack_packing.proofs.lemmas.best.Whole.{use_of-alike}
use Rattle.rectangle_pack_packing.proofs.lemmas.packing.FittingLaws.{fittings_place_whole}
use Rattle.rectangle_pack_packing.proofs.lemmas.packing.ToldLaws.{fittings_can_be_told}
use Rattle.rectangle_pack.specs.declared.searching.outlay.Outlay.{Outlay}
use Rattle.rectangle_pack.specs.declared.searching.settling.Rehearsed.{Rehearsed}
use Rattle.rectangle_pack.specs.declared.searching.settling.Settled.{Settled}
use Rattle.rectangle_pack.specs.Needed.{bins_filled}
use Rattle.rectangle_pack.specs.Searched.{GuessesWith, IsFound, IsNoWorseThanGuesses, cost_made, outlay_of}
use Rattle.rectangle_pack.specs.private.Searched.{AreSettled, IsRehearsed, IsToldAgain}
use Rattle.rectangle_pack.proofs.lemmas.bound.Arranged.{own_sizes}
use Rattle.rectangle_pack.proofs.lemmas.bound.Entries.{names-ordered}
use Rattle.rectangle_pack.proofs.lemmas.searching.Guesses.{left-same, outlay-same}
use Rattle.rectangle_pack.proofs.lemmas.searching.NotNamed.{homes_named}
use Rattle.rectangle_pack.proofs.lemmas.searching.Outlays.{cost_made-alike, filled-alike}

module _ {Id B G : Type 0} {group_cmp : Group G Id → Group G Id → Ordering} {cmp : Id → Id → Ordering} {bin_cmp : B → B → Ordering}
    (group_total : IsTotalOrder group_cmp) (total : IsTotalOrder cmp) (bin_total : IsTotalOrder bin_cmp)
    (all : Collection Id G) (turns : List (Id × Turns)) (may_leave : Bool) (costs : List (B × ℕ)) (old : List (B × Bin)) where
  abbrev NoWorse : Outlay → Type 0
  NoWorse = IsNoWorseThanGuesses group_cmp cmp bin_cmp all may_leave costs old

  abbrev outlay : List (Placement Id B) → List (Group G Id) → Outlay
  outlay = outlay_of group_cmp cmp bin_cmp all costs old

  -- placements that are alike have one outlay
  outlay-alike : (ps qs : List (Placement Id B)) (left : List (Group G Id)) → ArePlacementsAlike cmp bin_cmp ps qs → outlay ps left ≡ outlay qs left
  outlay-alike ps qs left alike =
      let uses : use_of bin_cmp ps old ≡ use_of bin_cmp qs old = use_of-alike cmp bin_total ps qs old alike in
      let paid : cost_made bin_cmp costs ps old ≡ cost_made bin_cmp costs qs old = cost_made-alike cmp bin_total costs ps qs old alike in
      let filled : bins_filled bin_cmp ps ≡ bins_filled bin_cmp qs = filled-alike cmp bin_total ps qs alike in
      cc

  -- what was rehearsed is no worse than any guess, and is told again
  pub told-settled : {A : Type 0} (E : Type 0) (it : Rehearsed Id G B A)
      → IsRehearsed group_cmp cmp bin_cmp all may_leave turns costs it.proposal.sizes.entries it.proposal.steps.items old (names_left it.left) it.outlay
      → NoWorse it.outlay → (settled : Settled Id G B A) (new : List (B × Bin))
      → IsToldAgain group_cmp cmp bin_cmp all {A = A} {E = E} it old (Ok settled) new
      → AreSettled group_cmp cmp bin_cmp all may_leave turns costs old {A = A} {E = E} (Ok (Some settled)) new
  told-settled E it r best settled new (told, last, left, used) =
      let packed : Collection Id G = in_sizes all it.proposal.sizes.entries in
      let again = (one_telling group_cmp cmp bin_cmp total bin_total packed it.proposal.steps.items old).done r.placements (placements_of settled.packed)
      r.new new r.done told in
      let same : it.outlay ≡ outlay (placements_of settled.packed) (names_left settled.left) =
      r.outlay_is ∙ rw left (outlay-alike r.placements (placements_of settled.packed) (names_left it.left) again.1) in (
        record {
          sizes = it.proposal.sizes.entries;
          ways = r.ways;
          steps = it.proposal.steps.items;
          done = told;
          not_named = rw left r.not_named;
          allowed = rw left r.allowed;
          no_worse = rw same at best;
        },
        last,
        used ∙ ap (λ (o : Outlay). o.used) same,
      )

  -- what fits with the best heuristic was searched for
  pub guess-found : IsDistinct (eq_by_cmp group_cmp) (keys_of all.groups) → (h : Heuristic) (made : Outlay)
      → GuessesWith group_cmp cmp bin_cmp all may_leave costs old h made → NoWorse made
      → (placements : List (Placement Id B)) (left : List (Group G Id)) (new : List (B × Bin))
      → PackingFits group_cmp (named_rules cmp bin_cmp h) all old placements left new
      → IsFound group_cmp cmp bin_cmp all turns may_leave costs old placements left new × (made.used ≡ bins_filled bin_cmp placements)
  guess-found distinct h made guess best placements left new fits =
      let rules = named_rules cmp bin_cmp h in
      let homes : List (Group G Id × B) = reverse fits.homes in
      let names = IsPermutation-trans (keys_of all.groups) (map (λ (o : ℕ × Group G Id). o.1) fits.group_order) _
      (names-ordered group_cmp rules.may.rate cmp all.sizes all.groups fits.group_order fits.by_groups)
      (IsPermutation-sym _ _ ((fittings_place_whole group_cmp rules).all_groups all old new placements left fits)) in
      let same : made ≡ outlay placements left = outlay-same group_total total bin_total all may_leave costs old h made guess placements left new fits in (
        record {
          sizes = all.sizes;
          ways = own_sizes cmp all turns;
          steps = map (step_to h) homes;
          done = fittings_can_be_told group_cmp cmp bin_cmp group_total h all distinct old new placements left fits;
          not_named = homes_named group_total all h homes left distinct names;
          allowed = left-same group_total total bin_total all may_leave costs old h made guess placements left new fits;
          no_worse = rw same at best;
        },
        ap (λ (o : Outlay). o.used) same,
      )

-- where it is not told to its end, the bins are as they were
pub told_failed : {Id B G : Type 0} (A : Type 0) (group_cmp : Group G Id → Group G Id → Ordering) (cmp : Id → Id → Ordering) (bin_cmp : B → B → Ordering)
    (all : Collection Id G) (steps : List (Step Id G B)) (old new : List (B × Bin)) (finds : Bool) (error : ToldError)
    → IsTold group_cmp cmp bin_cmp all {A = A} steps old finds (Err error) new → new ≡ old
told_failed A group_cmp cmp bin_cmp all steps old new finds (StepRefused index fault) told = told.1
told_failed A group_cmp cmp bin_cmp all steps old new finds NumbersUsedUp told = absurd told
told_failed A group_cmp cmp bin_cmp all steps old new finds OutOfMemory told = told
