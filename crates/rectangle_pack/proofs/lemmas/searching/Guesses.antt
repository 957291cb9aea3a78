-- The best of what fits with a heuristic that has a name.
use Rattle.rectangle_pack_sections.proofs.Std.{◌≡◌, ℕ, Bool, false, List, [], ◌∷◌, refl, sym, ap, ◌∙◌, arith, All, All-append, All-cons, All-weaker, AllZip}
use Rattle.rectangle_pack_sections.proofs.Std.{MatchOption, Option, Some, None, Ordering, Equal, IsTotalOrder, values_of}
use Rattle.rectangle_pack_sections.specs.declared.box_size_heuristics.named.Heuristic.{Heuristic}
use Rattle.rectangle_pack_sections.specs.declared.box_size_heuristics.named.Heuristic.TheVariants.{Volume, Height, Width, Depth, SideSum, LongestSide, ShortestSide, SideArea}
use Rattle.rectangle_pack_sections.specs.declared.group.Group.{Group}
use Rattle.rectangle_pack_sections.specs.Bins.{Bin}
use Rattle.rectangle_pack_sections.specs.Groups.{Collection}
use Rattle.rectangle_pack_packing.specs.declared.answer.Placement.{Placement}
use Rattle.rectangle_pack_packing.specs.declared.uses.FitUse.{FitUse}
use Rattle.rectangle_pack_packing.specs.Best.{IsBestBy, named_rules, use_of}
use Rattle.rectangle_pack_packing.specs.Fitting.{PackingFits, cells_in_groups}
use Rattle.rectangle_pack_packing.proofs.lemmas.best.Steps.{AreCompared}
use Rattle.rectangle_pack_packing.proofs.lemmas.best.Whole.{bins-same, collections-same, fit_use-same, named_decides, not-refused}
use Rattle.rectangle_pack_packing.proofs.lemmas.determinism.OneFitting.{AreFitsAlike, one_fitting}
use Rattle.rectangle_pack_packing.proofs.lemmas.packing.FittingLaws.{done_is_none_left, first_is_refused}
use Rattle.rectangle_pack.specs.declared.searching.outlay.Outlay.{Outlay}
use Rattle.rectangle_pack.specs.Needed.{bins_filled}
use Rattle.rectangle_pack.specs.Searched.{GuessesWith, IsBetterOutlay, IsNoWorseThanGuesses, cost_made, outlay_of}
use Rattle.rectangle_pack.specs.private.Searched.{IsBestGuess, IsNoGuess}
use Rattle.rectangle_pack.proofs.lemmas.searching.Outlays.{cost_made-alike, filled-alike, outlays}

-- what holds of the eight heuristics that have a name holds of each
each_heuristic : (P : Heuristic → Type 0)
    → All P (Volume ∷ Height ∷ Width ∷ Depth ∷ SideSum ∷ LongestSide ∷ ShortestSide ∷ SideArea ∷ []) → (h : Heuristic) → P h
each_heuristic P a Volume = a 0 Volume (omega arith)
each_heuristic P a Height = a 1 Volume (omega arith)
each_heuristic P a Width = a 2 Volume (omega arith)
each_heuristic P a Depth = a 3 Volume (omega arith)
each_heuristic P a SideSum = a 4 Volume (omega arith)
each_heuristic P a LongestSide = a 5 Volume (omega arith)
each_heuristic P a ShortestSide = a 6 Volume (omega arith)
each_heuristic P a SideArea = a 7 Volume (omega arith)

-- where one list has nothing, the list that is like it has nothing
pub none-alike : {X : Type 0} (R : X → X → Type 0) (xs ys : List X) → AllZip R xs ys → xs ≡ [] → ys ≡ []
none-alike R [] [] h none = refl
none-alike R [] (y ∷ ys) h none = absurd h
none-alike R (x ∷ xs) ys h none = absurd cc

module _ {Id B G : Type 0} {group_cmp : Group G Id → Group G Id → Ordering} {cmp : Id → Id → Ordering} {bin_cmp : B → B → Ordering}
    (group_total : IsTotalOrder group_cmp) (total : IsTotalOrder cmp) (bin_total : IsTotalOrder bin_cmp)
    (all : Collection Id G) (may_leave : Bool) (costs : List (B × ℕ)) (old : List (B × Bin)) where
  abbrev Guess : Heuristic → Outlay → Type 0
  Guess = GuessesWith group_cmp cmp bin_cmp all may_leave costs old

  abbrev NoGuess : Heuristic → Type 0
  NoGuess = IsNoGuess group_cmp cmp bin_cmp all may_leave old

  abbrev Fits : Heuristic → List (Placement Id B) → List (Group G Id) → List (B × Bin) → Type 0
  Fits h = PackingFits group_cmp (named_rules cmp bin_cmp h) all old

  fits-alike : (h : Heuristic) (ps qs : List (Placement Id B)) (left other : List (Group G Id)) (m n : List (B × Bin))
      → Fits h ps left m → Fits h qs other n → AreFitsAlike group_cmp cmp bin_cmp m n ps qs left other
  fits-alike h ps qs left other m n p q =
      one_fitting group_cmp (named_rules cmp bin_cmp h) group_total total bin_total all all old old (collections-same group_total total all)
      (bins-same bin_total old) (named_decides (values_of all.sizes) (values_of old) h) ps qs left other m n p q

  -- with one heuristic what fits has one outlay
  pub outlay-same : (h : Heuristic) (made : Outlay) → Guess h made → (placements : List (Placement Id B)) (left : List (Group G Id)) (new : List (B × Bin))
      → Fits h placements left new → made ≡ outlay_of group_cmp cmp bin_cmp all costs old placements left
  outlay-same h made g placements left new fits =
      let alike = (fits-alike h g.placements placements g.left left g.new new g.fits fits).placements in
      let one = fit_use-same group_total total bin_total all old h _
      (record { placements = g.placements; left = g.left; new = g.new; fits = g.fits; use_is = refl }) placements left new fits in
      let cells : cells_in_groups cmp group_cmp all g.left ≡ cells_in_groups cmp group_cmp all left = ap (λ (u : FitUse). u.left) one in
      let uses : use_of bin_cmp g.placements old ≡ use_of bin_cmp placements old = ap (λ (u : FitUse). u.made) one in
      let paid : cost_made bin_cmp costs g.placements old ≡ cost_made bin_cmp costs placements old =
      cost_made-alike cmp bin_total costs g.placements placements old alike in
      let filled : bins_filled bin_cmp g.placements ≡ bins_filled bin_cmp placements = filled-alike cmp bin_total g.placements placements alike in
      let same : outlay_of group_cmp cmp bin_cmp all costs old g.placements g.left ≡ outlay_of group_cmp cmp bin_cmp all costs old placements left = cc in
      g.outlay_is ∙ same

  -- and leaves nothing, where nothing may be left
  pub left-same : (h : Heuristic) (made : Outlay) → Guess h made → (placements : List (Placement Id B)) (left : List (Group G Id)) (new : List (B × Bin))
      → Fits h placements left new → may_leave ≡ false → left ≡ []
  left-same h made g placements left new fits none_may =
      none-alike (λ a b. group_cmp a b ≡ Equal) g.left left (fits-alike h g.placements placements g.left left g.new new g.fits fits).left (g.allowed none_may)

  one-guess : (h : Heuristic) (made other : Outlay) → Guess h made → Guess h other → made ≡ other
  one-guess h made other g again = outlay-same h made g again.placements again.left again.new again.fits ∙ sym again.outlay_is

  not_both : (h : Heuristic) (made : Outlay) → Guess h made → NoGuess h → ⊥
  not_both h made g (none_may, refused) =
      let none : g.left ≡ [] = g.allowed none_may in
      let fits : Fits h g.placements [] g.new = rw (sym none) g.fits in
      let done = ((done_is_none_left group_cmp (named_rules cmp bin_cmp h) all old g.new g.placements fits.tests).0 (fits, refl)).0 in
      not-refused group_total total bin_total all old h (use_of bin_cmp g.placements old)
      (record { placements = g.placements; new = g.new; done = done; use_is = refl }) refused

  -- guesses are compared so
  pub guesses-compared : AreCompared NoGuess Guess IsBetterOutlay
  guesses-compared = record { one = one-guess; not_both = not_both; trans = outlays.trans; than_rest = outlays.than_rest }

  -- where groups are left that may not be, there is no guess
  pub no_guess : (h : Heuristic) (placements : List (Placement Id B)) (left : List (Group G Id)) (new : List (B × Bin)) → Fits h placements left new
      → may_leave ≡ false → (left ≡ [] → ⊥) → NoGuess h
  no_guess h placements [] new fits none_may some = absurd (some refl)
  no_guess h placements (first ∷ left) new fits none_may some =
      let r = first_is_refused group_cmp (named_rules cmp bin_cmp h) all old new placements first left fits in
      (none_may, record { left = r.bins; refused = r.refused })

  -- than the best of all heuristics none is better
  pub best_is_no_worse : (hs : List Heuristic)
      → hs ≡ Volume ∷ Height ∷ Width ∷ Depth ∷ SideSum ∷ LongestSide ∷ ShortestSide ∷ SideArea ∷ []
      → (best : Heuristic) (made : Outlay) → IsBestBy Guess IsBetterOutlay hs best made
      → IsNoWorseThanGuesses group_cmp cmp bin_cmp all may_leave costs old made
  best_is_no_worse hs are best made b =
      let Worse : Heuristic → Type 0 = λ h. (other : Outlay) → Guess h other → IsBetterOutlay made other in
      let NoBetter : Heuristic → Type 0 = λ h. (other : Outlay) → Guess h other → ¬ IsBetterOutlay other made in
      let itself : NoBetter best = λ other g. rw (← one-guess best made other b.done g) (outlays.never made) in
      let before : All NoBetter b.before =
      All-weaker Worse NoBetter (λ h w other g better. outlays.never made (outlays.trans made other made (w other g) better)) b.before b.worse in
      let every : All NoBetter hs = rw b.listed (All-append NoBetter b.before (best ∷ b.after) before (All-cons NoBetter best b.after itself b.no_better)) in
      each_heuristic NoBetter (rw are at every)

  -- and where no heuristic of the list is a guess, none is
  pub none_guesses : (hs : List Heuristic)
      → hs ≡ Volume ∷ Height ∷ Width ∷ Depth ∷ SideSum ∷ LongestSide ∷ ShortestSide ∷ SideArea ∷ [] → All NoGuess hs → (h : Heuristic) → NoGuess h
  none_guesses hs are every = each_heuristic NoGuess (rw are at every)

  -- what is better than the best guess is no worse than any
  pub better_is_no_worse : (best made : Outlay) → IsNoWorseThanGuesses group_cmp cmp bin_cmp all may_leave costs old best → IsBetterOutlay made best
      → IsNoWorseThanGuesses group_cmp cmp bin_cmp all may_leave costs old made
  better_is_no_worse best made no_worse better h other g more = no_worse h other g (outlays.trans other made best more better)

  -- so what is the first that is found, or better than the best guess, is no worse than any
  pub first_or_better : (hs : List Heuristic)
      → hs ≡ Volume ∷ Height ∷ Width ∷ Depth ∷ SideSum ∷ LongestSide ∷ ShortestSide ∷ SideArea ∷ []
      → (guess : Option (Heuristic × Outlay)) (made : Outlay) → IsBestGuess group_cmp cmp bin_cmp all may_leave costs old hs guess
      → MatchOption guess (Unit {0}) (λ best. IsBetterOutlay made best.1) → IsNoWorseThanGuesses group_cmp cmp bin_cmp all may_leave costs old made
  first_or_better hs are None made none first = λ h other g more. not_both h other g (none_guesses hs are none h)
  first_or_better hs are (Some best) made b better =
      better_is_no_worse best.1 made (best_is_no_worse hs are best.0 best.1 b) better
