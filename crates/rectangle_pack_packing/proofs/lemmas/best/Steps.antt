-- The best of a list of heuristics, one more at a time.
use Rattle.rectangle_pack_sections.proofs.Std.{◌≡◌, ◌<◌, ◌≤◌, List, [], ◌∷◌, ◌++◌, ◌⊎◌, inl, inr, refl, ap, ◌∙◌, arith, Option, Some, None, IfSome, MatchOption, All, Ordering}
use Rattle.rectangle_pack_sections.proofs.Std.{All-append, All-cons, All-head, All-nil, All-push, All-weaker, append_assoc, cases_lt, IsTotalOrder}
use Rattle.rectangle_pack_sections.specs.declared.box_size_heuristics.named.Heuristic.{Heuristic}
use Rattle.rectangle_pack_sections.specs.Bins.{Bin}
use Rattle.rectangle_pack_sections.specs.declared.group.Group.{Group}
use Rattle.rectangle_pack_sections.specs.Groups.{Collection}
use Rattle.rectangle_pack_packing.specs.declared.uses.FitUse.{FitUse}
use Rattle.rectangle_pack_packing.specs.declared.uses.Use.{Use}
use Rattle.rectangle_pack_packing.specs.Best.{IsBestBy, IsBetterUse, PacksWith, IsRefusedWith}
use Rattle.rectangle_pack_packing.specs.Fitting.{IsBetterFit, FitsWith}
use Rattle.rectangle_pack_packing.proofs.lemmas.best.Whole.{one-use, not-refused, one-fit-use}

better-trans : (a b c : Use) → IsBetterUse a b → IsBetterUse b c → IsBetterUse a c
better-trans a b c (inl f) (inl g) = inl (omega arith)
better-trans a b c (inl f) (inr (e, g)) = inl (omega arith)
better-trans a b c (inr (e, f)) (inl g) = inl (omega arith)
better-trans a b c (inr (e, f)) (inr (d, g)) = inr (omega arith, omega arith)

better-than_rest : (a b c : Use) → IsBetterUse a b → ¬ IsBetterUse c b → IsBetterUse a c
better-than_rest a b c h never = by (cases_lt c.bins b.bins) (cases_lt b.bins c.bins) (cases_lt c.last b.last) h
  where
    by : (c.bins < b.bins) ⊎ (b.bins ≤ c.bins) → (b.bins < c.bins) ⊎ (c.bins ≤ b.bins) → (c.last < b.last) ⊎ (b.last ≤ c.last) → IsBetterUse a b
        → IsBetterUse a c
    by (inl fewer) more last better = absurd (never (inl fewer))
    by (inr least) (inl more) last (inl f) = inl (omega arith)
    by (inr least) (inl more) last (inr (e, f)) = inl (omega arith)
    by (inr least) (inr most) (inl less) better = absurd (never (inr (omega arith, less)))
    by (inr least) (inr most) (inr as_much) (inl f) = inl (omega arith)
    by (inr least) (inr most) (inr as_much) (inr (e, f)) = inr (omega arith, omega arith)

better_fit-trans : (a b c : FitUse) → IsBetterFit a b → IsBetterFit b c → IsBetterFit a c
better_fit-trans a b c (inl f) (inl g) = inl (omega arith)
better_fit-trans a b c (inl f) (inr (e, g)) = inl (omega (arith, e))
better_fit-trans a b c (inr (e, f)) (inl g) = inl (omega (arith, e))
better_fit-trans a b c (inr (e, f)) (inr (d, g)) = inr (e ∙ d, better-trans a.made b.made c.made f g)

better_fit-than_rest : (a b c : FitUse) → IsBetterFit a b → ¬ IsBetterFit c b → IsBetterFit a c
better_fit-than_rest a b c h never = by (cases_lt c.left b.left) (cases_lt b.left c.left) h
  where
    by : (c.left < b.left) ⊎ (b.left ≤ c.left) → (b.left < c.left) ⊎ (c.left ≤ b.left) → IsBetterFit a b → IsBetterFit a c
    by (inl fewer) more better = absurd (never (inl fewer))
    by (inr least) (inl more) (inl f) = inl (omega arith)
    by (inr least) (inl more) (inr (e, f)) = inl (omega (arith, e))
    by (inr least) (inr most) (inl f) = inl (omega arith)
    by (inr least) (inr most) (inr (e, f)) =
        inr (omega (arith, e), better-than_rest a.made b.made c.made f (λ better. never (inr (omega arith, better))))

-- with a heuristic one thing is made, or none where it fails; and of what is made, one that is better than another is better than what is no
-- better than that
pub record AreCompared {M : Type 0} (Fails : Heuristic → Type 0) (Makes : Heuristic → M → Type 0) (IsBetter : M → M → Type 0) : Type 0 where
  pub one : (h : Heuristic) (made other : M) → Makes h made → Makes h other → made ≡ other
  pub not_both : (h : Heuristic) (made : M) → Makes h made → Fails h → ⊥
  pub trans : (a b c : M) → IsBetter a b → IsBetter b c → IsBetter a c
  pub than_rest : (a b c : M) → IsBetter a b → ¬ IsBetter c b → IsBetter a c

-- the best of the heuristics that were tried, and what is made with it; none where each fails
abbrev pub IsBestSoFar : {M : Type 0} → (Heuristic → Type 0) → (Heuristic → M → Type 0) → (M → M → Type 0) → List Heuristic → Option (Heuristic × M) → Type 0
IsBestSoFar Fails Makes IsBetter tried found = MatchOption found (All Fails tried) (λ best. IsBestBy Makes IsBetter tried best.0 best.1)

module _ {M : Type 0} {Fails : Heuristic → Type 0} {Makes : Heuristic → M → Type 0} {IsBetter : M → M → Type 0}
    (compared : AreCompared Fails Makes IsBetter) where
  abbrev Best : List Heuristic → Heuristic → M → Type 0
  Best = IsBestBy Makes IsBetter

  -- with these heuristics what is made is worse than this, or not better
  abbrev Worse : M → Heuristic → Type 0
  Worse made h = (other : M) → Makes h other → IsBetter made other

  abbrev NoBetter : M → Heuristic → Type 0
  NoBetter made h = (other : M) → Makes h other → ¬ IsBetter other made

  abbrev SoFar : List Heuristic → Option (Heuristic × M) → Type 0
  SoFar = IsBestSoFar Fails Makes IsBetter

  never : {X : Type 0} (h : Heuristic) (other : M) → Fails h → Makes h other → X
  never h other fails made = absurd (compared.not_both h other made fails)

  -- one heuristic more, with which nothing better is made, leaves the best
  stays : (tried : List Heuristic) (h best : Heuristic) (made : M) → Best tried best made → NoBetter made h → Best (tried ++ h ∷ []) best made
  stays tried h best made b loses = record {
    done = b.done;
    before = b.before;
    after = b.after ++ h ∷ [];
    listed = ap (λ hs. hs ++ h ∷ []) b.listed ∙ append_assoc b.before (best ∷ b.after) (h ∷ []);
    worse = b.worse;
    no_better = All-push (NoBetter made) b.after h b.no_better loses;
  }

  -- and the last of the list is the best where all before it are worse
  wins : (tried : List Heuristic) (h : Heuristic) (made : M) → Makes h made → All (Worse made) tried → Best (tried ++ h ∷ []) h made
  wins tried h made done worse = record {
    done = done;
    before = tried;
    after = [];
    listed = refl;
    worse = worse;
    no_better = All-nil (NoBetter made);
  }

  pub best-after_failed : (tried : List Heuristic) (h : Heuristic) (found : Option (Heuristic × M)) → SoFar tried found → Fails h
      → SoFar (tried ++ h ∷ []) found
  best-after_failed tried h None so_far fails = All-push Fails tried h so_far fails
  best-after_failed tried h (Some best) so_far fails = stays tried h best.0 best.1 so_far (λ other done. never h other fails done)

  -- what is made with one more leaves the best, where it is no better; where it is better, or the first that is made, its heuristic is the best
  pub best-after_done : (tried : List Heuristic) (next : Heuristic × M) (found : Option (Heuristic × M)) (best : Heuristic × M)
      → SoFar tried found → Makes next.0 next.1
      → ((best ≡ next) × IfSome found (λ b. IsBetter next.1 b.1)) ⊎ ((found ≡ Some best) × ¬ IsBetter next.1 best.1)
      → SoFar (tried ++ next.0 ∷ []) (Some best)
  best-after_done tried next found best so_far done (inr (was, no_better)) =
      stays tried next.0 best.0 best.1 (rw was at so_far) (λ other again. rw (← compared.one next.0 next.1 other done again) no_better)
  best-after_done tried next None best fails done (inl (is, first)) =
      rw is (wins tried next.0 next.1 done (All-weaker Fails (Worse next.1) (λ g r other again. never g other r again) tried fails))
  best-after_done tried next (Some last) best so_far done (inl (is, better)) =
      let than_last : Worse next.1 last.0 = λ other again. rw (← compared.one last.0 last.1 other so_far.done again) better in
      rw is (wins tried next.0 next.1 done
      (rw so_far.listed (All-append (Worse next.1) so_far.before (last.0 ∷ so_far.after)
      (All-weaker (Worse last.1) (Worse next.1) (λ g w other again. compared.trans next.1 last.1 other better (w other again)) so_far.before so_far.worse)
      (All-cons (Worse next.1) last.0 so_far.after than_last
      (All-weaker (NoBetter last.1) (Worse next.1) (λ g n other again. compared.than_rest next.1 last.1 other better (n other again)) so_far.after
      so_far.no_better)))))

-- so of heuristics that do not fail one is the best, where there is one
pub best-of_all : {M : Type 0} (Makes : Heuristic → M → Type 0) (IsBetter : M → M → Type 0) (tried : List Heuristic) (found : Option (Heuristic × M))
    → IsBestSoFar (λ h. ⊥) Makes IsBetter tried found → MatchOption found (tried ≡ []) (λ best. IsBestBy Makes IsBetter tried best.0 best.1)
best-of_all Makes IsBetter [] None fails = refl
best-of_all Makes IsBetter (h ∷ tried) None fails = absurd (All-head (λ h. ⊥) h tried fails)
best-of_all Makes IsBetter tried (Some best) is = is

module _ {Id B G : Type 0} {group_cmp : Group G Id → Group G Id → Ordering} {cmp : Id → Id → Ordering} {bin_cmp : B → B → Ordering}
    (group_total : IsTotalOrder group_cmp) (total : IsTotalOrder cmp) (bin_total : IsTotalOrder bin_cmp)
    (all : Collection Id G) (old : List (B × Bin)) where
  -- packings are compared so
  pub packings-compared : AreCompared (IsRefusedWith group_cmp cmp bin_cmp all old) (PacksWith group_cmp cmp bin_cmp all old) IsBetterUse
  packings-compared = record {
    one = one-use group_total total bin_total all old;
    not_both = not-refused group_total total bin_total all old;
    trans = better-trans;
    than_rest = better-than_rest;
  }

  -- and so is what fits, which fits with each heuristic
  pub fittings-compared : AreCompared (λ h. ⊥) (FitsWith group_cmp cmp bin_cmp all old) IsBetterFit
  fittings-compared = record {
    one = one-fit-use group_total total bin_total all old;
    not_both = λ h made fits fails. fails;
    trans = better_fit-trans;
    than_rest = better_fit-than_rest;
  }
