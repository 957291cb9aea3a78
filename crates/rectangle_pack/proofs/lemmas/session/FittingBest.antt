-- What a session answers to a packing of what fits with the best of a list of heuristics: that keeps as much as the one did that was rolled back.
use Rattle.rectangle_pack_sections.proofs.Std.{◌≡◌, ℕ, ◌+◌, ◌<◌, ◌^◌, ◌⊎◌, inl, inr, List, [], ◌∷◌, length, get_or, All, All-nil, All-cons, refl, ap, sym, subst, arith, filter, map}
use Rattle.rectangle_pack_sections.proofs.Std.{nat_lt, keys_of, Ordering, IsTotalOrder, Option, Some, MatchOption, Result, Ok, Err, IsErrAnd}
use Rattle.rectangle_pack_sections.specs.declared.box_size_heuristics.named.Heuristic.{Heuristic}
use Rattle.rectangle_pack_sections.specs.declared.group.Group.{Group}
use Rattle.rectangle_pack_sections.specs.Groups.{Collection, entries_of}
use Rattle.rectangle_pack_sections.specs.Bins.{Bin}
use Rattle.rectangle_pack_packing.specs.declared.answer.Fitted.{Fitted}
use Rattle.rectangle_pack_packing.specs.declared.uses.FitUse.{FitUse}
use Rattle.rectangle_pack_packing.specs.Best.{named_rules, use_by, cells_placed_in, IsBestBy}
use Rattle.rectangle_pack_packing.specs.Fitting.{FitsWith, IsBestFit, IsBetterFit, fit_use_of, names_left}
use Rattle.rectangle_pack_packing.proofs.lemmas.best.Alone.{one-entry}
use Rattle.rectangle_pack_packing.proofs.lemmas.best.Whole.{fit_use-same}
use Rattle.rectangle_pack.specs.declared.session.command.Outstanding.{Outstanding}
use Rattle.rectangle_pack.specs.declared.session.command.Packed.{Packed as PackedNumbers}
use Rattle.rectangle_pack.specs.declared.session.command.SessionError.{SessionError}
use Rattle.rectangle_pack.specs.declared.session.command.SessionError.TheVariants.{NumbersUsedUp, OutOfMemory}
use Rattle.rectangle_pack.specs.Session.{State}
use Rattle.rectangle_pack.specs.SessionFitting.{PacksFitting, PacksFittingBest, FitsBestAsPromised}
use Rattle.rectangle_pack.specs.private.Fitting.{PacksFittingWith}
use Rattle.rectangle_pack.proofs.lemmas.session.Fitting.{fits_promised, not_empty, nothing_fits}
use Rattle.rectangle_pack.proofs.lemmas.session.Packing.{state, unchanged}
use Rattle.rectangle_pack.proofs.lemmas.session.Transitions.{memory_refused}

-- what leaves no cells and uses no bin is the best
abbrev nothing : FitUse
nothing = record { left = 0; made = use_by [] }

none-better : (other : FitUse) → ¬ IsBetterFit other nothing
none-better other (inl less) = absurd (omega (arith, less))
none-better other (inr (same, inl less)) = absurd (omega (arith, less))
none-better other (inr (same, inr (as_many, less))) = absurd (omega (arith, less))

-- a heuristic is the best of the list that begins with it where nothing is better
first-best : {M : Type 0} (Makes : Heuristic → M → Type 0) (IsBetter : M → M → Type 0) (h : Heuristic) (rest : List Heuristic) (made : M)
    → Makes h made → ((g : Heuristic) (other : M) → Makes g other → ¬ IsBetter other made) → IsBestBy Makes IsBetter (h ∷ rest) h made
first-best {M} Makes IsBetter h rest made done none =
    record { done = done; before = []; after = rest; listed = refl; worse = All-nil _; no_better = each rest }
  where
    NoBetter : Heuristic → Type 0
    NoBetter g = (other : M) → Makes g other → ¬ IsBetter other made

    each : (hs : List Heuristic) → All NoBetter hs
    each [] = All-nil NoBetter
    each (g ∷ gs) = All-cons NoBetter g gs (none g) (each gs)

-- and it is that of a list that has it alone
alone-best : {M : Type 0} (Makes : Heuristic → M → Type 0) (IsBetter : M → M → Type 0) (h : Heuristic) (made : M)
    → Makes h made → IsBestBy Makes IsBetter (h ∷ []) h made
alone-best Makes IsBetter h made done =
    record { done = done; before = []; after = []; listed = refl; worse = All-nil _; no_better = All-nil _ }

-- an answer to it
abbrev Answer : Type 0 → Type 0 → Type 0 → Type 0
Answer Id G A = Result (Heuristic × Fitted PackedNumbers (Group G Id) A) SessionError

module _ {Id B G : Type 0} (group_cmp : Group G Id → Group G Id → Ordering) (cmp : Id → Id → Ordering) {bin_cmp : B → B → Ordering}
    (bin_total : IsTotalOrder bin_cmp) (all : Collection Id G) where
  -- errors are the same, whichever heuristics are asked for
  errors-alike : (A : Type 0) (heuristic : Heuristic) (heuristics : List Heuristic) (old new : State Id B) (error : SessionError)
      → PacksFitting group_cmp (named_rules cmp bin_cmp heuristic) {A = A} all old (Err error) new
      → PacksFittingBest group_cmp cmp bin_cmp {A = A} heuristics all old (Err error) new
  errors-alike A heuristic heuristics old new NumbersUsedUp h = h
  errors-alike A heuristic heuristics old new OutOfMemory h = h
  errors-alike A heuristic heuristics old new error h = absurd h

  -- a list of one has the answer of its heuristic
  alone-answered : {A : Type 0} (heuristic : Heuristic) (old : State Id B) (result : Answer Id G A) (new : State Id B)
      → PacksFittingWith group_cmp cmp bin_cmp heuristic {A = A} all old result new
      → PacksFittingBest group_cmp cmp bin_cmp (heuristic ∷ []) all old result new
  alone-answered {A} heuristic old (Ok (named, fitted)) new (is, (fits, kept)) =
      rw is (
        fits,
        kept,
        alone-best (FitsWith group_cmp cmp bin_cmp all old.bins) IsBetterFit heuristic _
            (record { placements = kept.placements; left = names_left fitted.left; new = new.bins; fits = kept.fits; use_is = refl }),
      )
  alone-answered {A} heuristic old (Err error) new h = errors-alike A heuristic (heuristic ∷ []) old new error h

  -- without groups each list has that of its first
  none-answered : {A : Type 0} → all.groups ≡ [] → (heuristic : Heuristic) (rest : List Heuristic) (old : State Id B) (result : Answer Id G A) (new : State Id B)
      → PacksFittingWith group_cmp cmp bin_cmp heuristic {A = A} all old result new
      → PacksFittingBest group_cmp cmp bin_cmp (heuristic ∷ rest) all old result new
  none-answered {A} none heuristic rest old (Ok (named, fitted)) new (is, (fits, kept)) =
      let left = names_left fitted.left in
      let empty = nothing_fits group_cmp (named_rules cmp bin_cmp heuristic) all bin_total none old.bins new.bins kept.placements left kept.fits in
      let made : FitUse = fit_use_of group_cmp cmp bin_cmp all old.bins kept.placements left in
      let least : made ≡ nothing = rw (empty.0, empty.1) (ap (λ counts. record { left = 0; made = use_by counts }) (uncounted (keys_of old.bins))) in
      rw is (
        fits,
        kept,
        first-best (FitsWith group_cmp cmp bin_cmp all old.bins) IsBetterFit heuristic rest made
            (record { placements = kept.placements; left = left; new = new.bins; fits = kept.fits; use_is = refl })
            (λ g other fits. subst (λ m. ¬ IsBetterFit other m) (sym least) (none-better other)),
      )
    where
      uncounted : (ids : List B) → filter (nat_lt 0) (map (cells_placed_in {Id = Id} bin_cmp []) ids) ≡ []
      uncounted [] = refl
      uncounted (id ∷ ids) = uncounted ids
  none-answered {A} none heuristic rest old (Err error) new h = errors-alike A heuristic (heuristic ∷ rest) old new error h

  -- so where a list has one heuristic, or there are no groups, the answer to the first is that to the list
  pub first-answered : {A : Type 0} (heuristics : List Heuristic) (d : Heuristic) → 0 < length heuristics → (length heuristics ≡ 1) ⊎ (all.groups ≡ [])
      → (old : State Id B) (result : Answer Id G A) (new : State Id B)
      → PacksFittingWith group_cmp cmp bin_cmp (get_or heuristics 0 d) {A = A} all old result new
      → PacksFittingBest group_cmp cmp bin_cmp heuristics all old result new
  first-answered [] d some either old result new h = absurd (omega (arith, some))
  first-answered (g ∷ gs) d some (inl one) old result new h =
      subst (λ hs. PacksFittingBest group_cmp cmp bin_cmp hs all old result new) (sym (one-entry (g ∷ gs) d one)) (alone-answered g old result new h)
  first-answered (g ∷ gs) d some (inr none) old result new h = none-answered none g gs old result new h

  -- the promise is kept with the heuristic of the answer
  pub best-promised : {A : Type 0} (heuristics : List Heuristic) (old : State Id B) (result : Answer Id G A) (new : State Id B)
      → PacksFittingBest group_cmp cmp bin_cmp heuristics all old result new → FitsBestAsPromised group_cmp cmp bin_cmp all old result new
  best-promised heuristics old (Ok (best, fitted)) new (fits, kept, is_best) =
      fits_promised group_cmp (named_rules cmp bin_cmp best) all bin_total old (Ok fitted) new (fits, kept)
  best-promised heuristics old (Err error) new h = tt

  -- what is answered with the best is the answer to the list
  module _ (group_total : IsTotalOrder group_cmp) (total : IsTotalOrder cmp) (heuristics : List Heuristic) (best : Heuristic) (made : FitUse) where
    best-kept : {A : Type 0} (old : State Id B) → IsBestFit group_cmp cmp bin_cmp all old.bins heuristics best made → (result : Answer Id G A) (new : State Id B)
        → PacksFittingWith group_cmp cmp bin_cmp best {A = A} all old result new
        → PacksFittingBest group_cmp cmp bin_cmp heuristics all old result new
    best-kept {A} old b (Ok (named, fitted)) new (is, (fits, kept)) =
        rw is (
          fits,
          kept,
          rw (← fit_use-same group_total total bin_total all old.bins best made b.done kept.placements (names_left fitted.left)
              new.bins kept.fits) b,
        )
    best-kept {A} old b (Err error) new h = errors-alike A best heuristics old new error h

    pub best-answered : {A : Type 0} (now bins : State Id B) → IsBestFit group_cmp cmp bin_cmp all bins.bins heuristics best made → now ≡ bins → (old : State Id B) → bins ≡ old
        → (result : Answer Id G A) (new : State Id B) → PacksFittingWith group_cmp cmp bin_cmp best {A = A} all now result new
        → PacksFittingBest group_cmp cmp bin_cmp heuristics all old result new
    best-answered now bins b same old is result new h =
        subst (λ s. PacksFittingBest group_cmp cmp bin_cmp heuristics all s result new) is (best-kept bins b result new (rw same at h))

  -- memory is refused while it is looked for
  pub best-stopped : {A : Type 0} (heuristics : List Heuristic) (bins now : List (B × Bin)) (outstanding : List (Outstanding Id B)) (next : ℕ) → now ≡ bins
      → (old : State Id B) → state bins outstanding next ≡ old → next + entries_of all < 2 ^ 64 → (all.groups ≡ [] → ⊥)
      → (result : Answer Id G A) → IsErrAnd result (λ e. e ≡ OutOfMemory)
      → PacksFittingBest group_cmp cmp bin_cmp heuristics all old result (state now outstanding next)
  best-stopped heuristics bins now outstanding next same old is fits some result failed = rw (memory_refused result failed) (
    subst (λ (s : State Id B). s.next + entries_of all < 2 ^ 64) is fits,
    not_empty all.groups some,
    unchanged bins now outstanding outstanding next same refl old is,
  )

module _ {Id B G : Type 0} (group_cmp : Group G Id → Group G Id → Ordering) (cmp : Id → Id → Ordering) (bin_cmp : B → B → Ordering) (all : Collection Id G) where
  -- what the search for the best heuristic found, if something
  pub best-found : (heuristics : List Heuristic) (bins : List (B × Bin)) (found : Option (Heuristic × FitUse))
      → MatchOption found (heuristics ≡ []) (λ best. IsBestFit group_cmp cmp bin_cmp all bins heuristics best.0 best.1)
      → (best : Heuristic) (made : FitUse) → found ≡ Some (best, made) → IsBestFit group_cmp cmp bin_cmp all bins heuristics best made
  best-found heuristics bins found searched best made is = rw is at searched

  -- a packing with one heuristic that is refused
  pub named-refused : {A : Type 0} (heuristic : Heuristic) (old new : State Id B) (result : Result (Heuristic × Fitted PackedNumbers (Group G Id) A) SessionError)
      (error : SessionError) → IsErrAnd result (λ e. e ≡ error) → PacksFitting group_cmp (named_rules cmp bin_cmp heuristic) {A = A} all old (Err error) new
      → PacksFittingWith group_cmp cmp bin_cmp heuristic {A = A} all old result new
  named-refused {A = A} heuristic old new (Ok x) error failed h = absurd failed
  named-refused {A = A} heuristic old new (Err e) error failed h =
      subst (λ x. PacksFitting group_cmp (named_rules cmp bin_cmp heuristic) {A = A} all old (Err x) new) (sym failed) h
