-- What a session answers to a packing with one heuristic, and with the best of a list: that ends as the one did that was rolled back, and keeps
-- the promise.
use Rattle.std.specs.Result.{IsOk}
use Rattle.rectangle_pack_sections.proofs.Std.{◌≡◌, ℕ, ◌+◌, ◌<◌, ◌^◌, ◌⊎◌, inl, inr, List, [], ◌∷◌, length, get_or, All, refl, sym, subst, All-weaker, Ordering, IsTotalOrder, Option, Some, None}
use Rattle.rectangle_pack_sections.proofs.Std.{All-nil, All-cons, All-head, MatchOption, Result, Ok, Err, IsErrAnd}
use Rattle.rectangle_pack_sections.specs.declared.box_size_heuristics.named.Heuristic.{Heuristic}
use Rattle.rectangle_pack_sections.specs.declared.group.Group.{Group}
use Rattle.rectangle_pack_sections.specs.Groups.{Collection, entries_of}
use Rattle.rectangle_pack_sections.specs.Bins.{Bin}
use Rattle.rectangle_pack_packing.specs.declared.uses.Use.{Use}
use Rattle.rectangle_pack_packing.specs.Best.{named_rules, use_of, IsRefusedWith, IsBestOf}
use Rattle.rectangle_pack.specs.declared.session.command.Packed.{Packed as PackedNumbers}
use Rattle.rectangle_pack.specs.declared.session.command.Reply.TheVariants.{Packed, Refused}
use Rattle.rectangle_pack.specs.declared.session.command.SessionError.{SessionError}
use Rattle.rectangle_pack.specs.declared.session.command.SessionError.TheVariants.{NumbersUsedUp, NotEnoughBinSpace}
use Rattle.rectangle_pack.specs.declared.session.command.SessionError.TheVariants.{OutOfMemory}
use Rattle.rectangle_pack.specs.Promise.{NoBinTakes}
use Rattle.rectangle_pack.specs.Session.{State, Packs}
use Rattle.rectangle_pack.specs.declared.session.command.Outstanding.{Outstanding}
use Rattle.rectangle_pack.proofs.lemmas.session.Packing.{state, unchanged}
use Rattle.rectangle_pack.proofs.lemmas.session.Transitions.{memory_refused}
use Rattle.rectangle_pack.proofs.lemmas.session.Promise.{packs-promised}
use Rattle.rectangle_pack.specs.SessionBest.{PacksBest, PacksBestAsPromised}
use Rattle.rectangle_pack_packing.proofs.lemmas.best.Alone.{one-entry, alone-best, best-alone}
use Rattle.rectangle_pack_packing.proofs.lemmas.best.Nothing.{first-listed}
use Rattle.rectangle_pack_packing.proofs.lemmas.best.Whole.{use-same, not-refused}

-- a packing with a heuristic is the best of the list that has it alone
module _ {Id B G : Type 0} (group_cmp : Group G Id → Group G Id → Ordering) (cmp : Id → Id → Ordering) (bin_cmp : B → B → Ordering)
    (all : Collection Id G) (heuristic : Heuristic) (old new : State Id B) where
  pub alone-kept : (numbers : PackedNumbers) → Packs group_cmp (named_rules cmp bin_cmp heuristic) all old (Packed numbers) new
      → PacksBest group_cmp cmp bin_cmp (heuristic ∷ []) all old (Ok (heuristic, numbers)) new
  alone-kept numbers (low, kept) = (
    low,
    kept,
    alone-best group_cmp cmp bin_cmp all old.bins heuristic (use_of bin_cmp kept.placements old.bins)
        (record { placements = kept.placements; new = new.bins; done = kept.done; use_is = refl }),
  )

  alone-ended : (error : SessionError) → Packs group_cmp (named_rules cmp bin_cmp heuristic) all old (Refused error) new
      → PacksBest group_cmp cmp bin_cmp (heuristic ∷ []) all old (Err error) new
  alone-ended NumbersUsedUp h = h
  alone-ended NotEnoughBinSpace (low, left, refused, same) =
      (low, All-cons (IsRefusedWith group_cmp cmp bin_cmp all old.bins) heuristic [] (record { left = left; refused = refused }) (All-nil _), same)
  alone-ended OutOfMemory (low, some, same) = (low, same)
  alone-ended error h = absurd h

  pub alone-refused : (result : Result (Heuristic × PackedNumbers) SessionError) (error : SessionError) → IsErrAnd result (λ e. e ≡ error)
      → Packs group_cmp (named_rules cmp bin_cmp heuristic) all old (Refused error) new
      → PacksBest group_cmp cmp bin_cmp (heuristic ∷ []) all old result new
  alone-refused (Ok x) error failed h = absurd failed
  alone-refused (Err e) error failed h = subst (λ r. PacksBest group_cmp cmp bin_cmp (heuristic ∷ []) all old (Err r) new) (sym failed) (alone-ended error h)

-- and a list of one has the answer of its entry; without groups each list has that of its first
module _ {Id B G : Type 0} (group_cmp : Group G Id → Group G Id → Ordering) (cmp : Id → Id → Ordering) (bin_cmp : B → B → Ordering)
    (all : Collection Id G) (heuristics : List Heuristic) (old : State Id B) where
  alone-listed : (d : Heuristic) → length heuristics ≡ 1 → (result : Result (Heuristic × PackedNumbers) SessionError) (new : State Id B)
      → PacksBest group_cmp cmp bin_cmp (get_or heuristics 0 d ∷ []) all old result new → PacksBest group_cmp cmp bin_cmp heuristics all old result new
  alone-listed d one result new h = subst (λ hs. PacksBest group_cmp cmp bin_cmp hs all old result new) (sym (one-entry heuristics d one)) h

  pub first-answered : (d : Heuristic) → 0 < length heuristics → (length heuristics ≡ 1) ⊎ (all.groups ≡ [])
      → (result : Result (Heuristic × PackedNumbers) SessionError) (new : State Id B) → (all.groups ≡ [] → IsOk result)
      → PacksBest group_cmp cmp bin_cmp (get_or heuristics 0 d ∷ []) all old result new → PacksBest group_cmp cmp bin_cmp heuristics all old result new
  first-answered d some (inl one) result new done h = alone-listed d one result new h
  first-answered d some (inr none) (Ok (best, numbers)) new done (low, kept, alone) =
      (low, kept, first-listed group_cmp cmp bin_cmp all old.bins none d heuristics some best kept.placements kept.counted alone)
  first-answered d some (inr none) (Err error) new done h = absurd (let is = done none in cc)

module _ {Id B G : Type 0} {group_cmp : Group G Id → Group G Id → Ordering} {cmp : Id → Id → Ordering} {bin_cmp : B → B → Ordering}
    (group_total : IsTotalOrder group_cmp) (total : IsTotalOrder cmp) (bin_total : IsTotalOrder bin_cmp)
    (all : Collection Id G) (heuristics : List Heuristic) (old : State Id B) (best : Heuristic) (made : Use)
    (b : IsBestOf group_cmp cmp bin_cmp all old.bins heuristics best made) where
  -- a packing with the best of them that is kept makes the best use
  kept : (numbers : PackedNumbers) (new : State Id B) → Packs group_cmp (named_rules cmp bin_cmp best) all old (Packed numbers) new
      → PacksBest group_cmp cmp bin_cmp heuristics all old (Ok (best, numbers)) new
  kept numbers new (low, done) =
      (low, done, rw (← use-same group_total total bin_total all old.bins best made b.done done.placements new.bins done.done) b)

  -- so what is answered to it alone is answered to the list
  ended : (result : Result (Heuristic × PackedNumbers) SessionError) (new : State Id B) → PacksBest group_cmp cmp bin_cmp (best ∷ []) all old result new
      → PacksBest group_cmp cmp bin_cmp heuristics all old result new
  ended (Ok (one, numbers)) new (low, done, alone) =
      let is = best-alone group_cmp cmp bin_cmp all old.bins best one _ alone in
      let packed : Packs group_cmp (named_rules cmp bin_cmp one) all old (Packed numbers) new = (low, done) in
      rw is (kept numbers new (rw is at packed))
  ended (Err NumbersUsedUp) new h = h
  ended (Err NotEnoughBinSpace) new (low, refused, same) =
      absurd (not-refused group_total total bin_total all old.bins best made b.done (All-head (IsRefusedWith group_cmp cmp bin_cmp all old.bins) best [] refused))
  ended (Err OutOfMemory) new h = h
  ended (Err error) new h = absurd h

  pub best-named : (now : State Id B) → now ≡ old → (asked : State Id B) → old ≡ asked → (result : Result (Heuristic × PackedNumbers) SessionError)
      → (new : State Id B) → PacksBest group_cmp cmp bin_cmp (best ∷ []) all now result new
      → PacksBest group_cmp cmp bin_cmp heuristics all asked result new
  best-named now same asked is result new h =
      subst (λ s. PacksBest group_cmp cmp bin_cmp heuristics all s result new) is (ended result new (rw same at h))

module _ {Id B G : Type 0} (group_cmp : Group G Id → Group G Id → Ordering) (cmp : Id → Id → Ordering) (bin_cmp : B → B → Ordering)
    (all : Collection Id G) (heuristics : List Heuristic) (bins : List (B × Bin)) where
  -- what the search for the best heuristic found, if something
  module _ (found : Option (Heuristic × Use)) (searched : MatchOption found (All (IsRefusedWith group_cmp cmp bin_cmp all bins) heuristics)
      (λ best. IsBestOf group_cmp cmp bin_cmp all bins heuristics best.0 best.1)) where
    pub best-found : (best : Heuristic) (made : Use) → found ≡ Some (best, made) → IsBestOf group_cmp cmp bin_cmp all bins heuristics best made
    best-found best made is = rw is at searched

    pub none-found : found ≡ None → All (IsRefusedWith group_cmp cmp bin_cmp all bins) heuristics
    none-found is = rw is at searched

  module _ (now : List (B × Bin)) (outstanding : List (Outstanding Id B)) (next : ℕ) (same : now ≡ bins)
      (old : State Id B) (is : state bins outstanding next ≡ old) (fits : next + entries_of all < 2 ^ 64) where
    -- memory is refused while it is looked for
    pub best-stopped : (result : Result (Heuristic × PackedNumbers) SessionError) → IsErrAnd result (λ e. e ≡ OutOfMemory)
        → PacksBest group_cmp cmp bin_cmp heuristics all old result (state now outstanding next)
    best-stopped result failed = rw (memory_refused result failed)
        (subst (λ (s : State Id B). s.next + entries_of all < 2 ^ 64) is fits, unchanged bins now outstanding outstanding next same refl old is)

    -- no heuristic finds space
    pub best-none : All (IsRefusedWith group_cmp cmp bin_cmp all bins) heuristics
        → PacksBest group_cmp cmp bin_cmp heuristics all old (Err NotEnoughBinSpace) (state now outstanding next)
    best-none refused = (
      subst (λ (s : State Id B). s.next + entries_of all < 2 ^ 64) is fits,
      subst (λ (s : State Id B). All (IsRefusedWith group_cmp cmp bin_cmp all s.bins) heuristics) is refused,
      unchanged bins now outstanding outstanding next same refl old is,
    )

-- and what the headline says of packings holds of it
module _ {Id B G : Type 0} (group_cmp : Group G Id → Group G Id → Ordering) (cmp : Id → Id → Ordering) {bin_cmp : B → B → Ordering}
    (bin_total : IsTotalOrder bin_cmp) (all : Collection Id G) where
  pub best-promised : (heuristics : List Heuristic) (old : State Id B) (result : Result (Heuristic × PackedNumbers) SessionError) (new : State Id B)
      → PacksBest group_cmp cmp bin_cmp heuristics all old result new → PacksBestAsPromised group_cmp cmp bin_cmp heuristics all old result new
  best-promised heuristics old (Ok (best, numbers)) new h =
      packs-promised group_cmp (named_rules cmp bin_cmp best) bin_total all old (Packed numbers) new (h.0, h.1)
  best-promised heuristics old (Err NotEnoughBinSpace) new h =
      All-weaker (IsRefusedWith group_cmp cmp bin_cmp all old.bins) (λ g. NoBinTakes group_cmp (named_rules cmp bin_cmp g) all old.bins)
      (λ g r. packs-promised group_cmp (named_rules cmp bin_cmp g) bin_total all old (Refused NotEnoughBinSpace) old (h.0, r.left, r.refused, refl))
      heuristics h.1
  best-promised heuristics old (Err error) new h = tt
