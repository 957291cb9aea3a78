-- The section that a box fits best, by its index, and a placing there.
use Rattle.std.proofs.lemmas.List.{get_or_read_under}
use Rattle.rectangle_pack_sections.proofs.Std.{◌≡◌, ℕ, suc, ◌+◌, ◌-◌, ◌<◌, ◌≤◌, Option, Some, None, List, [], ◌∷◌, ◌++◌, length, take, drop, remove, get_or, ap, arith}
use Rattle.rectangle_pack_sections.proofs.Std.{subst, refl, inl, inr, cases_lt, All, HoldsAt, AllWithin, IfSome, ◌∙◌, All-weaker, split_at, get_or-take, get_or-drop, length-drop, length-take-le}
use Rattle.rectangle_pack_sections.proofs.Std.{get_or-append_seam, remove-append_right, append_assoc, IsPermutation, IsPermutation-append_comm, IsPermutation-append_right, All-permutation}
use Rattle.rectangle_pack_sections.specs.Boxes.{Size, Cuboid, Cell, Holds, IsInside, IsU32, FitsU32}
use Rattle.rectangle_pack_sections.specs.Bins.{Bin, IsSound}
use Rattle.rectangle_pack_sections.specs.Closures.{Answers}
use Rattle.rectangle_pack_sections.specs.Counting.{times_filled}
use Rattle.rectangle_pack_sections.specs.LeastSides.{least_rest}
use Rattle.rectangle_pack_sections.proofs.lemmas.cuts.Counting.{filled-cons, filled-permutation, apart_from_counts, counts_from_apart}
use Rattle.rectangle_pack_lists.specs.Steps.{IsStep, IsDone}
use Rattle.rectangle_pack_lists.proofs.lemmas.trial.Steps.{IsSound-done, filled-step}
use Rattle.rectangle_pack_bins.specs.BestFit.{IsPlacedBest}
use Rattle.rectangle_pack_bins.specs.private.Indices.{IsBestFitAt, IsBestFrom}

module _ (bin_size box : Size) (sections : List Cuboid) where
  module _ (i : ℕ) (s : Cuboid) (rest : ℕ) (within : i < length sections) (read : s ≡ get_or sections i s) (held : Holds s box)
      (rest_is : rest ≡ least_rest bin_size s box) where
    here : HoldsAt (λ t. Holds t box × (rest ≡ least_rest bin_size t box)) sections i
    here d = subst (λ (t : Cuboid). Holds t box × (rest ≡ least_rest bin_size t box))
        (get_or_read_under sections i (length sections) s d read within refl) (held, rest_is)

    -- of no section behind it the box leaves as little
    newer : (best : Option (ℕ × ℕ)) → IfSome best (λ found. rest < found.1) → IsBestFrom bin_size sections box (i + 1) best
        → AllWithin (λ t. Holds t box → rest < least_rest bin_size t box) sections (i + 1) (length sections)
    newer None less none k d from short holds = absurd (none k d from short holds)
    newer (Some found) less (inside, at, before, after) k d from short holds = elim (cases_lt k found.0) [
      | inl lt ↦ omega (arith, less, before k d from lt holds)
      | inr ge
          ↦ elim (cases_lt found.0 k) [
            | inl gt ↦ omega (arith, less, after k d (omega arith) short holds)
            | inr le
                ↦ let same : found.0 ≡ k = omega arith in
                omega (arith, less, (at d).1, ap (λ n. least_rest bin_size (get_or sections n d) box) same)
          ]
    ]

    -- one section more, which is the best so far
    best-here : (best : Option (ℕ × ℕ)) → IfSome best (λ found. rest < found.1) → IsBestFrom bin_size sections box (i + 1) best
        → IsBestFrom bin_size sections box i (Some (i, rest))
    best-here best less h = (within, here, λ k d from short. absurd (omega arith), newer best less h)

    -- one section more, and the better of it and the best so far
    pub best-closer : (best later : Option (ℕ × ℕ)) (n : ℕ) → n ≡ i + 1 → 0 < rest → IfSome best (λ found. found.1 ≤ rest → later ≡ best)
        → (IfSome best (λ found. rest < found.1) → later ≡ Some (i, rest))
        → IsBestFrom bin_size sections box n best → IfSome best (λ found. 0 < found.1)
        → IsBestFrom bin_size sections box i later × IfSome later (λ found. 0 < found.1)
    best-closer None later n next left kept taken h more = rw (taken tt) (best-here None tt (rw next at h), left)
    best-closer (Some found) later n next left kept taken h more = elim (cases_lt rest found.1) [
      | inl lt ↦ rw (taken lt) (best-here (Some found) lt (rw next at h), left)
      | inr le
          ↦ rw (kept (omega arith)) (older (omega arith) (rw next at h), more)
    ]
      where
        older : found.1 ≤ rest → IsBestFrom bin_size sections box (i + 1) (Some found) → IsBestFrom bin_size sections box i (Some found)
        older le (inside, at, before, after) = (
          inside,
          at,
          λ k d from short holds. elim (cases_lt i k) [
            | inl lt ↦ before k d (omega arith) short holds
            | inr ge
                ↦ let same : i ≡ k = omega arith in
                omega (arith, le, (here d).1, ap (λ n. least_rest bin_size (get_or sections n d) box) same)
          ],
          after,
        )

    -- the box leaves nothing of it, so no older section is better
    pub best-none_left : (best : Option (ℕ × ℕ)) (n : ℕ) → n ≡ i + 1 → rest ≡ 0 → IsBestFrom bin_size sections box n best
        → IfSome best (λ found. 0 < found.1) → IsBestFrom bin_size sections box 0 (Some (i, 0))
    best-none_left best n next none h more =
        let less : IfSome best (λ found. rest < found.1) = rw none more in
        let all : IsBestFrom bin_size sections box 0 (Some (i, rest)) =
        (within, here, λ k d from short holds. omega (arith, none), newer best less (rw next at h)) in
        rw none at all

  -- the section that the box fits best, by its index
  pub best_fit_at : (found : ℕ × ℕ) → IsBestFrom bin_size sections box 0 (Some found) → IsBestFitAt bin_size sections box found.0 found.1
  best_fit_at found h = at sections refl h
    where
      with_default : (d : Cuboid) → IsBestFrom bin_size sections box 0 (Some found) → IsBestFitAt bin_size sections box found.0 found.1
      with_default d (inside, at, before, after) =
          let i = found.0 in
          let long = length-take-le i sections (omega arith) in (
            get_or sections i d,
            record {
              before = take i sections;
              after = drop (suc i) sections;
              splits = split_at sections i d inside;
              held = (at d).0;
              older = λ k e short.
                  rw (get_or-take i sections k e (omega (arith, long)), ← (at d).1) (before k e (omega arith) (omega (arith, long)));
              newer = λ k e short. rw (get_or-drop, ← (at d).1) (after (suc i + k) e (omega arith) (omega (arith, length-drop (suc i) sections)));
            },
            long,
            (at d).1,
          )

      at : (xs : List Cuboid) → sections ≡ xs → IsBestFrom bin_size sections box 0 (Some found) → IsBestFitAt bin_size sections box found.0 found.1
      at [] is h = absurd (omega (arith, h.0, ap length is))
      at (x ∷ xs) is h = with_default x h

  -- the section that the box fits best, if there is one
  pub best_fit_found : (best : Option (ℕ × ℕ)) (i : ℕ) → i ≤ 0 → IsBestFrom bin_size sections box i best
      → IfSome best (λ found. IsBestFitAt bin_size sections box found.0 found.1)
  best_fit_found None i first h = tt
  best_fit_found (Some found) i first h =
      let zero : i ≡ 0 = omega arith in
      best_fit_at found (rw zero at h)

-- a section that moves to the end
pub moved_to_end : (before : List Cuboid) (s : Cuboid) (after : List Cuboid) → IsPermutation (before ++ s ∷ after) (before ++ after ++ s ∷ [])
moved_to_end before s after = rw append_assoc (IsPermutation-append_right before (s ∷ after) (after ++ s ∷ []) (IsPermutation-append_comm (s ∷ []) after))

module _ (may : Answers) (bin_size box : Size) (sections : List Cuboid) (i rest : ℕ) (at : IsBestFitAt bin_size sections box i rest) where
  -- the section there, and the list in which it stands last
  pub read_best : (d : Cuboid) → get_or sections i d ≡ at.0
  read_best d = ap (λ l. get_or l i d) at.1.splits ∙ rw (← at.2) (get_or-append_seam at.1.before at.0 at.1.after d)

  pub removed_best : remove sections i ≡ at.1.before ++ at.1.after
  removed_best =
      let before = at.1.before in
      let none : length before - length before ≡ 0 = omega arith in
      ap (λ l. remove l i) at.1.splits
      ∙ rw (← at.2) (remove-append_right before (at.0 ∷ at.1.after) (length before) (length before) refl (omega arith)
      ∙ ap (λ k. before ++ remove (at.0 ∷ at.1.after) k) none)

  abbrev pub last : List Cuboid
  last = at.1.before ++ at.1.after ++ at.0 ∷ []

  pub last_is : (kept all : List Cuboid) (s : Cuboid) → kept ≡ remove sections i → s ≡ at.0 → all ≡ kept ++ s ∷ [] → all ≡ last
  last_is kept all s is_kept is_best is_all =
      is_all ∙ rw (is_kept, is_best, removed_best) refl

  -- it has the same sections
  moved : IsPermutation sections last
  moved = rw at.1.splits (moved_to_end at.1.before at.0 at.1.after)

  pub All-last : (P : Cuboid → Type 0) → All P sections → All P last
  All-last P all = All-permutation P sections last moved all

  pub IsSound-last : (size : Size) → IsSound size sections → IsSound size last
  IsSound-last size sound = record {
    inside = All-last (IsInside size) sound.inside;
    apart = apart_from_counts last (λ c. omega (arith, filled-permutation c sections last moved, counts_from_apart c sections sound.apart));
  }

  -- they stay within numbers of 32 bits
  pub fits-last : (size : Size) → IsU32 size → All (IsInside size) sections → All FitsU32 last
  fits-last size small inside = All-last FitsU32 (All-weaker (IsInside size) FitsU32
      (λ s h. record { fits_x = omega (arith, small.wide); fits_y = omega (arith, small.high); fits_z = omega (arith, small.deep) })
      sections inside)

  -- a step there
  module _ (location : Cuboid) (left : List Cuboid) (step : IsStep may last box location left 1) where
    pub IsSound-placed : (size : Size) → IsSound size sections → IsSound size left
    IsSound-placed size sound =
        let done : IsDone may last (box ∷ []) (location ∷ []) left 1 = (left, 1, 0, step, (refl, refl, refl), refl) in
        IsSound-done may size last (box ∷ []) (location ∷ []) left 1 done (IsSound-last size sound)

    pub filled-best : (c : Cell) → times_filled c (location ∷ left) ≡ times_filled c sections
    filled-best c = omega (
      arith,
      filled-cons c location left,
      filled-permutation c sections last moved,
      filled-step may c last box location left 1 step,
    )

-- a box that is placed where it fits best: its bin's list and it fill each cell as often as the old list
pub filled-placed_best : (may : Answers) (c : Cell) (old : Bin) (box : Size) (location : Cuboid) (new : Bin) → IsPlacedBest may old box (Some location) new
    → times_filled c (location ∷ new.sections) ≡ times_filled c old.sections
filled-placed_best may c old box location new (best, fits, left, step, is) =
    ap (λ (b : Bin). times_filled c (location ∷ b.sections)) is
    ∙ filled-best may old.size box old.sections (length fits.before) (least_rest old.size best box) (best, fits, refl, refl) location left step c
