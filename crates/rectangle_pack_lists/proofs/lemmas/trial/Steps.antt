-- What a step and a trial keep.
use Rattle.rectangle_pack_sections.proofs.Std.{◌≡◌, ℕ, ◌+◌, ◌≤◌, Bool, true, false, List, [], ◌∷◌, ◌++◌, length, arith, refl, ap, sym, subst, ◌∙◌}
use Rattle.rectangle_pack_sections.proofs.Std.{length-append, All, map, Result, Ok, Err, Some, None, if◌then◌else◌, AllZip, zip, IsPermutation, All-head, All-tail, All-append, All-filter}
use Rattle.rectangle_pack_sections.proofs.Std.{All-same, All-weaker, length-filter, count_by-le-length, IsPermutation-map, All-permutation, length_permutation}
use Rattle.rectangle_pack_sections.specs.Closures.{Answers}
use Rattle.rectangle_pack_sections.specs.Boxes.{Size, Cuboid, Cell, FitsU32, IsInside, IsPartOf, has_cells}
use Rattle.rectangle_pack_sections.specs.Bins.{IsSound}
use Rattle.rectangle_pack_sections.specs.Cuts.{placed}
use Rattle.rectangle_pack_sections.specs.CutTrees.{times_in, HaveSameBoxes}
use Rattle.rectangle_pack_sections.specs.Counting.{times_filled, AreAllApart}
use Rattle.rectangle_pack_sections.specs.Keeping.{KeepCells}
use Rattle.rectangle_pack_lists.specs.Steps.{AreLeft, IsStep, IsDone}
use Rattle.rectangle_pack_lists.specs.Trials.{IsTrial}
use Rattle.rectangle_pack_lists.specs.declared.trial.Trial.{Trial}
use Rattle.rectangle_pack_lists.specs.private.FreeLists.{IsTried}
use Rattle.rectangle_pack_sections.proofs.lemmas.util.Lists.{All-front, All-back}
use Rattle.rectangle_pack_sections.proofs.lemmas.cuts.Counting.{filled-append, filled-cons, filled-nil, apart_from_counts, counts_from_apart}
use Rattle.rectangle_pack_sections.proofs.lemmas.cuts.Counting.{KeepCells-from_counts, filled-filter, filled-permutation}
use Rattle.rectangle_pack_sections.proofs.lemmas.cuts.Pieces.{chosen_part, chosen_tiles, length-chosen}
use Rattle.rectangle_pack_lists.proofs.lemmas.trial.FallingRates.{IsPermutation-ranked}
use Rattle.rectangle_pack_sections.proofs.lemmas.cuts.SameBoxes.{HaveSameBoxes-filter}
use Rattle.rectangle_pack_sections.proofs.lemmas.cuts.Times.{times_in-permutation}

map-zip : (R : Cuboid → ℕ → Type 0) (cut : List Cuboid) (rates : List ℕ) → AllZip R cut rates → map (λ p. p.1) (zip rates cut) ≡ cut
map-zip R [] [] h = refl
map-zip R [] (r ∷ rates) h = absurd h
map-zip R (b ∷ cut) [] h = absurd h
map-zip R (b ∷ cut) (r ∷ rates) h = ap (λ bs. b ∷ bs) (map-zip R cut rates h.1)

module _ {MayRate : Size → ℕ → Type 0} (cut left : List Cuboid) (h : AreLeft MayRate cut left) where
  abbrev bs : List Cuboid
  bs = map (λ p. p.1) h.ranked

  -- the pieces in their order are those of the cut
  ordered : IsPermutation cut bs
  ordered = rw (map-zip (λ piece rate. MayRate piece.whd rate) cut h.rates h.rated)
      at (IsPermutation-map (λ p. p.1) (zip h.rates cut) h.ranked (IsPermutation-ranked (zip h.rates cut) h.ranked h.are_ranked))

  pub All-left : (P : Cuboid → Type 0) → All P cut → All P left
  All-left P all = All-same P left _ h.are (All-filter has_cells P bs (All-permutation P cut bs ordered all))

  pub length-left : length left ≤ length cut
  length-left = omega (arith, ap length h.are, length-filter has_cells bs, count_by-le-length has_cells bs, length_permutation cut bs ordered)

  -- what is left of a cut fills the same cells
  pub filled-left : (c : Cell) → times_filled c left ≡ times_filled c cut
  filled-left c = ap (times_filled c) h.are ∙ filled-filter c bs ∙ filled-permutation c cut bs ordered

  -- and it is the same boxes, those without cells aside
  pub HaveSameBoxes-left : HaveSameBoxes left cut
  HaveSameBoxes-left b cells = ap (times_in b) h.are ∙ HaveSameBoxes-filter bs b cells ∙ times_in-permutation b cut bs ordered

module _ (may : Answers) where
  -- what passes from a section to each part of it holds after a step
  pub IsStep-keeps : (P : Cuboid → Type 0) (sections : List Cuboid) (m : Size) (l : Cuboid) (next : List Cuboid) (n : ℕ)
      → ((b s : Cuboid) → IsPartOf b s → P s → P b)
      → IsStep may sections m l next n → All P sections → All P next
  IsStep-keeps P sections m l next n passes step h =
      let all : All P (step.before ++ step.section ∷ step.after) = All-same P _ sections (sym step.splits) h in
      let back : All P (step.section ∷ step.after) = All-back P step.before (step.section ∷ step.after) all in
      let here : P step.section = All-head P step.section step.after back in
      let pieces : All P step.cut = All-weaker (λ b. IsPartOf b step.section) P
      (λ b ends. passes b step.section ends here) step.cut (chosen_part step.section m step.cut step.held step.allowed) in
      All-same P next _ step.next_is
      (All-append P (step.before ++ step.after) step.left
      (All-append P step.before step.after (All-front P step.before (step.section ∷ step.after) all) (All-tail P step.section step.after back))
      (All-left {MayRate = may.rate} step.cut step.left step.are_left P pieces))

  pub IsStep-fits : (sections : List Cuboid) (m : Size) (l : Cuboid) (next : List Cuboid) (n : ℕ) → IsStep may sections m l next n
      → All FitsU32 sections → All FitsU32 next
  IsStep-fits sections m l next n = IsStep-keeps FitsU32 sections m l next n
      (λ b s ends fits. record { fits_x = omega arith; fits_y = omega arith; fits_z = omega arith })

  -- a step makes a list longer by at most two
  pub length-step : (sections : List Cuboid) (m : Size) (l : Cuboid) (next : List Cuboid) (n : ℕ) → IsStep may sections m l next n
      → length next ≤ length sections + 2
  length-step sections m l next n step =
      omega (
        arith,
        ap length step.next_is,
        ap length step.splits,
        length-left {MayRate = may.rate} step.cut step.left step.are_left,
        length-chosen step.section m step.cut step.allowed,
        length-append (step.before ++ step.after) step.left,
        length-append step.before step.after,
        length-append step.before (step.section ∷ step.after),
      )

  -- a step fills each cell as often as before, with the placed box
  pub filled-step : (c : Cell) (sections : List Cuboid) (m : Size) (l : Cuboid) (next : List Cuboid) (n : ℕ) → IsStep may sections m l next n
      → times_filled c next + times_filled c (l ∷ []) ≡ times_filled c sections
  filled-step c sections m l next n step =
      omega (
        arith,
        ap (times_filled c) step.next_is,
        ap (times_filled c) step.splits,
        filled-append c (step.before ++ step.after) step.left,
        filled-append c step.before step.after,
        filled-append c step.before (step.section ∷ step.after),
        filled-cons c step.section step.after,
        filled-left {MayRate = may.rate} step.cut step.left step.are_left c,
        (chosen_tiles step.section m step.cut step.held step.allowed).same c,
        filled-cons c (placed step.section m) step.cut,
        ap (λ b. times_filled c (b ∷ [])) step.location_is,
      )

  -- and so does a trial
  pub filled-done : (c : Cell) (sections : List Cuboid) (ms : List Size) (ls last : List Cuboid) (n : ℕ) → IsDone may sections ms ls last n
      → times_filled c last + times_filled c ls ≡ times_filled c sections
  filled-done c sections [] ls last n done = omega (arith, ap (times_filled c) done.0, ap (times_filled c) done.1, filled-nil c)
  filled-done c sections (m ∷ ms) [] last n done = absurd done
  filled-done c sections (m ∷ ms) (l ∷ ls) last n (next, one, others, step, done, count) =
      omega (arith, filled-step c sections m l next one step, filled-done c next ms ls last others done, filled-cons c l ls)

  pub IsDone-keeps : (P : Cuboid → Type 0) (sections : List Cuboid) (ms : List Size) (ls last : List Cuboid) (n : ℕ)
      → ((b s : Cuboid) → IsPartOf b s → P s → P b)
      → IsDone may sections ms ls last n → All P sections → All P last
  IsDone-keeps P sections [] ls last n passes done h = All-same P last sections done.1 h
  IsDone-keeps P sections (m ∷ ms) [] last n passes done h = absurd done
  IsDone-keeps P sections (m ∷ ms) (l ∷ ls) last n passes (next, one, others, step, done, count) h =
      IsDone-keeps P next ms ls last others passes done (IsStep-keeps P sections m l next one passes step h)

  -- a trial that is done leaves a sound list sound
  pub IsSound-done : (size : Size) (sections : List Cuboid) (ms : List Size) (ls last : List Cuboid) (n : ℕ) → IsDone may sections ms ls last n
      → IsSound size sections → IsSound size last
  IsSound-done size sections ms ls last n done sound = record {
    inside = IsDone-keeps (IsInside size) sections ms ls last n
        (λ b s part inside. record { within_x = omega arith; within_y = omega arith; within_z = omega arith }) done sound.inside;
    apart = apart_from_counts last (λ c. omega (arith, filled-done c sections ms ls last n done, counts_from_apart c sections sound.apart));
  }

  -- what a trial that is done keeps, every trial keeps: one that is stuck or out of memory leaves the list
  pub IsTrial-passes : (P : List Cuboid → Type 0) (sections : List Cuboid) (ms : List Size) (done : Bool) (ls last : List Cuboid) (n : ℕ)
      → IsTrial may sections ms (if done then Some ls else None) last n
      → ((m : ℕ) → IsDone may sections ms ls last m → P sections → P last) → P sections → P last
  IsTrial-passes P sections ms true ls last n trial passes h = passes n trial h
  IsTrial-passes P sections ms false ls last n trial passes h = subst P (sym trial.1) h

  pub trial_passes : {E : Type 0} (P : List Cuboid → Type 0) (sections : List Cuboid) (ms : List Size) (r : Result Trial E) (ls last : List Cuboid)
      → IsTried may sections ms r ls last
      → ((n : ℕ) → IsDone may sections ms ls last n → P sections → P last) → P sections → P last
  trial_passes P sections ms (Ok trial) ls last tried passes h = IsTrial-passes P sections ms trial.is_done ls last trial.tests tried passes h
  trial_passes P sections ms (Err error) ls last tried passes h = subst P (sym tried) h

  -- a trial leaves a sound list sound
  pub IsSound-tried : {E : Type 0} (size : Size) (sections : List Cuboid) (ms : List Size) (r : Result Trial E) (ls last : List Cuboid)
      → IsTried may sections ms r ls last → IsSound size sections → IsSound size last
  IsSound-tried size sections ms r ls last tried =
      trial_passes (IsSound size) sections ms r ls last tried (λ n. IsSound-done size sections ms ls last n)

  -- nor does it lead beyond numbers of 32 bits
  pub fits-tried : {E : Type 0} (sections : List Cuboid) (ms : List Size) (r : Result Trial E) (ls last : List Cuboid)
      → IsTried may sections ms r ls last → All FitsU32 sections → All FitsU32 last
  fits-tried sections ms r ls last tried =
      trial_passes (All FitsU32) sections ms r ls last tried
      (λ n done. IsDone-keeps FitsU32 sections ms ls last n
      (λ b s ends fits. record { fits_x = omega arith; fits_y = omega arith; fits_z = omega arith }) done)

  -- a trial that is done keeps the cells
  pub KeepCells-done : (sections : List Cuboid) (ms : List Size) (ls last : List Cuboid) (n : ℕ) → AreAllApart sections → IsDone may sections ms ls last n
      → KeepCells sections (last ++ ls)
  KeepCells-done sections ms ls last n apart done = KeepCells-from_counts sections (last ++ ls) apart
      (λ c. omega (arith, filled-append c last ls, filled-done c sections ms ls last n done))
