-- What a session keeps of a packing as it is told, and what is promised of it.
use Rattle.rectangle_pack_sections.proofs.Std.{◌≡◌, ℕ, zero, suc, ◌+◌, ◌-◌, ◌==◌, Bool, true, false, ◌<◌, ◌^◌, List, [], ◌∷◌, ◌++◌, refl, ap, sym, ◌∙◌, subst, arith, length, length-append, append-nil, append_assoc}
use Rattle.rectangle_pack_sections.proofs.Std.{Result, Ok, Err, IsErrAnd, Ordering, IsTotalOrder}
use Rattle.rectangle_pack_sections.specs.declared.group.Group.{Group}
use Rattle.rectangle_pack_sections.specs.Groups.{Collection}
use Rattle.rectangle_pack_sections.specs.Bins.{Bin}
use Rattle.rectangle_pack_packing.specs.declared.answer.Placement.{Placement}
use Rattle.rectangle_pack_packing.specs.declared.pack.told.Step.{Step}
use Rattle.rectangle_pack_packing.specs.declared.pack.told.ToldError.{ToldError}
use Rattle.rectangle_pack_packing.specs.declared.pack.told.ToldError.TheVariants.{StepRefused, NumbersUsedUp, OutOfMemory}
use Rattle.rectangle_pack_packing.specs.private.ToldOnItsWay.{IsTriedAsTold}
use Rattle.rectangle_pack_packing.specs.Best.{named_rules}
use Rattle.rectangle_pack_packing.specs.Packing.{Stage, at_start, excludes_by}
use Rattle.rectangle_pack_packing.specs.Told.{AreStepsDone, ToldDone, entries_in_steps}
use Rattle.rectangle_pack_packing.proofs.lemmas.packing.StepsDone.{alone, told_whole, apart_told, named_once}
use Rattle.rectangle_pack.specs.declared.session.command.Outstanding.{Outstanding}
use Rattle.rectangle_pack.specs.declared.session.command.Packed.{Packed as PackedNumbers}
use Rattle.rectangle_pack.specs.Session.{State, IsSession, numbered}
use Rattle.rectangle_pack.specs.SessionTold.{PacksAsTold, ToldAsPromised}
use Rattle.rectangle_pack.proofs.lemmas.session.Keeps.{IsSession-packed}
use Rattle.rectangle_pack.proofs.lemmas.session.Numbering.{numbered-append}
use Rattle.rectangle_pack.proofs.lemmas.session.Packing.{state, unchanged}

-- a number that is not 0
pub positive : (n : ℕ) (b : Bool) → b ≡ (n == 0) → b ≡ false → 0 < n
positive zero b is none = absurd (let same : true ≡ false = sym is ∙ none in cc)
positive (suc n) b is none = omega arith

module _ {Id B G : Type 0} (group_cmp : Group G Id → Group G Id → Ordering) (cmp : Id → Id → Ordering) {bin_cmp : B → B → Ordering}
    (o : IsTotalOrder bin_cmp) (all : Collection Id G) where
  -- a session stays one after each step
  IsSession-steps : (steps : List (Step Id G B)) (old : Stage (Group G Id) B) (placements : List (Placement Id B)) (new : Stage (Group G Id) B)
      (outstanding : List (Outstanding Id B)) (first : ℕ) → AreStepsDone group_cmp cmp bin_cmp all steps old placements new
      → IsSession bin_cmp (state old.bins outstanding first)
      → IsSession bin_cmp (state new.bins (outstanding ++ numbered first placements) (first + length placements))
  IsSession-steps [] old placements new outstanding first h session =
      let same : first + length {0} {A = Placement Id B} [] ≡ first = omega arith in
      rw (h.0, h.1, append-nil outstanding, same) session
  IsSession-steps (step ∷ steps) old placements new outstanding first (here, next, later, done, rest, joined) session =
      let stage : Stage (Group G Id) B = record { bins = next; homes = (step.group, step.bin) ∷ old.homes } in
      let rules = named_rules cmp bin_cmp step.heuristic in
      let one = IsSession-packed rules o (excludes_by group_cmp bin_cmp all.partners) (step.bin ∷ []) ((step.group, done.members) ∷ []) old stage here
      (done.tests + 0) outstanding first (alone group_cmp cmp bin_cmp all step old here next done) session in
      let ih = IsSession-steps steps stage later new (outstanding ++ numbered first here) (first + length here) rest one in
      let count : first + length here + length later ≡ first + length (here ++ later) = omega (arith, length-append here later) in
      rw joined (subst (λ n. IsSession bin_cmp (state new.bins (outstanding ++ numbered first (here ++ later)) n)) count
      (subst (λ rs. IsSession bin_cmp (state new.bins rs (first + length here + length later)))
      (append_assoc outstanding (numbered first here) (numbered (first + length here) later)
      ∙ ap (λ rs. outstanding ++ rs) (sym (numbered-append first here later))) ih))

  pub IsSession-told : (steps : List (Step Id G B)) (bins now : List (B × Bin)) (placements : List (Placement Id B)) (outstanding later : List (Outstanding Id B))
      (first next : ℕ) → ToldDone group_cmp cmp bin_cmp all steps bins placements now → later ≡ outstanding ++ numbered first placements
      → next ≡ first + length placements
      → IsSession bin_cmp (state bins outstanding first) → IsSession bin_cmp (state now later next)
  IsSession-told steps bins now placements outstanding later first next told added counted session =
      rw (added, counted) (IsSession-steps steps (at_start bins) placements (record { bins = now; homes = told.homes }) outstanding first told.done session)

  -- what is answered is as promised
  pub told_promised : (steps : List (Step Id G B)) (old : State Id B) (result : Result PackedNumbers ToldError) (new : State Id B)
      → PacksAsTold group_cmp cmp bin_cmp all steps old result new → ToldAsPromised group_cmp cmp bin_cmp all steps old result new
  told_promised steps old (Ok numbers) new (fits, kept) =
      let last : Stage (Group G Id) B = record { bins = new.bins; homes = kept.done.homes } in
      record {
        placements = kept.placements;
        outstanding = kept.outstanding;
        whole = told_whole group_cmp cmp bin_cmp all steps (at_start old.bins) kept.placements last kept.done.done;
        once = named_once group_cmp cmp bin_cmp all steps (at_start old.bins) kept.placements last kept.done.done;
        apart = apart_told group_cmp cmp bin_cmp all o steps old.bins kept.placements last kept.done.done;
      }
  told_promised steps old (Err error) new h = tt

  -- without steps nothing is placed
  pub PacksAsTold-nothing : (steps : List (Step Id G B)) → length steps ≡ 0 → (bins : List (B × Bin)) (outstanding : List (Outstanding Id B)) (first next : ℕ)
      (old : State Id B) → state bins outstanding first ≡ old → next < 2 ^ 64 → next ≡ first + entries_in_steps group_cmp all steps
      → PacksAsTold group_cmp cmp bin_cmp all steps old (Ok (record { first = first; count = next - first })) old
  PacksAsTold-nothing [] none bins outstanding first next old is fits after =
      rw (← is) (
        subst (λ n. n < 2 ^ 64) after fits,
        record {
          placements = [];
          done = record { homes = []; done = (refl, refl) };
          counted = refl;
          first = refl;
          count = omega (arith, after);
          outstanding = sym (append-nil outstanding);
          next = omega arith;
        },
      )
  PacksAsTold-nothing (step ∷ steps) none bins outstanding first next old is fits after = absurd (omega (arith, none))

  -- where the trial is refused, all is as it was
  pub told-stopped : (steps : List (Step Id G B)) (bins now : List (B × Bin)) (outstanding later : List (Outstanding Id B)) (first next : ℕ)
      (error : ToldError) → IsTriedAsTold group_cmp cmp bin_cmp all {A = Unit {0}} steps bins (Err error) now → later ≡ outstanding
      → (old : State Id B) → state bins outstanding first ≡ old → next < 2 ^ 64 → next ≡ first + entries_in_steps group_cmp all steps
      → 0 < length steps → PacksAsTold group_cmp cmp bin_cmp all steps old (Err error) (state now later first)
  told-stopped steps bins now outstanding later first next (StepRefused index fault) tried same old is fits after some =
      rw (← is) (subst (λ n. n < 2 ^ 64) after fits, tried.0, unchanged bins now outstanding later first tried.1 same (state bins outstanding first) refl)
  told-stopped steps bins now outstanding later first next NumbersUsedUp tried same old is fits after some = absurd tried
  told-stopped steps bins now outstanding later first next OutOfMemory tried same old is fits after some =
      rw (← is) (subst (λ n. n < 2 ^ 64) after fits, some, unchanged bins now outstanding later first tried same (state bins outstanding first) refl)

  pub told-refused : (steps : List (Step Id G B)) (old new : State Id B) (error : ToldError) → PacksAsTold group_cmp cmp bin_cmp all steps old (Err error) new
      → (result : Result PackedNumbers ToldError) → IsErrAnd result (λ e. e ≡ error) → PacksAsTold group_cmp cmp bin_cmp all steps old result new
  told-refused steps old new error h (Ok x) failed = absurd failed
  told-refused steps old new error h (Err e) failed = subst (λ x. PacksAsTold group_cmp cmp bin_cmp all steps old (Err x) new) (sym failed) h

  -- so a session stays one
  pub IsSession-stopped : (steps : List (Step Id G B)) (bins now : List (B × Bin)) (outstanding later : List (Outstanding Id B)) (first : ℕ)
      (error : ToldError) → IsTriedAsTold group_cmp cmp bin_cmp all {A = Unit {0}} steps bins (Err error) now → later ≡ outstanding
      → IsSession bin_cmp (state bins outstanding first) → IsSession bin_cmp (state now later first)
  IsSession-stopped steps bins now outstanding later first (StepRefused index fault) tried same session = rw (same, tried.1) session
  IsSession-stopped steps bins now outstanding later first NumbersUsedUp tried same session = absurd tried
  IsSession-stopped steps bins now outstanding later first OutOfMemory tried same session = rw (same, tried) session

  -- what was tried is kept, with its placements behind the outstanding ones
  pub PacksAsTold-kept : (steps : List (Step Id G B)) (bins now : List (B × Bin)) (outstanding later : List (Outstanding Id B)) (first count next : ℕ)
      (placements : List (Placement Id B)) (old : State Id B) → state bins outstanding first ≡ old
      → next < 2 ^ 64 → ToldDone group_cmp cmp bin_cmp all steps bins placements now → length placements ≡ entries_in_steps group_cmp all steps
      → later ≡ outstanding ++ numbered first placements → next ≡ first + entries_in_steps group_cmp all steps → count ≡ entries_in_steps group_cmp all steps
      → PacksAsTold group_cmp cmp bin_cmp all steps old (Ok (record { first = first; count = count })) (state now later next)
  PacksAsTold-kept steps bins now outstanding later first count next placements old is fits told counted added after is_count =
      rw (← is) (
        subst (λ n. n < 2 ^ 64) after fits,
        record {
          placements = placements;
          done = told;
          counted = counted;
          first = refl;
          count = is_count;
          outstanding = added;
          next = after;
        },
      )
