-- What a session's answer to a packing as it is told says of the lists of a C caller.
use Rattle.rectangle_pack_c.proofs.Std.{◌≡◌, ◌≢◌, ◌⊎◌, inl, inr, ℕ, ◌<◌, ◌^◌, ◌==◌, Bool, true, false, cond, ◌||◌, not, List, [], ◌∷◌, length, refl, ap}
use Rattle.rectangle_pack_c.proofs.Std.{sym, ◌∙◌, subst}
use Rattle.rectangle_pack_c.proofs.Std.{arith, get_or, All, Contains, None, Some, Option, MatchOption, Result, map, filter, slice_get}
use Rattle.rectangle_pack_c.proofs.Std.{nat_cmp, nat_cmp_total, nat_tests, nat_le, keys_of, lookup, is_at, list_any, IsDistinct-from_sorted, Ordering}
use Rattle.rectangle_pack_c.proofs.Std.{All-weaker, Contains-append_right, get_or_from_slice_get, slice_get_within}
use Rattle.std.proofs.Common.{Ok, Err, count_by, is_some}
use Rattle.rectangle_pack_sections.proofs.lemmas.util.Searches.{none_pass}
use Rattle.rectangle_pack_sections.specs.declared.box_size_heuristics.named.Heuristic.{Heuristic}
use Rattle.rectangle_pack_sections.specs.declared.box_size_heuristics.named.Heuristic.TheVariants.{Volume, Height, Width, Depth, SideSum, LongestSide, ShortestSide, SideArea}
use Rattle.rectangle_pack_packing.specs.declared.pack.told.Step.{Step}
use Rattle.rectangle_pack_packing.specs.declared.pack.told.StepFault.{StepFault}
use Rattle.rectangle_pack_packing.specs.declared.pack.told.StepFault.TheVariants.{UnknownGroup, UnknownBin, NamedTwice, Excluded, NoRoom}
use Rattle.rectangle_pack_packing.specs.declared.pack.told.ToldError.{ToldError}
use Rattle.rectangle_pack_packing.specs.declared.pack.told.ToldError.TheVariants.{StepRefused, NumbersUsedUp, OutOfMemory}
use Rattle.rectangle_pack_packing.specs.Packing.{Stage, at_start}
use Rattle.rectangle_pack_packing.specs.Told.{ToldDone, ToldRefused}
use Rattle.rectangle_pack_packing.specs.ToldLaws.{home_of, TellingsPlaceWhole}
use Rattle.rectangle_pack_packing.proofs.lemmas.packing.Frame.{IsFrame-recut, KeptBySteps-recut}
use Rattle.rectangle_pack_packing.proofs.lemmas.packing.Told.{changed-told, keys-told, known-told}
use Rattle.rectangle_pack_packing.proofs.lemmas.packing.ToldLaws.{tellings_place_whole, tellings_keep_apart}
use Rattle.rectangle_pack.specs.declared.grouped_rects_to_place.Group.{Group}
use Rattle.rectangle_pack.specs.declared.pack.Placement.{Placement}
use Rattle.rectangle_pack.specs.declared.session.command.Packed.{Packed}
use Rattle.rectangle_pack.specs.Bins.{Bin}
use Rattle.rectangle_pack.specs.Groups.{Collection}
use Rattle.rectangle_pack.specs.Session.{State, IsSession, numbered}
use Rattle.rectangle_pack.specs.SessionTold.{PacksAsTold, ToldAsPromised}
use Rattle.rectangle_pack_c.specs.declared.RpBin.{RpBin}
use Rattle.rectangle_pack_c.specs.declared.RpBox.{RpBox}
use Rattle.rectangle_pack_c.specs.declared.RpPlacement.{RpPlacement}
use Rattle.rectangle_pack_c.specs.declared.collection.RpCollection.{RpCollection}
use Rattle.rectangle_pack_c.specs.declared.collection.RpExclusion.{RpExclusion}
use Rattle.rectangle_pack_c.specs.declared.session.RpOutstanding.{RpOutstanding}
use Rattle.rectangle_pack_c.specs.declared.telling.RpRefused.{RpRefused}
use Rattle.rectangle_pack_c.specs.declared.telling.RpStep.{RpStep}
use Rattle.rectangle_pack_c.specs.Arguments.{new_bins}
use Rattle.rectangle_pack_c.specs.Collections.{IsCollected, all_boxes, are_as_many, fault_of, group_of, group_order}
use Rattle.rectangle_pack_c.specs.Fitting.{AreFitted, AreFittedNow, FitsApart, StandFittedApart}
use Rattle.rectangle_pack_c.specs.Fitting.{left_outstanding, left_placement, number_says_left, session_with}
use Rattle.rectangle_pack_c.specs.Heuristics.{all_heuristics, asked, heuristic_number}
use Rattle.rectangle_pack_c.specs.Telling.{AreSteps, IsStep, RefusesTelling, TellsCollection, TellsInto, TellsNewBins, TellsSession}
use Rattle.rectangle_pack_c.specs.Telling.{error_status, is_heuristic, not_named, step_fault, told_fault_of, told_status}
use Rattle.rectangle_pack_c.specs.private.Written.{as_outstanding, as_placement, AreWrittenAmong, NewAreWrittenAmong}
use Rattle.rectangle_pack_c.proofs.CollectedLemmas.{collected_held}
use Rattle.rectangle_pack_c.proofs.FaultLemmas.{IsSound, past, sound}
use Rattle.rectangle_pack_c.proofs.FittedLemmas.{IsKept, are_fitted_now, at_end, fit_apart, fit_done, fit_each, stand_fitted_apart}
use Rattle.rectangle_pack_c.proofs.PlacedLemmas.{StandsIn, found_and, no_box, stands_so}
use Rattle.rectangle_pack_c.proofs.StepLemmas.{left_not_named, named_or_left, steps_known}
use Rattle.rectangle_pack_c.proofs.WholeLemmas.{in_first, zip_left}

-- the number of each heuristic is known
number_known : (h : Heuristic) → is_heuristic (heuristic_number h) ≡ true
number_known Volume = refl
number_known Height = refl
number_known Width = refl
number_known Depth = refl
number_known SideSum = refl
number_known LongestSide = refl
number_known ShortestSide = refl
number_known SideArea = refl

none_passes : (p q : Heuristic → Bool) → ((h : Heuristic) → p h ≡ true → q h ≡ true) → (hs : List Heuristic) → filter q hs ≡ [] → list_any p hs ≡ false
none_passes p q more [] none = refl
none_passes p q more (h ∷ hs) none = by (q h) refl (p h) refl none (none_passes p q more hs)
  where
    by : (t : Bool) → q h ≡ t → (s : Bool) → p h ≡ s → cond t (h ∷ filter q hs) (filter q hs) ≡ [] → (filter q hs ≡ [] → list_any p hs ≡ false)
        → (p h || list_any p hs) ≡ false
    by true e s f none ih = absurd cc
    by false e true f none ih = absurd (let yes : q h ≡ true = more h f in cc)
    by false e false f none ih = rw (f, ih none) refl

-- a number for which there is no heuristic
number_unknown : (number : ℕ) → (asked number ≡ []) ⊎ (number ≡ 0xffff) → is_heuristic number ≡ false
number_unknown number (inl none) =
    none_passes (λ h. heuristic_number h == number) (λ h. (heuristic_number h == number) || (number == 0xffff))
    (λ h e. rw e refl) all_heuristics none
number_unknown number (inr best) = rw best refl

-- whether there is one
pub heuristic_seen : (number : ℕ) (o : Option Heuristic) → MatchOption o ((asked number ≡ []) ⊎ (number ≡ 0xffff))
    (λ one. (asked number ≡ one ∷ []) × (heuristic_number one ≡ number)) → is_some o ≡ is_heuristic number
heuristic_seen number None h = sym (number_unknown number h)
heuristic_seen number (Some one) h = sym (subst (λ n. is_heuristic n ≡ true) h.1 (number_known one))

-- arguments without a fault have none of those of a packing by volume; each step has a heuristic, and an index of a box or a member
pub record IsToldSound (c : RpCollection) (steps : List RpStep) (places : ℕ) : Type 0 where
  pub args : IsSound c 0 places
  pub heuristics : All (λ s. is_heuristic s.heuristic ≡ true) steps
  pub indices : All (λ s. s.index < length (all_boxes c)) steps

pub told_sound : (c : RpCollection) (steps : List RpStep) (places : ℕ) → told_fault_of c steps places ≡ 0 → IsToldSound c steps places
told_sound c steps places none =
    let some_member : Bool = list_any (λ m. nat_le (length c.boxes.now) m.index) c.members.now in
    let some_step : Bool = list_any (λ s. nat_le places s.index) steps in
    let (fits, second) = past (not (are_as_many c places)) 3 _ (omega arith) none in
    let (known, third) = past (list_any (λ s. not (is_heuristic s.heuristic)) steps) 10 _ (omega arith) second in
    let (named, fourth) = past (some_member || some_step) 11 _ (omega arith) third in
    let (differ, last) = past (list_any (λ e. e.one == e.other) c.exclusions.now) 12 0 (omega arith) fourth in
    let (members, indices) = neither some_member some_step named in
    let fault : fault_of c 0 places ≡ 0 = rw (fits, members, differ) refl in
    let args = sound c 0 places fault in
    record {
      args = args;
      heuristics = All-weaker (λ (s : RpStep). not (is_heuristic s.heuristic) ≡ false) (λ s. is_heuristic s.heuristic ≡ true)
          (λ s e. is_true (is_heuristic s.heuristic) e) steps (none_pass (λ (s : RpStep). not (is_heuristic s.heuristic)) steps known);
      indices = All-weaker (λ (s : RpStep). nat_le places s.index ≡ false) (λ s. s.index < length (all_boxes c))
          (λ s e. omega (arith, is_below places s.index e, args.as_many)) steps (none_pass (λ (s : RpStep). nat_le places s.index) steps indices);
    }
  where
    neither : (s t : Bool) → (s || t) ≡ false → (s ≡ false) × (t ≡ false)
    neither true t e = absurd cc
    neither false true e = absurd cc
    neither false false e = (refl, refl)

    is_true : (t : Bool) → not t ≡ false → t ≡ true
    is_true true e = refl
    is_true false e = absurd cc

    is_below : (a b : ℕ) → nat_le a b ≡ false → b < a
    is_below a b e = grind (arith, nat_tests)

-- where there are no boxes there are no steps
pub no_steps : (boxes : List RpBox) (steps : List RpStep) → All (λ s. s.index < length boxes) steps → length boxes ≡ 0 → length steps ≡ 0
no_steps boxes [] low none = refl
no_steps boxes (step ∷ steps) low none = absurd (omega (arith, low 0 step (omega arith), none))

pub none_named : (boxes : List RpBox) (told : List RpStep) (steps : List (Step ℕ ℕ ℕ)) → AreSteps boxes told steps → length told ≡ 0 → steps ≡ []
none_named boxes [] [] are none = refl
none_named boxes [] (step ∷ steps) are none = absurd are
none_named boxes (one ∷ told) steps are none = absurd (omega (arith, none))

-- the group of a box is in the collection
group_there : (boxes : List RpBox) (exclusions : List RpExclusion) (all : Collection ℕ ℕ) → IsCollected boxes exclusions all
    → (i : ℕ) (b : RpBox) → slice_get boxes i ≡ Some b → lookup (is_at (group_order (group_of i b))) all.groups ≢ None
group_there boxes exclusions all collected i b at none =
    let held = collected_held boxes exclusions no_box all collected in
    let is_b : get_or boxes i no_box ≡ b = get_or_from_slice_get boxes i b no_box at in
    let (ids, is, member) = found_and (λ ids. Contains ids i) _ (held.there i (slice_get_within boxes i b at)) in
    let both : Some ids ≡ None = sym is ∙ rw is_b none in
    absurd cc

-- so a step is refused for a reason that has a number
refused_for : (boxes : List RpBox) (exclusions : List RpExclusion) (all : Collection ℕ ℕ) → IsCollected boxes exclusions all
    → (told : List RpStep) (steps : List (Step ℕ ℕ ℕ)) → AreSteps boxes told steps → (bins : List (ℕ × Bin)) (index : ℕ) (fault : StepFault)
    → ToldRefused group_order nat_cmp nat_cmp all steps bins index fault → 0 < step_fault fault
refused_for boxes exclusions all collected told steps are bins index UnknownGroup h =
    let inside : Contains steps h.step = rw h.steps_are (Contains-append_right h.before (h.step ∷ h.after) h.step (in_first h.step h.after h.step refl)) in
    let (one, among, is) = zip_left (IsStep boxes) told steps are h.step inside in
    absurd (group_there boxes exclusions all collected one.index is.box is.at (rw (← is.group) h.refused))
refused_for boxes exclusions all collected told steps are bins index UnknownBin h = omega arith
refused_for boxes exclusions all collected told steps are bins index NamedTwice h = omega arith
refused_for boxes exclusions all collected told steps are bins index Excluded h = omega arith
refused_for boxes exclusions all collected told steps are bins index NoRoom h = omega arith

-- a packing as it is told that is refused, by cases on the error
pub refused_telling : (boxes : List RpBox) (exclusions : List RpExclusion) (all : Collection ℕ ℕ) → IsCollected boxes exclusions all
    → (told : List RpStep) (steps : List (Step ℕ ℕ ℕ)) → AreSteps boxes told steps → (error : ToldError) (old new : State ℕ ℕ)
    → PacksAsTold group_order nat_cmp nat_cmp all steps old (Err error) new → RefusesTelling boxes exclusions told old error new
refused_telling boxes exclusions all collected told steps are (StepRefused index fault) old new h = (
  record {
    all = all;
    collected = collected;
    named = steps;
    are = are;
    fault = fault;
    number = refl;
    has_number = refused_for boxes exclusions all collected told steps are old.bins index fault h.1;
    first = h.1;
  },
  h.2,
)
refused_telling boxes exclusions all collected told steps are NumbersUsedUp old new h =
    (record { all = all; collected = collected; named = steps; are = are; many = h.0 }, h.1)
refused_telling boxes exclusions all collected told steps are OutOfMemory old new h = h.2

-- it is never for a group that is not in the collection
pub never_unknown : (boxes : List RpBox) (exclusions : List RpExclusion) (told : List RpStep) (old new : State ℕ ℕ) (error : ToldError)
    → RefusesTelling boxes exclusions told old error new → (index : ℕ) → error ≢ StepRefused index UnknownGroup
never_unknown boxes exclusions told old new (StepRefused at UnknownGroup) h index e = absurd (omega (arith, h.0.has_number))
never_unknown boxes exclusions told old new (StepRefused at UnknownBin) h index e = absurd cc
never_unknown boxes exclusions told old new (StepRefused at NamedTwice) h index e = absurd cc
never_unknown boxes exclusions told old new (StepRefused at Excluded) h index e = absurd cc
never_unknown boxes exclusions told old new (StepRefused at NoRoom) h index e = absurd cc
never_unknown boxes exclusions told old new NumbersUsedUp h index e = absurd cc
never_unknown boxes exclusions told old new OutOfMemory h index e = absurd cc

-- a status says which error it was
pub never_done : (error : ToldError) → error_status error ≢ 0
never_done (StepRefused index fault) e = omega (arith, e)
never_done NumbersUsedUp e = omega (arith, e)
never_done OutOfMemory e = omega (arith, e)

pub is_memory : (error : ToldError) → error_status error ≡ 2 → error ≡ OutOfMemory
is_memory (StepRefused index fault) e = absurd (omega (arith, e))
is_memory NumbersUsedUp e = absurd (omega (arith, e))
is_memory OutOfMemory e = refl

-- what a session keeps of a packing as it is told
module _ (boxes : List RpBox) (exclusions : List RpExclusion) (all : Collection ℕ ℕ) (collected : IsCollected boxes exclusions all)
    (steps : List (Step ℕ ℕ ℕ)) (old new : State ℕ ℕ) (numbers : Packed)
    (packed : PacksAsTold group_order nat_cmp nat_cmp all steps old (Ok numbers) new) where
  abbrev pub kept_told : IsKept all (not_named all steps) old new
  kept_told =
      let kept = packed.1 in
      let laws : TellingsPlaceWhole group_order nat_cmp nat_cmp = tellings_place_whole group_order nat_cmp nat_cmp in
      let whole = laws.whole all steps old.bins new.bins kept.placements kept.done in
      record {
        placements = kept.placements;
        outstanding = kept.outstanding;
        homes = map home_of steps;
        groups = named_or_left all (IsDistinct-from_sorted group_order (keys_of all.groups) collected.ascend) steps
            (laws.once all steps old.bins new.bins kept.placements kept.done) (steps_known all steps kept.placements whole) (not_named all steps)
            (left_not_named all steps);
        whole = whole;
        apart = tellings_keep_apart group_order nat_cmp nat_cmp nat_cmp_total all steps old.bins new.bins kept.placements kept.done;
      }

-- what is told into new bins stands in them
told_stands : (bins : List RpBin) (all : Collection ℕ ℕ) (steps : List (Step ℕ ℕ ℕ)) (placements : List (Placement ℕ ℕ)) (after : List (ℕ × Bin))
    → ToldDone group_order nat_cmp nat_cmp all steps (new_bins bins) placements after
    → (q : Placement ℕ ℕ) → Contains placements q → StandsIn bins placements after q
told_stands bins all steps placements after told q inside =
    let last : Stage (Group ℕ ℕ) ℕ = record { bins = after; homes = told.homes } in
    stands_so bins placements after q inside
    (keys-told group_order nat_cmp nat_cmp all steps (at_start (new_bins bins)) placements last told.done)
    (known-told group_order nat_cmp nat_cmp all nat_cmp_total steps (at_start (new_bins bins)) placements last told.done)
    (λ before was. changed-told group_order nat_cmp nat_cmp all IsFrame-recut nat_cmp_total (λ h. KeptBySteps-recut _) steps (at_start (new_bins bins))
    placements last told.done q.bin before was)

-- what is written of a packing as it is told whose answer is known
module _ (boxes : List RpBox) (exclusions : List RpExclusion) (steps : List RpStep) (old new : State ℕ ℕ)
    (tells : TellsCollection boxes exclusions steps old new) (outs : List RpOutstanding)
    (written : NewAreWrittenAmong as_outstanding left_outstanding old new outs) (as_many : length outs ≡ length boxes) where
  abbrev left : List (Group ℕ ℕ)
  left = not_named tells.all tells.named

  abbrev kept : IsKept tells.all left old new
  kept = kept_told boxes exclusions tells.all tells.collected tells.named old new tells.numbers tells.packed

  pub told_written : IsSession nat_cmp new → new.next < 2 ^ 64
      → AreFittedNow boxes outs (not_named tells.all tells.named) (count_by number_says_left outs) old new
  told_written always below =
      are_fitted_now boxes exclusions tells.all tells.collected left old new kept outs
      (at_end boxes exclusions tells.all tells.collected left old new kept outs written) as_many always below (count_by number_says_left outs) refl

  pub told_written_apart : All (λ e. e.one ≢ e.other) exclusions → StandFittedApart boxes exclusions outs
  told_written_apart differ =
      stand_fitted_apart boxes exclusions tells.all tells.collected left old new kept outs
      (at_end boxes exclusions tells.all tells.collected left old new kept outs written) as_many differ

-- all that is said of a call whose session began with these bins
pub record IsToldAnswered (bins : List RpBin) (boxes : List RpBox) (exclusions : List RpExclusion) (steps : List RpStep)
    (placements : List RpPlacement) : Type 0 where
  pub packed : TellsNewBins bins boxes exclusions steps placements
  pub done : AreFitted bins boxes placements
  pub apart : FitsApart boxes exclusions placements

pub told_answered : (bins : List RpBin) (boxes : List RpBox) (exclusions : List RpExclusion) (steps : List RpStep) (old new : State ℕ ℕ)
    → old ≡ session_with bins → TellsCollection boxes exclusions steps old new
    → (placements : List RpPlacement) → NewAreWrittenAmong as_placement left_placement old new placements → length placements ≡ length boxes
    → All (λ e. e.one ≢ e.other) exclusions → length bins < 2 ^ 32 → IsToldAnswered bins boxes exclusions steps placements
told_answered bins boxes exclusions steps old new was tells placements written as_many differ few =
    let here = subst (λ (o : State ℕ ℕ). TellsCollection boxes exclusions steps o new) was tells in
    let there = subst (λ (o : State ℕ ℕ). NewAreWrittenAmong as_placement left_placement o new placements) was written in
    by here there
  where
    by : TellsCollection boxes exclusions steps (session_with bins) new → NewAreWrittenAmong as_placement left_placement (session_with bins) new placements
        → IsToldAnswered bins boxes exclusions steps placements
    by t w =
        let left = not_named t.all t.named in
        let made : IsKept t.all left (session_with bins) new =
        kept_told boxes exclusions t.all t.collected t.named (session_with bins) new t.numbers t.packed in
        let stands = told_stands bins t.all t.named t.packed.1.placements new.bins t.packed.1.done in
        let at_end : AreWrittenAmong as_placement left_placement (numbered 0 made.placements) placements =
        subst (λ rs. AreWrittenAmong as_placement left_placement rs placements) made.outstanding w in
        record {
          packed = record {
            after = new;
            tells = t;
            each = fit_each bins few boxes exclusions t.all t.collected left new made stands placements at_end as_many;
          };
          done = fit_done bins few boxes exclusions t.all t.collected left new made stands placements at_end as_many;
          apart = fit_apart bins few boxes exclusions t.all t.collected left new made stands placements at_end as_many differ;
        }

-- a call told the session that a handle has: what taking it out, the call and putting it back say of it
pub told_so : {boxes : List RpBox} {exclusions : List RpExclusion} {steps : List RpStep} {placements : List RpOutstanding} {refused : RpRefused}
    {old new : Option (State ℕ ℕ)} {taken before after : State ℕ ℕ} {status : ℕ} (answer : Result Packed ToldError)
    → old ≡ Some taken → before ≡ taken → new ≡ Some after → status ≡ told_status answer
    → TellsInto boxes exclusions steps placements refused before answer after
    → IsSession nat_cmp after → TellsSession boxes exclusions steps placements refused old status new
told_so {before} {after} answer had held has is changed always = record {
  before = before;
  after = after;
  answer = answer;
  had = had ∙ ap (λ s. Some s) (sym held);
  has = has;
  status_is = is;
  changed = changed;
  always = always;
}

-- what the library says in its order of groups
module _ (R : Group ℕ ℕ → Group ℕ ℕ → Ordering) (same : R ≡ group_order) (all : Collection ℕ ℕ) (steps : List (Step ℕ ℕ ℕ)) (old new : State ℕ ℕ)
    (result : Result Packed ToldError) where
  pub told_ordered : PacksAsTold R nat_cmp nat_cmp all steps old result new → PacksAsTold group_order nat_cmp nat_cmp all steps old result new
  told_ordered h = subst (λ r. PacksAsTold r nat_cmp nat_cmp all steps old result new) same h

  pub told_promise_ordered : ToldAsPromised R nat_cmp nat_cmp all steps old result new → ToldAsPromised group_order nat_cmp nat_cmp all steps old result new
  told_promise_ordered h = subst (λ r. ToldAsPromised r nat_cmp nat_cmp all steps old result new) same h
