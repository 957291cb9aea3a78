-- Steps as they are told: what one of them comes to, and how they follow one another.
use Rattle.rectangle_pack_sections.proofs.Std.{◌≡◌, ℕ, ◌+◌, Bool, true, false, ◌||◌, List, [], ◌∷◌, ◌++◌, length, get_or, refl, sym, ◌∙◌, ap, subst, suc, ◌<◌, take, drop, arith, take_more, split_at, length-take-le}
use Rattle.rectangle_pack_sections.proofs.Std.{Ordering, Equal, Some, None, Option, IsSome, Result, Ok, Err, AllZip, lookup, is_at, unwrap_or, list_any, fun_ext, IsTotalOrder}
use Rattle.rectangle_pack_sections.proofs.Std.{append_assoc, append-nil, sum, sum_by-cons, length-append, set_value, keys-set_value, is_some, is_some-lookup, All-head, All-tail, or_comm}
use Rattle.rectangle_pack_sections.proofs.Std.{Equal-is, list_any_at, list_any_none}
use Rattle.std.proofs.lemmas.List.Folds.{Any-from_list_any, list_any-from_Any}
use Rattle.rectangle_pack_sections.specs.declared.group.Group.{Group}
use Rattle.rectangle_pack_sections.specs.Bins.{Bin}
use Rattle.rectangle_pack_sections.specs.Boxes.{Size, Cuboid}
use Rattle.rectangle_pack_sections.specs.Groups.{Collection, HaveSizes}
use Rattle.rectangle_pack_lists.specs.Steps.{IsDone, IsStuck}
use Rattle.rectangle_pack_packing.specs.declared.answer.Placement.{Placement}
use Rattle.rectangle_pack_packing.specs.declared.pack.told.Step.{Step}
use Rattle.rectangle_pack_packing.specs.declared.pack.told.StepFault.{StepFault}
use Rattle.rectangle_pack_packing.specs.declared.pack.told.StepFault.TheVariants.{UnknownGroup, UnknownBin, NamedTwice, Excluded, NoRoom}
use Rattle.rectangle_pack_packing.specs.declared.pack.told.ToldError.{ToldError}
use Rattle.rectangle_pack_packing.specs.declared.pack.told.ToldError.TheVariants.{StepRefused, NumbersUsedUp, OutOfMemory}
use Rattle.rectangle_pack_packing.specs.declared.answer.RectanglePackOk.{RectanglePackOk}
use Rattle.rectangle_pack_packing.specs.Best.{named_rules}
use Rattle.rectangle_pack_packing.specs.Packing.{Rules, Members, Stage, at_start, excludes_by, IsPlaced, IsStuckIn}
use Rattle.rectangle_pack_packing.specs.Placed.{AreNamed}
use Rattle.rectangle_pack_packing.specs.Told.{AreMembersOf, WasNamed, IsStepDone, AreStepsDone, HasFault, ToldDone, ToldRefused, IsToldAnswer, entries_in_steps}
use Rattle.rectangle_pack_packing.specs.private.BinsAtWork.{IsTriedIn}
use Rattle.rectangle_pack_packing.specs.private.Excluded.{bars}
use Rattle.rectangle_pack_packing.specs.private.ToldOnItsWay.{ToldOnItsWay, NamesAllBins, IsIndexOf, IsSameTelling, was_named, AreHomesNamed, AreItsMembers}
use Rattle.rectangle_pack_packing.specs.private.ToldOnItsWay.{IsPut, IsFaulty, collection_of, IsToldBegun, AreStepsMade, IsTold, IsTriedAsTold}
use Rattle.rectangle_pack_sections.proofs.lemmas.groups.Excluded.{is_at-equal, not-both}
use Rattle.rectangle_pack_sections.proofs.lemmas.util.Maps.{is_at-back, lookup-equal}
use Rattle.rectangle_pack_sections.proofs.lemmas.util.Searches.{some_of}
use Rattle.rectangle_pack_packing.proofs.lemmas.bins.BinsAtWork.{entry_at}
use Rattle.rectangle_pack_sections.proofs.lemmas.util.Zips.{length-zip}
use Rattle.rectangle_pack_packing.proofs.lemmas.packing.Excluded.{bars-none, bars-more}

module _ {Id B G : Type 0} (group_cmp : Group G Id → Group G Id → Ordering) (cmp : Id → Id → Ordering) (bin_cmp : B → B → Ordering)
    (all : Collection Id G) where
  -- one more step is done
  pub AreStepsDone-push : (steps : List (Step Id G B)) (step : Step Id G B) (old mid : Stage (Group G Id) B) (next : List (B × Bin))
      (placements added : List (Placement Id B)) → AreStepsDone group_cmp cmp bin_cmp all steps old placements mid
      → IsStepDone group_cmp cmp bin_cmp all step mid added next
      → AreStepsDone group_cmp cmp bin_cmp all (steps ++ step ∷ []) old (placements ++ added)
      (record { bins = next; homes = (step.group, step.bin) ∷ mid.homes })
  AreStepsDone-push [] step old mid next placements added done placed =
      subst (λ (s : Stage (Group G Id) B). AreStepsDone group_cmp cmp bin_cmp all (step ∷ []) s (placements ++ added)
      (record { bins = next; homes = (step.group, step.bin) ∷ mid.homes })) done.1
      (added, next, [], placed, (refl, refl), ap (λ ps. ps ++ added) done.0 ∙ sym (append-nil added))
  AreStepsDone-push (s ∷ steps) step old mid next placements added (first, between, later, here, others, joined) placed = (
    first,
    between,
    later ++ added,
    here,
    AreStepsDone-push steps step (record { bins = between; homes = (s.group, s.bin) ∷ old.homes }) mid next later added others placed,
    rw joined (append_assoc first later added),
  )

  -- and so is the next of a list
  pub AreStepsDone-turn : (steps : List (Step Id G B)) (i : ℕ) (step : Step Id G B) (old mid : Stage (Group G Id) B) (next : List (B × Bin))
      (placements added after : List (Placement Id B)) → i < length steps → step ≡ get_or steps i step → after ≡ placements ++ added
      → AreStepsDone group_cmp cmp bin_cmp all (take i steps) old placements mid → IsStepDone group_cmp cmp bin_cmp all step mid added next
      → AreStepsDone group_cmp cmp bin_cmp all (take (i + 1) steps) old after (record { bins = next; homes = (step.group, step.bin) ∷ mid.homes })
  AreStepsDone-turn steps i step old mid next placements added after within is joined done placed =
      let more : take (i + 1) steps ≡ take i steps ++ step ∷ [] = take_more steps i step within ∙ ap (λ s. take i steps ++ s ∷ []) (sym is) in
      rw (more, joined) (AreStepsDone-push (take i steps) step old mid next placements added done placed)

  -- a step that has a fault is refused, where those before it are done
  pub ToldRefused-at : (steps : List (Step Id G B)) (i : ℕ) (step : Step Id G B) (old : List (B × Bin)) (placements : List (Placement Id B))
      (stage : Stage (Group G Id) B) (fault : StepFault) → i < length steps → step ≡ get_or steps i step
      → AreStepsDone group_cmp cmp bin_cmp all (take i steps) (at_start old) placements stage → HasFault group_cmp cmp bin_cmp all step stage fault
      → ToldRefused group_cmp cmp bin_cmp all steps old i fault
  ToldRefused-at steps i step old placements stage fault within is done refused = record {
    before = take i steps;
    step = step;
    after = drop (suc i) steps;
    steps_are = split_at steps i step within ∙ ap (λ s. take i steps ++ s ∷ drop (suc i) steps) (sym is);
    index_is = sym (length-take-le i steps (omega (arith, within)));
    placements = placements;
    stage = stage;
    done = done;
    refused = refused;
  }

  -- a step that is done places each entry of its group
  placed-length : (step : Step Id G B) (old : Stage (Group G Id) B) (placements : List (Placement Id B)) (new : List (B × Bin))
      → IsStepDone group_cmp cmp bin_cmp all step old placements new
      → length placements ≡ length (unwrap_or (lookup (is_at (group_cmp step.group)) all.groups) [])
  placed-length step old placements new done =
      sym (length-zip _ done.members.ids placements done.placed.named.named)
      ∙ ap (λ (ids : Option (List Id)). length (unwrap_or ids [])) (sym done.known.ids)

  -- and so do all steps
  pub AreStepsDone-length : (steps : List (Step Id G B)) (old : Stage (Group G Id) B) (placements : List (Placement Id B)) (new : Stage (Group G Id) B)
      → AreStepsDone group_cmp cmp bin_cmp all steps old placements new → length placements ≡ entries_in_steps group_cmp all steps
  AreStepsDone-length [] old placements new done = ap length done.0
  AreStepsDone-length (step ∷ steps) old placements new (first, next, later, here, others, joined) =
      let one = placed-length step old first next here in
      let rest = AreStepsDone-length steps (record { bins = next; homes = (step.group, step.bin) ∷ old.homes }) later new others in
      let both = sum_by-cons (λ (s : Step Id G B). length (unwrap_or (lookup (is_at (group_cmp s.group)) all.groups) [])) step steps in
      ap length joined ∙ length-append first later ∙ rw (one, rest) (sym both)

-- the ids of a group have sizes
pub sizes-found : {Id : Type 0} (cmp : Id → Id → Ordering) (sizes : List (Id × Size)) (ids : List Id) → HaveSizes cmp sizes ids
    → (found : List Size) × AllZip (λ id size. lookup (is_at (cmp id)) sizes ≡ Some size) ids found
sizes-found cmp sizes [] h = ([], tt)
sizes-found {Id} cmp sizes (id ∷ ids) h =
    let P : Id → Type 0 = λ i. IsSome (lookup (is_at (cmp i)) sizes) in
    let one = some_of (lookup (is_at (cmp id)) sizes) (All-head P id ids h) in
    let rest = sizes-found cmp sizes ids (All-tail P id ids h) in
    (one.0 ∷ rest.0, (one.1, rest.1))

module _ {Id B : Type 0} (rules : Rules Id B) (o : IsTotalOrder rules.bin_cmp) (bin other : B) (same : rules.bin_cmp bin other ≡ Equal) where
  -- a group whose trial is done in a bin is placed there, where that is the only one that is tried
  pub IsPlaced-there : (excluded : B → Bool) (group : Members Id) (old new : List (B × Bin)) (v w : Bin) (locations : List Cuboid) (count : ℕ)
      (added : List (Placement Id B)) → excluded bin ≡ false → IsTriedIn rules.bin_cmp other old v w new
      → IsDone rules.may v.sections group.sizes locations w.sections count → AreNamed rules.id_cmp rules.bin_cmp group.ids bin locations added
      → IsPlaced rules excluded (bin ∷ []) group old added new (sum [] + count)
  IsPlaced-there excluded group old new v w locations count added allowed tried done named = record {
    before = [];
    here = bin;
    after = [];
    order_is = refl;
    counts = [];
    passed = tt;
    allowed = allowed;
    bin = v;
    found = lookup-equal o bin other same old ∙ tried.found;
    last = w.sections;
    locations = locations;
    count = count;
    done = done;
    named = named;
    new_is = tried.written
        ∙ ap (set_value (is_at (rules.bin_cmp other)) old) tried.rest
        ∙ ap (λ (t : B → Bool). set_value t old (record v { sections = w.sections })) (sym (fun_ext (λ z. is_at-equal o bin other z same)));
    tests_are = refl;
  }

  -- where its trial is stuck, the bin does not take it
  pub IsStuckIn-there : (group : Members Id) (old new : List (B × Bin)) (v w : Bin) (count : ℕ) → IsTriedIn rules.bin_cmp other old v w new
      → IsStuck rules.may v.sections group.sizes count → IsStuckIn rules old group bin count
  IsStuckIn-there group old new v w count tried stuck = rw (lookup-equal o bin other same old, tried.found) stuck

-- a write leaves the ids that are there
names-written : {B : Type 0} (bin_cmp : B → B → Ordering) (order : List (ℕ × B)) (old new : List (B × Bin)) (test : B → Bool) (bin : Bin)
    → new ≡ set_value test old bin → NamesAllBins bin_cmp order old → NamesAllBins bin_cmp order new
names-written bin_cmp order old new test bin written names id =
    ap (λ bins. is_some (lookup (is_at (bin_cmp id)) bins)) written ∙ is_some-lookup _ (set_value test old bin)
    ∙ ap (list_any (is_at (bin_cmp id))) (keys-set_value test old bin) ∙ sym (is_some-lookup _ old) ∙ names id

-- what is not there is not found
none_there : {X : Type 0} (found : Option X) → is_some found ≡ false → found ≡ None
none_there None h = refl
none_there (Some x) h = absurd cc

-- a bin whose id stands in the order is there
bin_there : {Id K B : Type 0} {bin_cmp : B → B → Ordering} (bin : B) (telling : ToldOnItsWay Id K B) → NamesAllBins bin_cmp telling.bins.order telling.bins.now
    → ((index : ℕ) × IsIndexOf bin_cmp telling.bins.order bin index) → (found : Bin) × (lookup (is_at (bin_cmp bin)) telling.bins.now ≡ Some found)
bin_there {bin_cmp = bin_cmp} bin telling names (index, at) =
    let entry = entry_at telling.bins.order index at.within in
    let here : is_at (bin_cmp bin) (get_or telling.bins.order index entry.0).1 ≡ true = rw (← entry.1) ((Equal-is _).1 (at.here entry.0 entry.1)) in
    some_of _ (names bin ∙ list_any_at (λ o. is_at (bin_cmp bin) o.1) telling.bins.order index entry.0 at.within here)

module _ {Id B G : Type 0} (group_cmp : Group G Id → Group G Id → Ordering) (cmp : Id → Id → Ordering) (bin_cmp : B → B → Ordering)
    (all : Collection Id G) where
  abbrev pub Told : Type 0
  Told = ToldOnItsWay Id (Group G Id) B

  -- the groups that it named, with the bins of their steps, the last first
  pub record IsAt (telling : Told) (homes : List (Group G Id × B)) : Type 0 where
    pub sizes : telling.sizes ≡ all.sizes
    pub lists : telling.lists ≡ all.groups
    pub partners : telling.homes.partners ≡ all.partners
    pub barred : bars group_cmp bin_cmp telling.homes ≡ excludes_by group_cmp bin_cmp all.partners homes
    pub named : (name : Group G Id) → was_named group_cmp telling name ≡ list_any (λ home. is_at (group_cmp name) home.0) homes
    pub kept : AreHomesNamed group_cmp bin_cmp telling
    pub bins : NamesAllBins bin_cmp telling.bins.order telling.bins.now

  abbrev pub stage_of : Told → List (Group G Id × B) → Stage (Group G Id) B
  stage_of telling homes = record { bins = telling.bins.now; homes = homes }

  -- before the first step none is named
  pub IsAt-begun : IsTotalOrder group_cmp → (telling : Told) → collection_of telling ≡ all → IsToldBegun bin_cmp telling → IsAt telling []
  IsAt-begun o telling of begun = record {
    sizes = ap (λ (c : Collection Id G). c.sizes) of;
    lists = ap (λ (c : Collection Id G). c.groups) of;
    partners = ap (λ (c : Collection Id G). c.partners) of;
    barred = bars-none group_cmp bin_cmp o all.partners telling.homes
        (ap (λ bins. record { partners = telling.homes.partners; bins = bins }) begun.homes
        ∙ ap (λ partners. record { partners = partners; bins = [] }) (ap (λ (c : Collection Id G). c.partners) of));
    named = λ name. rw begun.named refl;
    kept = λ name fresh id. rw begun.homes refl;
    bins = begun.bins;
  }

  members_are : (telling : Told) (homes : List (Group G Id × B)) (name : Group G Id) (members : Members Id) → IsAt telling homes
      → AreItsMembers group_cmp cmp bin_cmp telling name members → AreMembersOf group_cmp cmp bin_cmp all name members
  members_are telling homes name members at are = record { ids = rw (← at.lists) are.ids; sizes = rw (← at.sizes) are.sizes }

  not_named : (telling : Told) (homes : List (Group G Id × B)) (name : Group G Id) → IsAt telling homes → was_named group_cmp telling name ≡ false
      → ¬ WasNamed group_cmp cmp bin_cmp all name homes
  not_named telling homes name at fresh was =
      not-both _ (sym (at.named name) ∙ fresh) (list_any-from_Any (λ home. is_at (group_cmp name) home.0) homes was)

  -- a step that is made is done
  pub step-done : (step : Step Id G B) (old new : Told) (homes : List (Group G Id × B)) → IsAt old homes → was_named group_cmp old step.group ≡ false
      → (put : IsPut group_cmp cmp bin_cmp step.group step.bin step.heuristic old new)
      → IsStepDone group_cmp cmp bin_cmp all step (stage_of old homes) put.added new.bins.now
  step-done step old new homes at fresh put = record {
    members = put.members;
    known = members_are old homes step.group put.members at put.are_members;
    fresh = not_named old homes step.group at fresh;
    tests = put.tests;
    placed = subst (λ (f : Group G Id → B → Bool). IsPlaced (named_rules cmp bin_cmp step.heuristic) (f step.group) (step.bin ∷ []) put.members old.bins.now
        put.added new.bins.now put.tests) at.barred put.placed;
  }

  -- and its group is named with its bin
  pub IsAt-more : IsTotalOrder group_cmp → (step : Step Id G B) (old new : Told) (homes : List (Group G Id × B)) → IsAt old homes → IsSameTelling old new
      → IsPut group_cmp cmp bin_cmp step.group step.bin step.heuristic old new → IsAt new ((step.group, step.bin) ∷ homes)
  IsAt-more o step old new homes at same put = record {
    sizes = same.sizes ∙ at.sizes;
    lists = same.lists ∙ at.lists;
    partners = put.kept.partners ∙ at.partners;
    barred = bars-more group_cmp bin_cmp o all.partners homes old.homes new.homes step.group step.bin step.bin at.partners refl put.kept at.barred;
    named = λ name. put.named name
        ∙ or_comm (was_named group_cmp old name) (is_at (group_cmp name) step.group)
        ∙ ap (λ b. is_at (group_cmp name) step.group || b) (at.named name);
    kept = λ name fresh id.
        let apart = none-or _ _ (sym (put.named name) ∙ fresh) in
        put.kept.others name (is_at-back o step.group name ∙ apart.1) id ∙ at.kept name apart.0 id;
    bins = rw same.order (names-written bin_cmp old.bins.order old.bins.now new.bins.now _ _ put.placed.new_is at.bins);
  }
    where
      none-or : (a b : Bool) → (a || b) ≡ false → (a ≡ false) × (b ≡ false)
      none-or true b h = absurd cc
      none-or false b h = (refl, h)

  -- a step that is refused has the fault
  pub step-faulty : (step : Step Id G B) (telling : Told) (homes : List (Group G Id × B)) (fault : StepFault) → IsAt telling homes
      → IsFaulty group_cmp cmp bin_cmp step.group step.bin step.heuristic telling fault
      → HasFault group_cmp cmp bin_cmp all step (stage_of telling homes) fault
  step-faulty step telling homes UnknownGroup at h = rw (← at.lists) h
  step-faulty step telling homes UnknownBin at (known, none) = (
    known.0,
    members_are telling homes step.group known.0 at known.1,
    none_there _ (at.bins step.bin ∙ list_any_none (λ o. is_at (bin_cmp step.bin) o.1) telling.bins.order none),
  )
  step-faulty step telling homes NamedTwice at (known, there, was) =
      let found = bin_there step.bin telling at.bins there in (
        known.0,
        found.0,
        members_are telling homes step.group known.0 at known.1,
        found.1,
        Any-from_list_any (λ home. is_at (group_cmp step.group) home.0) homes (sym (at.named step.group) ∙ was),
      )
  step-faulty step telling homes Excluded at (known, there, fresh, barred) =
      let found = bin_there step.bin telling at.bins there in (
        known.0,
        found.0,
        members_are telling homes step.group known.0 at known.1,
        found.1,
        not_named telling homes step.group at fresh,
        sym (ap (λ (f : Group G Id → B → Bool). f step.group step.bin) at.barred) ∙ barred,
      )
  step-faulty step telling homes NoRoom at (fresh, allowed, stuck) = (
    stuck.members,
    stuck.tests,
    members_are telling homes step.group stuck.members at stuck.are_members,
    not_named telling homes step.group at fresh,
    sym (ap (λ (f : Group G Id → B → Bool). f step.group step.bin) at.barred) ∙ allowed,
    stuck.stuck,
  )

module _ {Id B G : Type 0} (group_cmp : Group G Id → Group G Id → Ordering) (cmp : Id → Id → Ordering) (bin_cmp : B → B → Ordering)
    (all : Collection Id G) (steps : List (Step Id G B)) (old : List (B × Bin)) (telling : ToldOnItsWay Id (Group G Id) B) where
  -- where the steps end without an error they are done
  pub told-ok : (told : Result (Unit {0}) ToldError) → AreStepsMade group_cmp cmp bin_cmp all steps old told telling
      → ((error : ToldError) → told ≡ Err error → ⊥) → ToldDone group_cmp cmp bin_cmp all steps old telling.placements telling.bins.now
  told-ok (Ok done) made no_error = made
  told-ok (Err error) made no_error = absurd (no_error error refl)

  -- an error is theirs, or memory was refused after them
  pub told-err : (A : Type 0) (told : Result (Unit {0}) ToldError) (error : ToldError) (finds : Bool) (new : List (B × Bin))
      → AreStepsMade group_cmp cmp bin_cmp all steps old told telling → ((theirs : ToldError) → told ≡ Err theirs → error ≡ theirs)
      → (told ≡ Ok tt → error ≡ OutOfMemory) → new ≡ old → IsTold group_cmp cmp bin_cmp all {A = A} steps old finds (Err error) new
  told-err A (Ok done) error finds new made theirs later same = rw (later refl) same
  told-err A (Err (StepRefused index fault)) error finds new made theirs later same = rw (theirs (StepRefused index fault) refl) (made, same)
  told-err A (Err NumbersUsedUp) error finds new made theirs later same = absurd made
  told-err A (Err OutOfMemory) error finds new made theirs later same = rw (theirs OutOfMemory refl) same
