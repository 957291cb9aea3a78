-- Steps that are told twice, of one collection and in the same bins: they have one result.
use Rattle.rectangle_pack_sections.proofs.Std.{◌≡◌, ℕ, suc, List, [], ◌∷◌, ◌++◌, refl, sym, ◌∙◌, ap, subst, arith, true, false, Option, Some, None, IsSomeAnd, length}
use Rattle.rectangle_pack_sections.proofs.Std.{AllZip, Ordering, Equal, IsTotalOrder, lookup, values_of, is_at, tied_itself, All-contains_itself, append-nil}
use Rattle.rectangle_pack_sections.specs.declared.group.Group.{Group}
use Rattle.rectangle_pack_sections.specs.Bins.{Bin}
use Rattle.rectangle_pack_sections.specs.Boxes.{Size}
use Rattle.rectangle_pack_sections.specs.Groups.{Collection}
use Rattle.rectangle_pack_lists.specs.Steps.{IsStuck}
use Rattle.rectangle_pack_packing.specs.declared.answer.Placement.{Placement}
use Rattle.rectangle_pack_packing.specs.declared.pack.told.Step.{Step}
use Rattle.rectangle_pack_packing.specs.declared.pack.told.StepFault.{StepFault}
use Rattle.rectangle_pack_packing.specs.declared.pack.told.StepFault.TheVariants.{UnknownGroup, UnknownBin, NamedTwice, Excluded, NoRoom}
use Rattle.rectangle_pack_packing.specs.Best.{named_rules}
use Rattle.rectangle_pack_packing.specs.Packing.{Members, Stage, at_start, IsStuckIn}
use Rattle.rectangle_pack_packing.specs.Results.{ArePlacementsAlike}
use Rattle.rectangle_pack_packing.specs.Told.{AreMembersOf, IsStepDone, AreStepsDone, HasFault}
use Rattle.rectangle_pack_packing.specs.ToldLaws.{home_of, HaveOneTelling}
use Rattle.rectangle_pack_sections.proofs.lemmas.util.Maps.{same_keys}
use Rattle.rectangle_pack_sections.proofs.lemmas.util.Zips.{AllZip-append, AllZip-itself, AllZip-join}
use Rattle.rectangle_pack_packing.proofs.lemmas.best.Whole.{named_decides}
use Rattle.rectangle_pack_packing.proofs.lemmas.determinism.OnePacking.{named_once, found_met, bins_met}
use Rattle.rectangle_pack_packing.proofs.lemmas.determinism.OneTrial.{one_trial, not_done_and_stuck}
use Rattle.rectangle_pack_packing.proofs.lemmas.packing.StepsDone.{only_one}

-- ids have one list of sizes
sizes_once : {Id : Type 0} (cmp : Id → Id → Ordering) (sizes : List (Id × Size)) (ids : List Id) (xs ys : List Size)
    → AllZip (λ id size. lookup (is_at (cmp id)) sizes ≡ Some size) ids xs → AllZip (λ id size. lookup (is_at (cmp id)) sizes ≡ Some size) ids ys → xs ≡ ys
sizes_once cmp sizes [] [] [] h k = refl
sizes_once cmp sizes [] (x ∷ xs) ys h k = absurd h
sizes_once cmp sizes [] [] (y ∷ ys) h k = absurd k
sizes_once cmp sizes (id ∷ ids) [] ys h k = absurd h
sizes_once cmp sizes (id ∷ ids) (x ∷ xs) [] h k = absurd k
sizes_once cmp sizes (id ∷ ids) (x ∷ xs) (y ∷ ys) h k =
    let one : Some x ≡ Some y = sym h.0 ∙ k.0 in
    let others = sizes_once cmp sizes ids xs ys h.1 k.1 in
    cc

module _ {Id B G : Type 0} (group_cmp : Group G Id → Group G Id → Ordering) (cmp : Id → Id → Ordering) (bin_cmp : B → B → Ordering)
    (total : IsTotalOrder cmp) (bin_total : IsTotalOrder bin_cmp) (all : Collection Id G) where
  abbrev Done : Step Id G B → Stage (Group G Id) B → List (Placement Id B) → List (B × Bin) → Type 0
  Done step old placements new = IsStepDone group_cmp cmp bin_cmp all step old placements new

  abbrev AreDone : List (Step Id G B) → Stage (Group G Id) B → List (Placement Id B) → Stage (Group G Id) B → Type 0
  AreDone steps old placements new = AreStepsDone group_cmp cmp bin_cmp all steps old placements new

  abbrev Faulty : Step Id G B → Stage (Group G Id) B → StepFault → Type 0
  Faulty step stage fault = HasFault group_cmp cmp bin_cmp all step stage fault

  abbrev Members_of : Group G Id → Members Id → Type 0
  Members_of name members = AreMembersOf group_cmp cmp bin_cmp all name members

  -- a group has one list of ids, and of sizes
  ids_once : (name : Group G Id) (a b : Members Id) → Members_of name a → Members_of name b → a.ids ≡ b.ids
  ids_once name a b h k = let e : Some a.ids ≡ Some b.ids = sym h.ids ∙ k.ids in cc

  members_once : (name : Group G Id) (a b : Members Id) → Members_of name a → Members_of name b → a.sizes ≡ b.sizes
  members_once name a b h k = sizes_once cmp all.sizes a.ids a.sizes b.sizes h.sizes (rw (ids_once name a b h k) k.sizes)

  module _ (step : Step Id G B) (old : Stage (Group G Id) B) where
    here_is : (placements : List (Placement Id B)) (new : List (B × Bin)) → (d : Done step old placements new) → d.placed.here ≡ step.bin
    here_is placements new d = only_one step.bin d.placed.before d.placed.here d.placed.after d.placed.order_is

    found_at : (placements : List (Placement Id B)) (new : List (B × Bin)) → (d : Done step old placements new)
        → lookup (is_at (bin_cmp step.bin)) old.bins ≡ Some d.placed.bin
    found_at placements new d = rw (here_is placements new d) at d.placed.found

    -- a step that is done twice is done in one way
    step_once : (ps qs : List (Placement Id B)) (m n : List (B × Bin)) → Done step old ps m → Done step old qs n
        → (m ≡ n) × ArePlacementsAlike cmp bin_cmp ps qs
    step_once ps qs m n d e =
        let p = d.placed in
        let q = e.placed in
        let rules = named_rules cmp bin_cmp step.heuristic in
        let boxes = d.members.sizes in
        let bins = values_of old.bins in
        let decide = named_decides boxes bins step.heuristic in
        let bin : Some p.bin ≡ Some q.bin = sym (found_at ps m d) ∙ found_at qs n e in
        let is : q.bin ≡ p.bin = cc in
        let sizes : e.members.sizes ≡ d.members.sizes = members_once step.group e.members d.members e.known d.known in
        let trial = one_trial boxes bins rules.may decide p.bin.sections boxes p.locations q.locations p.last q.last p.count q.count
        (found_met bin_cmp bins old.bins step.bin p.bin (found_at ps m d) (bins_met bins)) (All-contains_itself boxes) p.done (rw (is, sizes) at q.done) in
        let tied : AllZip (λ x y. cmp x y ≡ Equal) d.members.ids e.members.ids =
        rw (ids_once step.group d.members e.members d.known e.known) (AllZip-itself _ (tied_itself total) e.members.ids) in
        let ids = AllZip-join (λ x y. cmp x y ≡ Equal) (λ id p. cmp id p.id ≡ Equal) (λ id q. cmp id q.id ≡ Equal)
        (λ p q. cmp p.id q.id ≡ Equal) (λ x y p q. same_keys total x y p.id q.id) d.members.ids e.members.ids ps qs tied p.named.named q.named.named in
        let home : bin_cmp p.here q.here ≡ Equal = rw (here_is ps m d, here_is qs n e) (tied_itself bin_total step.bin) in (
          rw (p.new_is, q.new_is, here_is ps m d, here_is qs n e, is, trial.left) refl,
          named_once rules boxes bins decide total bin_total p.here q.here ps qs home ids p.named.together q.named.together
              (p.named.at ∙ trial.placed ∙ sym q.named.at),
        )

    -- a step that is done has no fault
    not_done_and_faulty : (placements : List (Placement Id B)) (new : List (B × Bin)) (fault : StepFault) → Done step old placements new
        → Faulty step old fault → ⊥
    not_done_and_faulty placements new UnknownGroup d none =
        let e : None ≡ Some d.members.ids = sym none ∙ d.known.ids in
        absurd cc
    not_done_and_faulty placements new UnknownBin d (members, known, none) =
        let e : None ≡ Some d.placed.bin = sym none ∙ found_at placements new d in
        absurd cc
    not_done_and_faulty placements new NamedTwice d (members, bin, known, found, was) = d.fresh was
    not_done_and_faulty placements new Excluded d (members, bin, known, found, fresh, barred) =
        let e : true ≡ false = sym barred ∙ (rw (here_is placements new d) at d.placed.allowed) in
        absurd cc
    not_done_and_faulty placements new NoRoom d (members, tests, known, fresh, free, stuck) =
        let p = d.placed in
        let rules = named_rules cmp bin_cmp step.heuristic in
        let boxes = d.members.sizes in
        let bins = values_of old.bins in
        let there : IsStuck rules.may p.bin.sections members.sizes tests =
        subst (λ (x : Option Bin). IsSomeAnd x (λ (b : Bin). IsStuck rules.may b.sections members.sizes tests)) (found_at placements new d) stuck in
        not_done_and_stuck boxes bins rules.may (named_decides boxes bins step.heuristic) p.bin.sections boxes p.locations p.last p.count tests
        (found_met bin_cmp bins old.bins step.bin p.bin (found_at placements new d) (bins_met bins)) (All-contains_itself boxes) p.done
        (rw (members_once step.group members d.members known d.known) at there)

    -- of two faults that are both the first, none is before the other
    group_known : (members : Members Id) → Members_of step.group members → Faulty step old UnknownGroup → ⊥
    group_known members known none =
        let e : None ≡ Some members.ids = sym none ∙ known.ids in
        absurd cc

    bin_known : (bin : Bin) → lookup (is_at (bin_cmp step.bin)) old.bins ≡ Some bin → Faulty step old UnknownBin → ⊥
    bin_known bin found (members, known, none) =
        let e : None ≡ Some bin = sym none ∙ found in
        absurd cc

    stuck_known : (members : Members Id) (tests : ℕ) → IsStuckIn (named_rules cmp bin_cmp step.heuristic) old.bins members step.bin tests
        → Faulty step old UnknownBin → ⊥
    stuck_known members tests stuck (others, known, none) =
        subst (λ (x : Option Bin). IsSomeAnd x (λ (b : Bin). IsStuck (named_rules cmp bin_cmp step.heuristic).may b.sections members.sizes tests)) none stuck

    one_fault : (first second : StepFault) → Faulty step old first → Faulty step old second → first ≡ second
    one_fault UnknownGroup UnknownGroup h k = refl
    one_fault UnknownGroup UnknownBin none (members, known, no_bin) = absurd (group_known members known none)
    one_fault UnknownGroup NamedTwice none (members, bin, known, found, was) = absurd (group_known members known none)
    one_fault UnknownGroup Excluded none (members, bin, known, found, fresh, barred) = absurd (group_known members known none)
    one_fault UnknownGroup NoRoom none (members, tests, known, fresh, free, stuck) = absurd (group_known members known none)
    one_fault UnknownBin UnknownGroup (members, known, no_bin) none = absurd (group_known members known none)
    one_fault UnknownBin UnknownBin h k = refl
    one_fault UnknownBin NamedTwice h (members, bin, known, found, was) = absurd (bin_known bin found h)
    one_fault UnknownBin Excluded h (members, bin, known, found, fresh, barred) = absurd (bin_known bin found h)
    one_fault UnknownBin NoRoom h (members, tests, known, fresh, free, stuck) = absurd (stuck_known members tests stuck h)
    one_fault NamedTwice UnknownGroup (members, bin, known, found, was) none = absurd (group_known members known none)
    one_fault NamedTwice UnknownBin (members, bin, known, found, was) h = absurd (bin_known bin found h)
    one_fault NamedTwice NamedTwice h k = refl
    one_fault NamedTwice Excluded (members, bin, known, found, was) (others, other, same, at, fresh, barred) = absurd (fresh was)
    one_fault NamedTwice NoRoom (members, bin, known, found, was) (others, tests, same, fresh, free, stuck) = absurd (fresh was)
    one_fault Excluded UnknownGroup (members, bin, known, found, fresh, barred) none = absurd (group_known members known none)
    one_fault Excluded UnknownBin (members, bin, known, found, fresh, barred) h = absurd (bin_known bin found h)
    one_fault Excluded NamedTwice (others, other, same, at, fresh, barred) (members, bin, known, found, was) = absurd (fresh was)
    one_fault Excluded Excluded h k = refl
    one_fault Excluded NoRoom (members, bin, known, found, fresh, barred) (others, tests, same, new, free, stuck) = absurd (let e : true ≡ false = sym barred ∙ free in cc)
    one_fault NoRoom UnknownGroup (members, tests, known, fresh, free, stuck) none = absurd (group_known members known none)
    one_fault NoRoom UnknownBin (members, tests, known, fresh, free, stuck) h = absurd (stuck_known members tests stuck h)
    one_fault NoRoom NamedTwice (others, tests, same, fresh, free, stuck) (members, bin, known, found, was) = absurd (fresh was)
    one_fault NoRoom Excluded (others, tests, same, new, free, stuck) (members, bin, known, found, fresh, barred) = absurd (let e : true ≡ false = sym barred ∙ free in cc)
    one_fault NoRoom NoRoom h k = refl

  -- steps stop behind the last one, or at one that has a fault
  abbrev Halts : Stage (Group G Id) B → List (Step Id G B) → Type 0
  Halts stage [] = Unit {0}
  Halts stage (step ∷ steps) = (fault : StepFault) × Faulty step stage fault

  -- told twice, equally many steps are done, in one way
  steps_once : (b1 b2 l1 l2 : List (Step Id G B)) (old m n : Stage (Group G Id) B) (ps qs : List (Placement Id B)) → b1 ++ l1 ≡ b2 ++ l2
      → AreDone b1 old ps m → Halts m l1 → AreDone b2 old qs n → Halts n l2
      → (m ≡ n) × ArePlacementsAlike cmp bin_cmp ps qs × (l1 ≡ l2) × (length b1 ≡ length b2)
  steps_once [] [] l1 l2 old m n ps qs same p p_halts q q_halts = (p.1 ∙ sym q.1, rw (p.0, q.0) tt, same, refl)
  steps_once [] (b ∷ b2) [] l2 old m n ps qs same p p_halts q q_halts = absurd (omega (arith, ap length same))
  steps_once [] (b ∷ b2) (a ∷ l1) l2 old m n ps qs same p (fault, faulty) (first, next, later, done, rest, joined) q_halts =
      let is : a ≡ b = cc in
      absurd (not_done_and_faulty b old first next fault done (rw (is, p.1) at faulty))
  steps_once (a ∷ b1) [] l1 [] old m n ps qs same p p_halts q q_halts = absurd (omega (arith, ap length same))
  steps_once (a ∷ b1) [] l1 (b ∷ l2) old m n ps qs same (first, next, later, done, rest, joined) p_halts q (fault, faulty) =
      let is : b ≡ a = cc in
      absurd (not_done_and_faulty a old first next fault done (rw (is, q.1) at faulty))
  steps_once (a ∷ b1) (b ∷ b2) l1 l2 old m n ps qs same (first1, next1, later1, done1, rest1, joined1) p_halts
      (first2, next2, later2, done2, rest2, joined2) q_halts =
      let is : b ≡ a = cc in
      let tails : b1 ++ l1 ≡ b2 ++ l2 = cc in
      let one = step_once a old first1 first2 next1 next2 done1 (rw is at done2) in
      let stage : List (B × Bin) → Stage (Group G Id) B = λ bins. record { bins = bins; homes = home_of a ∷ old.homes } in
      let rest : AreDone b2 (stage next1) later2 n = rw (is, ← one.0) at rest2 in
      let others = steps_once b1 b2 l1 l2 (stage next1) m n later1 later2 tails rest1 p_halts rest q_halts in
      (others.0, rw (joined1, joined2) (AllZip-append _ first1 first2 later1 later2 one.1 others.1), others.2, ap suc others.3)

  pub one_telling : (steps : List (Step Id G B)) (old : List (B × Bin)) → HaveOneTelling group_cmp cmp bin_cmp all steps old
  one_telling steps old = record {
    done = λ ps qs m n p q.
        let one = steps_once steps steps [] [] (at_start old) _ _ ps qs refl p.done tt q.done tt in
        (ap (λ (s : Stage (Group G Id) B). s.bins) one.0, one.1);
    refused = λ i j f g p q.
        let one = steps_once p.before q.before (p.step ∷ p.after) (q.step ∷ q.after) (at_start old) p.stage q.stage p.placements q.placements
        (sym p.steps_are ∙ q.steps_are) p.done (f, p.refused) q.done (g, q.refused) in
        let split = one.2 in
        let is : q.step ≡ p.step = cc in
        (p.index_is ∙ one.3 ∙ sym q.index_is, one_fault p.step p.stage f g p.refused (rw (is, ← one.0) at q.refused));
    not_both = λ ps m i f p q.
        let one = steps_once steps q.before [] (q.step ∷ q.after) (at_start old) _ q.stage ps q.placements
        (append-nil steps ∙ q.steps_are) p.done tt q.done (f, q.refused) in
        absurd (omega (arith, ap length one.2));
  }
