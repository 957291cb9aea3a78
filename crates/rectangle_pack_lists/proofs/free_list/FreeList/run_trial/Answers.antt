use Rattle.std.proofs.Common.{le_refl, le_trans, lt_irrefl, ◌%◌, ◌-◌, min}
use Rattle.rectangle_pack_sections.proofs.Std.{ℕ, ◌<◌, ◌≤◌, ◌≢◌, ◌*◌, arith, refl, subst}
use Rattle.rectangle_pack_sections.proofs.Std.{◌≡◌, ◌+◌, ◌∙◌, ◌++◌, ◌∷◌, [], ap}
use Rattle.rectangle_pack_sections.proofs.Std.{List, length, Option, vec_len, vec_capacity}
use Rattle.rectangle_pack_sections.specs.Boxes.{Size, Cuboid}
use Rattle.rectangle_pack_sections.specs.Closures.{Answers}
use Rattle.rectangle_pack_lists.specs.Steps.{IsStep}
use Rattle.rectangle_pack_lists.specs.private.FreeLists.{AtWork, now_of}
use Rattle.rectangle_pack_lists.specs.private.Places.{IsLastHolding, sections_of}
use Rattle.rectangle_pack_lists.proofs.lemmas.trial.StepsByIndex.{IsDone-more, IsStuck-at, IsTried-refused, IsTried-undone}
use Rattle.rectangle_pack_lists.proofs.lemmas.trial.Steps.{IsStep-fits}
use Rattle.rectangle_pack_lists.proofs.lemmas.trial.Notes.{IsSince-none, IsSince-same, IsSince-more, IsSince-start, IsSince-kept}
use Rattle.rectangle_pack_lists.proofs.free_list.FreeList.run_trial.Goals as goal
use Rattle.rectangle_pack_lists.proofs.free_list.FreeList.run_trial.Goals.{then-i-eq0+in_ok-reserve, else-i-eq0, then-i-eq0-2+in_ok-reserve_or_undo, else-i-eq0-2}

-- the tests of one member more
more_tests : (i tests one : ℕ) → tests ≤ i * 18446744073709551615 → one < 18446744073709551616 → tests + one ≤ (i + 1) * 18446744073709551615
more_tests i tests one most few = omega arith

-- there is room for the steps up to the next multiple of 8, or for all members that are left
abbrev HaveRoom : ℕ → ℕ → ℕ → Type 0
HaveRoom i count steps = min (8 - i % 8) (count - i) ≤ steps

rooms_made : (i count steps took : ℕ) → i % 8 ≡ 0 → took ≡ min 8 (count - i) → took ≤ steps → HaveRoom i count steps
rooms_made i count steps took turn is made = omega arith

room_behind : (i count before after : ℕ) → HaveRoom i count before → before ≤ after + 1 → 0 < (i + 1) % 8 → HaveRoom (i + 1) count after
room_behind i count before after made one more = omega arith

room_for_one : (i count steps : ℕ) → HaveRoom i count steps → i < count → 0 < steps
room_for_one i count steps made some = omega arith

room_for : (len count room : ℕ) → len + count ≤ room → count ≤ room
room_for len count room made = omega arith

not_first : (i : ℕ) → i ≢ 0 → 0 < i
not_first i other = omega arith

one_more : (i before now after : ℕ) → before ≡ i → now ≡ before → after ≡ now + 1 → after ≡ i + 1
one_more i before now after counted same more = omega arith

room_kept : (count room after : ℕ) → count ≤ room → after ≡ room → count ≤ after
room_kept count room after made same = omega arith

pushed : (before now after : List Cuboid) (l : Cuboid) → after ≡ now ++ l ∷ [] → now ≡ before → after ≡ before ++ l ∷ []
pushed before now after l more same = more ∙ ap (λ (ls : List Cuboid). ls ++ l ∷ []) same

-- before a step the list has room for it, and is otherwise the same
record IsReady (count i : ℕ) (old now : AtWork) : Type 0 where
  pub places : now.places ≡ old.places
  pub notes : now.notes ≡ old.notes
  pub list_room : old.room ≤ now.room
  pub steps : HaveRoom i count now.steps

-- there is room for all locations, and they are the same
record AreRoomy (count : ℕ) (before after : List Cuboid) (len_before len room : ℕ) : Type 0 where
  pub same : after ≡ before
  pub count_is : len ≡ len_before
  pub room_is : count ≤ room

-- a step in places that are the same
step_from : (may : Answers) (places now : List (Option Cuboid)) (m : Size) (place : ℕ) (l : Cuboid) (next : List Cuboid) (tests : ℕ)
    → now ≡ places → IsLastHolding places m place tests
    → ((n : ℕ) → IsLastHolding now m place n → IsStep may (sections_of now) m l next n)
    → IsStep may (sections_of places) m l next tests
step_from may places now m place l next tests same found step =
    subst (λ (ps : List (Option Cuboid)). (n : ℕ) → IsLastHolding ps m place n → IsStep may (sections_of ps) m l next n) same step tests found

pub loop-i-init : goal.loop-i-init
loop-i-init g c = record {
  done = (c.clear.ensures.items, refl, refl);
  most = le_refl 0;
  fits = c.requires.fits;
  since = IsSince-none c.args.self.now;
  kept = c.steps-kept.ensures;
  steps = λ some. absurd (lt_irrefl 0 some);
  room = le_refl _;
  location_count = c.clear.ensures.len;
  location_room = λ some. absurd (lt_irrefl 0 some);
}

pub returns-in_default-clause-tried : goal.returns-in_default-clause-tried
returns-in_default-clause-tried g c =
    let none = rw c.in_default.is at c.find-found.ensures in
    let undone = IsSince-kept c.args.self.now c.loop-i.self c.steps-kept.result c.loop-i.invariant.since c.loop-i.invariant.kept in (
      rw none.tests_are (IsStuck-at _ _ c.args.members.now c.loop-i.i c.index-members-i.result _ _ _ c.loop-i-test.true c.index-members-i.is
          c.loop-i.invariant.done none.none),
      ap sections_of (c.undo_to.ensures.places ∙ undone.0),
    )

pub returns-in_default-clause-start : goal.returns-in_default-clause-start
returns-in_default-clause-start g c =
    let then = c.args.self.now in
    let undone = IsSince-kept then c.loop-i.self c.steps-kept.result c.loop-i.invariant.since c.loop-i.invariant.kept in
    IsSince-start then c.undo_to.new.self
    (IsSince-same then then c.undo_to.new.self (IsSince-none then) (c.undo_to.ensures.places ∙ undone.0) (c.undo_to.ensures.notes ∙ undone.1))

pub returns-in_err-reserve-clause-tried : goal.returns-in_err-reserve-clause-tried
returns-in_err-reserve-clause-tried g c =
    IsTried-refused _ _ c.args.members.now c.loop-i.i _ (now_of c.loop-i.self) _ c.from_residual.result _ _
    c.from_residual.ensures.0 c.if-i-eq0.true c.loop-i.invariant.done refl

pub returns-in_err-reserve-clause-start : goal.returns-in_err-reserve-clause-start
returns-in_err-reserve-clause-start g c = IsSince-start c.args.self.now c.loop-i.self c.loop-i.invariant.since

pub returns-in_err-reserve_or_undo-clause-tried : goal.returns-in_err-reserve_or_undo-clause-tried
returns-in_err-reserve_or_undo-clause-tried g c =
    let undone = IsSince-kept c.args.self.now c.loop-i.self c.steps-kept.result c.loop-i.invariant.since c.loop-i.invariant.kept in
    IsTried-undone _ _ c.args.members.now c.from_residual-in_err-reserve_or_undo.result _ _ c.from_residual-in_err-reserve_or_undo.ensures.0
    (ap sections_of (c.in_err-reserve_or_undo.ensures.undone_places ∙ undone.0))

pub returns-in_err-reserve_or_undo-clause-start : goal.returns-in_err-reserve_or_undo-clause-start
returns-in_err-reserve_or_undo-clause-start g c =
    let then = c.args.self.now in
    let undone = IsSince-kept then c.loop-i.self c.steps-kept.result c.loop-i.invariant.since c.loop-i.invariant.kept in
    IsSince-start then c.reserve_or_undo.new.self
    (IsSince-same then then c.reserve_or_undo.new.self (IsSince-none then) (c.in_err-reserve_or_undo.ensures.undone_places ∙ undone.0)
    (c.in_err-reserve_or_undo.ensures.undone_notes ∙ undone.1))

pub loop-i-preserved : goal.loop-i-preserved
loop-i-preserved g c =
    let now = c.loop-i.invariant in
    let tests = c.find-found.result.tests in
    let ready : IsReady (length c.args.members.now) c.loop-i.i c.loop-i.self c.if-i-eq0-2.self = elim c.if-i-eq0-2.branch [
      | then-i-eq0-2+in_ok-reserve_or_undo w ↦ rw w.self-is (record {
        places = w.in_ok-reserve_or_undo.ensures.same_places;
        notes = w.in_ok-reserve_or_undo.ensures.same_notes;
        list_room = w.in_ok-reserve_or_undo.ensures.room;
        steps = rooms_made _ _ _ _ w.if-i-eq0-2.true w.min.ensures w.in_ok-reserve_or_undo.ensures.steps;
      })
      | else-i-eq0-2 w ↦ rw w.self-is (record {
        places = refl;
        notes = refl;
        list_room = le_refl _;
        steps = now.steps (not_first _ w.if-i-eq0-2.false);
      })
    ] in
    let roomy : AreRoomy (length c.args.members.now) c.loop-i.locations.items c.if-i-eq0.locations.items
    (vec_len c.loop-i.locations) (vec_len c.if-i-eq0.locations) (vec_capacity c.if-i-eq0.locations) =
    elim c.if-i-eq0.branch [
      | then-i-eq0+in_ok-reserve w ↦ rw w.locations-is (record {
        same = w.in_ok-reserve.ensures.items;
        count_is = w.in_ok-reserve.ensures.len;
        room_is = room_for _ _ _ w.in_ok-reserve.ensures.ok;
      })
      | else-i-eq0 w ↦ rw w.locations-is (record {
        same = refl;
        count_is = refl;
        room_is = now.location_room (not_first _ w.if-i-eq0.false);
      })
    ] in
    let found = rw c.in-Some.is at c.find-found.ensures in
    let step = step_from _ c.loop-i.self.places c.if-i-eq0-2.self.places c.index-members-i.result _ c.place-location.result _ tests ready.places found
    c.place-location.ensures.step in
    record {
      done = IsDone-more _ _ c.args.members.now c.loop-i.i c.index-members-i.result c.loop-i.locations.items _ _ _ c.push_reserved.new.self.items _ _
          c.loop-i-test.true c.index-members-i.is now.done step
          (pushed c.loop-i.locations.items c.if-i-eq0.locations.items c.push_reserved.new.self.items _ c.push_reserved.ensures.items roomy.same);
      most = more_tests c.loop-i.i _ _ now.most c.find-found.type_inv.1.1.1.0.1;
      fits = IsStep-fits _ _ _ _ _ _ step now.fits;
      since = IsSince-more c.args.self.now c.if-i-eq0-2.self c.place-location.new.self _
          (IsSince-same c.args.self.now c.loop-i.self c.if-i-eq0-2.self now.since ready.places ready.notes) c.place-location.ensures.noted;
      kept = now.kept;
      steps = λ some. room_behind c.loop-i.i _ _ _ ready.steps c.place-location.ensures.steps some;
      room = le_trans (le_trans now.room ready.list_room) c.place-location.ensures.room;
      location_count = one_more c.loop-i.i (vec_len c.loop-i.locations) (vec_len c.if-i-eq0.locations) (vec_len c.push_reserved.new.self)
          now.location_count roomy.count_is c.push_reserved.ensures.len;
      location_room = λ _. room_kept _ (vec_capacity c.if-i-eq0.locations) (vec_capacity c.push_reserved.new.self) roomy.room_is
          c.push_reserved.ensures.capacity;
    }

pub returns-clause-start : goal.returns-clause-start
returns-clause-start g c = IsSince-start c.args.self.now c.loop-i.self c.loop-i.invariant.since

pub place-location-requires-clause-steps : goal.place-location-requires-clause-steps
place-location-requires-clause-steps g c =
    room_for_one c.loop-i.i (length c.args.members.now) _ (elim c.if-i-eq0-2.branch [
      | then-i-eq0-2+in_ok-reserve_or_undo w ↦
          rw w.self-is (rooms_made _ _ _ _ w.if-i-eq0-2.true w.min.ensures w.in_ok-reserve_or_undo.ensures.steps)
      | else-i-eq0-2 w ↦ rw w.self-is (c.loop-i.invariant.steps (not_first _ w.if-i-eq0-2.false))
    ]) c.loop-i-test.true
