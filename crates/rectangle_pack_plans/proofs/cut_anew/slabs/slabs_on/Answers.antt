use Rattle.rectangle_pack_sections.proofs.Std.{◌≡◌, ◌<◌, ◌≤◌, ◌+◌, ◌-◌, max, [], ◌∷◌, ◌++◌, length, drop, take, map, sym, ap, ◌∙◌, subst, refl, arith}
use Rattle.rectangle_pack_sections.proofs.Std.{append-nil, length-drop, Some}
use Rattle.rectangle_pack_sections.specs.declared.span.Span.{Span}
use Rattle.rectangle_pack_sections.specs.Boxes.{start, end}
use Rattle.rectangle_pack_sections.specs.CutTrees.{lower, upper, IsPlaceOf}
use Rattle.rectangle_pack_plans.specs.private.CuttingAnew.{Filled, counted}
use Rattle.rectangle_pack_plans.proofs.lemmas.cut_anew.Slabs.{IsSwept, IsSwept-none, IsSwept-more, IsSwept-slab, IsSwept-closed, IsSwept-all, IsSwept-slabs, IsSwept-same}
use Rattle.rectangle_pack_plans.proofs.lemmas.cut_anew.Slabs.{slab_place, slab_has, rooms_pushed}
use Rattle.rectangle_pack_plans.specs.declared.cut_anew.slabs.Room.{Room}
use Rattle.rectangle_pack_plans.proofs.cut_anew.slabs.slabs_on.Goals as goal
use Rattle.rectangle_pack_plans.proofs.cut_anew.slabs.slabs_on.Goals.{then-i-gt0+then-reach-span+in_ok-push, else-i-gt0}
use Rattle.rectangle_pack_plans.proofs.cut_anew.slabs.slabs_on.Goals.{else-i-gt0-via-then-i-gt0+else-reach-span, else-i-gt0-via-else-i-gt0}

pub loop-i-init : goal.loop-i-init
loop-i-init g c = record {
  fs = [];
  rooms = sym (append-nil c.args.rooms.now.items);
  swept = subst (λ n. IsSwept c.args.axis c.args.room.now c.args.boxes.now 0 0 n c.args.room.now []) (sym (ap (λ (s : Span). s.start) c.of-reach.ensures.is))
      (IsSwept-none c.args.axis c.args.room.now c.args.boxes.now c.requires.filling c.requires.bounds c.requires.ordered);
}

pub lower-section-requires : goal.lower-section-requires
lower-section-requires g c =
    let at : c.of-span.result.start ≡ start c.args.axis c.index-boxes-i.result = ap (λ (s : Span). s.start) c.of-span.ensures.is in
    subst (λ n. IsPlaceOf c.args.axis n c.loop-i.rest) (sym at)
    (slab_place c.args.axis c.args.room.now c.args.boxes.now c.requires.filling c.requires.bounds c.requires.ordered c.loop-i.i c.loop-i.begun c.loop-i.reach
    c.index-boxes-i.result c.loop-i.rest c.loop-i.invariant.fs c.loop-i-test.true c.index-boxes-i.is c.loop-i.invariant.swept c.if-i-gt0.true
    (omega (arith, at, c.if-reach-span.true)))

pub upper-rest-requires-clause-place : goal.upper-rest-requires-clause-place
upper-rest-requires-clause-place g c =
    let at : c.of-span.result.start ≡ start c.args.axis c.index-boxes-i.result = ap (λ (s : Span). s.start) c.of-span.ensures.is in
    subst (λ n. IsPlaceOf c.args.axis n c.loop-i.rest) (sym at)
    (slab_place c.args.axis c.args.room.now c.args.boxes.now c.requires.filling c.requires.bounds c.requires.ordered c.loop-i.i c.loop-i.begun c.loop-i.reach
    c.index-boxes-i.result c.loop-i.rest c.loop-i.invariant.fs c.loop-i-test.true c.index-boxes-i.is c.loop-i.invariant.swept c.if-i-gt0.true
    (omega (arith, at, c.if-reach-span.true)))

pub loop-i-preserved : goal.loop-i-preserved
loop-i-preserved g c =
    let a = c.args.axis in
    let room = c.args.room.now in
    let boxes = c.args.boxes.now in
    let next = c.index-boxes-i.result in
    let fs = c.loop-i.invariant.fs in
    let at : c.of-span.result.start ≡ start a next = ap (λ (s : Span). s.start) c.of-span.ensures.is in
    let reach : c.max-reach.result ≡ max c.loop-i.reach (end a next) = c.max-reach.ensures ∙ ap (max c.loop-i.reach) (c.end.ensures ∙ c.of-span.ensures.ends) in
    elim c.if-i-gt0.branch [
      | then-i-gt0+then-reach-span+in_ok-push w ↦
          let f : Filled = record { section = lower a (start a next) c.loop-i.rest; boxes = drop c.loop-i.begun (take c.loop-i.i boxes); closed = Some a } in
          let beyond : c.loop-i.reach ≤ start a next = omega (arith, at, w.if-reach-span.true) in
          record {
            fs = fs ++ f ∷ [];
            rooms = rooms_pushed c.args.rooms.now.items c.loop-i.rooms.items c.if-i-gt0.rooms.items fs f w.lower-section.result (c.loop-i.i - c.loop-i.begun)
                c.loop-i.invariant.rooms (ap (λ v. v.items) w.rooms-is ∙ (w.in_ok-push.ensures {u = tt}).items)
                (w.lower-section.ensures ∙ ap (λ n. lower a n c.loop-i.rest) at)
                (sym (ap (λ (r : Room). r.count) (slab_has a room boxes c.requires.filling c.requires.bounds c.requires.ordered c.loop-i.i c.loop-i.begun c.loop-i.reach
                next c.loop-i.rest fs c.loop-i-test.true c.index-boxes-i.is c.loop-i.invariant.swept w.if-i-gt0.true beyond)));
            swept = IsSwept-same a room boxes (c.loop-i.i + 1) c.loop-i.i c.if-i-gt0.begun (max c.loop-i.reach (end a next)) c.max-reach.result
                (upper a (start a next) c.loop-i.rest) c.if-i-gt0.rest (fs ++ f ∷ []) w.begun-is reach
                (w.rest-is ∙ w.upper-rest.ensures ∙ ap (λ n. upper a n c.loop-i.rest) at)
                (IsSwept-slab a room boxes c.requires.filling c.requires.bounds c.requires.ordered c.loop-i.i c.loop-i.begun c.loop-i.reach
                next c.loop-i.rest fs c.loop-i-test.true c.index-boxes-i.is c.loop-i.invariant.swept w.if-i-gt0.true beyond);
          }
      | else-i-gt0 w ↦
          let before : 0 < c.loop-i.i → start a next < c.loop-i.reach = λ some. elim w.else-i-gt0.branch [
            | else-i-gt0-via-then-i-gt0+else-reach-span v ↦ omega (arith, at, v.if-reach-span.false)
            | else-i-gt0-via-else-i-gt0 v ↦ absurd (omega (arith, v.if-i-gt0.false, some))
          ] in
          record {
            fs = fs;
            rooms = ap (λ v. v.items) w.rooms-is ∙ c.loop-i.invariant.rooms;
            swept = IsSwept-same a room boxes (c.loop-i.i + 1) c.loop-i.begun c.if-i-gt0.begun (max c.loop-i.reach (end a next)) c.max-reach.result
                c.loop-i.rest c.if-i-gt0.rest fs w.begun-is reach w.rest-is
                (IsSwept-more a room boxes c.requires.filling c.requires.bounds c.requires.ordered c.loop-i.i c.loop-i.begun c.loop-i.reach
                next c.loop-i.rest fs c.loop-i-test.true c.index-boxes-i.is c.loop-i.invariant.swept before);
          }
    ]

pub returns-then-begun-eq0 : goal.returns-then-begun-eq0
returns-then-begun-eq0 g c =
    let swept = c.loop-i.invariant.swept in (
      c.loop-i.invariant.rooms ∙ ap (λ fs. c.args.rooms.now.items ++ map counted fs) (swept.none c.if-begun-eq0.true) ∙ append-nil c.args.rooms.now.items,
      IsSwept-closed c.args.axis c.args.room.now c.args.boxes.now c.requires.filling c.requires.bounds c.requires.ordered c.loop-i.i c.loop-i.begun c.loop-i.reach
          c.loop-i.rest c.loop-i.invariant.fs c.loop-i-test.false swept c.if-begun-eq0.true,
    )

pub returns : goal.returns
returns g c =
    let f : Filled = record { section = c.loop-i.rest; boxes = drop c.loop-i.begun c.args.boxes.now; closed = Some c.args.axis } in
    let fs = c.loop-i.invariant.fs in
    let some : 0 < c.loop-i.begun = omega (arith, c.if-begun-eq0.false) in
    let r = IsSwept-all c.args.axis c.args.room.now c.args.boxes.now c.requires.filling c.requires.bounds c.requires.ordered c.loop-i.i c.loop-i.begun c.loop-i.reach
    c.loop-i.rest fs c.loop-i-test.false c.loop-i.invariant.swept some in (
      fs ++ f ∷ [],
      rooms_pushed c.args.rooms.now.items c.loop-i.rooms.items c.push-2.new.self.items fs f c.loop-i.rest (length c.args.boxes.now - c.loop-i.begun)
          c.loop-i.invariant.rooms (c.in_ok-push-2.ensures {u = tt}).items refl (sym (length-drop c.loop-i.begun c.args.boxes.now)),
      r.0,
      r.1,
      c.loop-i.invariant.swept.has_plane some,
      IsSwept-slabs c.args.axis c.args.room.now c.args.boxes.now c.requires.filling c.requires.bounds c.requires.ordered c.loop-i.i c.loop-i.begun c.loop-i.reach
          c.loop-i.rest fs c.loop-i-test.false c.loop-i.invariant.swept,
    )
