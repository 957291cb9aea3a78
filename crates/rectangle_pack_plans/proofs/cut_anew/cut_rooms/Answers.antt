use Rattle.rectangle_pack_sections.proofs.Std.{◌-◌, ◌≤◌, ◌++◌, ◌∷◌, [], length, refl, sym, ap, ◌∙◌, subst, arith, nil_from_length, IsPermutation, IsPermutation-refl}
use Rattle.rectangle_pack_sections.proofs.Std.{IsPermutation-trans}
use Rattle.rectangle_pack_sections.proofs.Std.{length_permutation, None}
use Rattle.std.proofs.lemmas.List.Sorted.{IsPermutation-put_mid}
use Rattle.rectangle_pack_sections.proofs.lemmas.cuts.Axes.{IsPartOf-trans}
use Rattle.rectangle_pack_plans.proofs.lemmas.cut_plan.Filling.{FitsU32-part}
use Rattle.rectangle_pack_plans.proofs.lemmas.cut_anew.Rooms.{last_boxes, last_boxes-long, IsTaken, IsTaken-popped, IsPartlyCut-start, IsPartlyCut-end}
use Rattle.rectangle_pack_plans.proofs.lemmas.cut_anew.Rooms.{IsPartlyCut-one, IsPartlyCut-more}
use Rattle.rectangle_pack_plans.proofs.lemmas.cut_anew.Rooms.{IsPartlyCut-same, cannot_be_cut, put_same, bounds_inside, bounds_have_cells, AreInRoom-bounds}
use Rattle.rectangle_pack_plans.proofs.lemmas.cut_anew.Rooms.{boxes_fit}
use Rattle.rectangle_pack_plans.proofs.lemmas.cut_anew.Found.{both_fit}
use Rattle.rectangle_pack_plans.proofs.lemmas.cut_anew.Rooms.{rooms_weigh_less, rooms_lighter}
use Rattle.rectangle_pack_plans.proofs.cut_anew.cut_rooms.Given.{Over}
use Rattle.rectangle_pack_plans.proofs.cut_anew.cut_rooms.Goals.at as goal_at
use Rattle.rectangle_pack_plans.proofs.cut_anew.cut_rooms.Goals as goal
use Rattle.rectangle_pack_plans.proofs.cut_anew.cut_rooms.Goals.{In-Some}

-- what is known of the room that is taken
taken : (g : Over) (c : In-Some g)
    → IsTaken c.args.whole.now c.args.boxes.now c.loop-room.free.items c.pop.new.self.items c.in-Some.room c.loop-room.boxes c.loop-room.left
taken g c = IsTaken-popped c.args.whole.now c.args.boxes.now c.loop-room.free.items c.loop-room.rooms.items c.pop.new.self.items c.in-Some.room
    c.loop-room.boxes c.loop-room.left (c.in-Some.ensures {u = tt}).items c.loop-room.invariant.cut

pub loop-room-init : goal.loop-room-init
loop-room-init g c = record {
  cut = IsPartlyCut-start c.args.whole.now c.args.boxes.now c.args.free.now.items c.push.new.self.items c.requires.none
      ((c.in_ok-push.ensures {u = tt}).items ∙ ap (λ l. l ++ record { section = c.args.whole.now; count = length c.args.boxes.now; closed = None } ∷ []) c.new-rooms.ensures.items)
      c.requires.filling;
  permutation = IsPermutation-refl c.args.boxes.now;
}

pub overflow_sub-start : goal.overflow_sub-start
overflow_sub-start g c = (taken g (goal_at.overflow_sub-start g c).In-Some).enough

pub bounds_of-bounds-requires-clause-some : goal.bounds_of-bounds-requires-clause-some
bounds_of-bounds-requires-clause-some g c = (taken g (goal_at.bounds_of-bounds-requires-clause-some g c).In-Some).here.in_room.some

pub bounds_of-bounds-requires-clause-fit : goal.bounds_of-bounds-requires-clause-fit
bounds_of-bounds-requires-clause-fit g c =
    let t = taken g (goal_at.bounds_of-bounds-requires-clause-fit g c).In-Some in
    boxes_fit c.args.whole.now c.in-Some.room.section (last_boxes c.loop-room.left c.in-Some.room.count c.loop-room.boxes) c.requires.fits t.here.within t.here.in_room.inside

pub cut_strips-requires-clause-fits : goal.cut_strips-requires-clause-fits
cut_strips-requires-clause-fits g c =
    let t = taken g (goal_at.cut_strips-requires-clause-fits g c).In-Some in
    FitsU32-part c.in-Some.room.section c.args.whole.now t.here.within c.requires.fits

pub cut_strips-requires-clause-inside : goal.cut_strips-requires-clause-inside
cut_strips-requires-clause-inside g c =
    let t = taken g (goal_at.cut_strips-requires-clause-inside g c).In-Some in
    bounds_inside c.in-Some.room.section c.bounds_of-bounds.result (last_boxes c.loop-room.left c.in-Some.room.count c.loop-room.boxes) t.here.in_room c.bounds_of-bounds.ensures

pub cut_strips-requires-clause-cells : goal.cut_strips-requires-clause-cells
cut_strips-requires-clause-cells g c =
    let t = taken g (goal_at.cut_strips-requires-clause-cells g c).In-Some in
    bounds_have_cells c.in-Some.room.section c.bounds_of-bounds.result (last_boxes c.loop-room.left c.in-Some.room.count c.loop-room.boxes) t.here.in_room c.bounds_of-bounds.ensures

pub loop-room-preserved-then-room-eq1 : goal.loop-room-preserved-then-room-eq1
loop-room-preserved-then-room-eq1 g c =
    let t = taken g (goal_at.loop-room-preserved-then-room-eq1 g c).In-Some in
    let n = c.in-Some.room.count in
    let left = c.loop-room.left in
    let now = c.loop-room.boxes in
    let strips = c.in_ok-cut_strips.ensures {u = tt} in
    let same = put_same (left - n) (left - (left - n)) now in
    record {
      cut = IsPartlyCut-same c.args.whole.now c.args.boxes.now _ _ _ _ _ _ strips.1 same
          (IsPartlyCut-one c.args.whole.now c.args.boxes.now c.loop-room.free.items c.pop.new.self.items c.in-Some.room now left t
          c.bounds_of-bounds.result strips.0 c.bounds_of-bounds.ensures strips.2 strips.3 c.if-room-eq1.true);
      permutation = subst (IsPermutation c.args.boxes.now) (sym same) c.loop-room.invariant.permutation;
    }

pub cut_slabs-requires-clause-fits : goal.cut_slabs-requires-clause-fits
cut_slabs-requires-clause-fits g c =
    let t = taken g (goal_at.cut_slabs-requires-clause-fits g c).In-Some in
    let part = bounds_inside c.in-Some.room.section c.bounds_of-bounds.result (last_boxes c.loop-room.left c.in-Some.room.count c.loop-room.boxes) t.here.in_room c.bounds_of-bounds.ensures in
    FitsU32-part c.bounds_of-bounds.result c.args.whole.now (IsPartOf-trans _ c.in-Some.room.section _ part t.here.within) c.requires.fits

pub cut_slabs-requires-clause-filling : goal.cut_slabs-requires-clause-filling
cut_slabs-requires-clause-filling g c =
    let t = taken g (goal_at.cut_slabs-requires-clause-filling g c).In-Some in
    AreInRoom-bounds c.in-Some.room.section c.bounds_of-bounds.result (last_boxes c.loop-room.left c.in-Some.room.count c.loop-room.boxes) t.here.in_room c.bounds_of-bounds.ensures

pub cut_slabs-requires-clause-many : goal.cut_slabs-requires-clause-many
cut_slabs-requires-clause-many g c =
    let t = taken g (goal_at.cut_slabs-requires-clause-many g c).In-Some in
    omega (arith, t.here.in_room.some, last_boxes-long c.loop-room.left c.in-Some.room.count c.loop-room.boxes t.enough t.within, c.if-room-eq1.false)

pub cut_slabs-requires-clause-closed : goal.cut_slabs-requires-clause-closed
cut_slabs-requires-clause-closed g c = (taken g (goal_at.cut_slabs-requires-clause-closed g c).In-Some).here.closed

pub returns-then-not-branch : goal.returns-then-not-branch
returns-then-not-branch g c =
    let t = taken g (goal_at.returns-then-not-branch g c).In-Some in
    let strips = c.in_ok-cut_strips.ensures {u = tt} in
    let none = rw c.if-not-branch.true at ((c.in_ok-cut_slabs.ensures {u = tt}).slabs) in
    cannot_be_cut c.args.whole.now c.args.boxes.now c.loop-room.free.items c.pop.new.self.items c.in-Some.room c.loop-room.boxes c.loop-room.left t
    c.bounds_of-bounds.result strips.0 c.bounds_of-bounds.ensures strips.2 strips.3 none

pub loop-room-smaller : goal.loop-room-smaller
loop-room-smaller g c =
    let t = taken g (goal_at.loop-room-smaller g c).In-Some in
    let slabs = rw c.if-not-branch.false at ((c.in_ok-cut_slabs.ensures {u = tt}).slabs) in
    let count = sym (last_boxes-long c.loop-room.left c.in-Some.room.count c.loop-room.boxes t.enough t.within)
    ∙ sym (length_permutation (last_boxes c.loop-room.left c.in-Some.room.count c.loop-room.boxes) c.cut_slabs.new.boxes c.cut_slabs.ensures.permutation) in
    rooms_lighter c.loop-room.rooms.items c.pop.new.self.items c.cut_slabs.new.rooms.items slabs.0 c.in-Some.room (c.in-Some.ensures {u = tt}).items slabs.1
    (rooms_weigh_less c.bounds_of-bounds.result c.cut_slabs.new.boxes slabs.0 c.in-Some.room count slabs.2 slabs.3)

pub loop-room-preserved : goal.loop-room-preserved
loop-room-preserved g c =
    let t = taken g (goal_at.loop-room-preserved g c).In-Some in
    let n = c.in-Some.room.count in
    let left = c.loop-room.left in
    let now = c.loop-room.boxes in
    let strips = c.in_ok-cut_strips.ensures {u = tt} in
    let slabs = rw c.if-not-branch.false at ((c.in_ok-cut_slabs.ensures {u = tt}).slabs) in
    let bs = last_boxes left n now in
    let many : 2 ≤ length c.cut_slabs.new.boxes = omega (
      arith,
      t.here.in_room.some,
      last_boxes-long left n now t.enough t.within,
      c.if-room-eq1.false,
      length_permutation bs c.cut_slabs.new.boxes c.cut_slabs.ensures.permutation,
    ) in
    record {
      cut = IsPartlyCut-same c.args.whole.now c.args.boxes.now _ _ _ _ _ _ strips.1 refl
          (IsPartlyCut-more c.args.whole.now c.args.boxes.now c.loop-room.free.items c.pop.new.self.items c.in-Some.room now left t
          c.bounds_of-bounds.result strips.0 c.bounds_of-bounds.ensures strips.2 strips.3 c.cut_slabs.new.boxes slabs.0 c.cut_slabs.new.rooms.items
          c.cut_slabs.ensures.permutation slabs.3 slabs.4 many slabs.1);
      permutation = IsPermutation-trans _ _ _ c.loop-room.invariant.permutation
          (IsPermutation-put_mid (left - n) (left - (left - n)) now c.cut_slabs.new.boxes c.cut_slabs.ensures.permutation);
    }

pub returns : goal.returns
returns g c =
    let none = nil_from_length c.loop-room.rooms.items (omega (arith, (c.in_default.ensures {u = tt}).cases, c.loop-room.rooms.ok)) in
    let all = IsPartlyCut-end c.args.whole.now c.args.boxes.now c.loop-room.free.items c.loop-room.rooms.items c.loop-room.boxes c.loop-room.left none
    c.loop-room.invariant.permutation c.loop-room.invariant.cut in
    (all.0, all.1, both_fit c.args.whole.now c.args.boxes.now c.loop-room.free.items c.requires.fits all.0 all.1 all.2, all.3)
