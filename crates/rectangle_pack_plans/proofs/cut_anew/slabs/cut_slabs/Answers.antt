use Rattle.rectangle_pack_sections.proofs.Std.{◌+◌, ◌++◌, map, sym, ap, ◌∙◌, subst, arith, IsPermutation-sym, IsPermutation-trans}
use Rattle.rectangle_pack_plans.specs.private.CutPlans.{AreClosed}
use Rattle.rectangle_pack_plans.specs.private.CuttingAnew.{counted}
use Rattle.rectangle_pack_plans.proofs.lemmas.cut_plan.FirstPlanes.{rank_at, AreClosed-more, AreClosed-permutation}
use Rattle.rectangle_pack_plans.proofs.lemmas.cut_anew.FreeIn.{AreSame-moved, AreBounds-same, AreClosedWithin-same}
use Rattle.rectangle_pack_plans.proofs.lemmas.cut_anew.Rooms.{AreInRoom-permutation, closed_cannot_be_cut}
use Rattle.rectangle_pack_plans.proofs.cut_anew.slabs.cut_slabs.Goals as goal

pub slabs_along-requires-clause-filling : goal.slabs_along-requires-clause-filling
slabs_along-requires-clause-filling g c = AreInRoom-permutation c.args.room.now c.args.boxes.now c.loop-axis.boxes c.loop-axis.invariant.permutation c.requires.filling

pub slabs_along-requires-clause-bounds : goal.slabs_along-requires-clause-bounds
slabs_along-requires-clause-bounds g c = AreBounds-same c.args.boxes.now c.loop-axis.boxes
    (AreSame-moved c.args.boxes.now c.loop-axis.boxes c.loop-axis.invariant.permutation c.requires.filling.cells) c.args.room.now c.requires.bounds

pub slabs_along-requires-clause-closed : goal.slabs_along-requires-clause-closed
slabs_along-requires-clause-closed g c = AreClosedWithin-same c.args.closed c.args.boxes.now c.loop-axis.boxes
    (AreSame-moved c.args.boxes.now c.loop-axis.boxes c.loop-axis.invariant.permutation c.requires.filling.cells) c.requires.closed

pub returns-in_err-slabs_along-clause-permutation : goal.returns-in_err-slabs_along-clause-permutation
returns-in_err-slabs_along-clause-permutation g c = IsPermutation-trans _ _ _ c.loop-axis.invariant.permutation c.slabs_along.ensures.permutation

pub returns-then-branch-clause-permutation : goal.returns-then-branch-clause-permutation
returns-then-branch-clause-permutation g c = IsPermutation-trans _ _ _ c.loop-axis.invariant.permutation c.slabs_along.ensures.permutation

pub returns-then-branch-clause-slabs : goal.returns-then-branch-clause-slabs
returns-then-branch-clause-slabs g c =
    let found = rw c.if-branch.true at ((c.in_ok-slabs_along.ensures {u = tt}).slabs) in
    let axis = rank_at c.loop-axis.axis-index c.loop-axis-test.true in (
      found.0,
      found.1 ∙ ap (λ l. l ++ map counted found.0) c.loop-axis.invariant.rooms,
      found.2,
      found.3,
      record {
        axis = _;
        first = record {
          place = found.4.0;
          is_open = found.4.1;
          first = λ e q before is_open. AreClosed-permutation _ c.args.room.now c.loop-axis.boxes c.slabs_along.new.boxes c.slabs_along.ensures.permutation
              (subst (λ n. AreClosed n c.args.room.now c.loop-axis.boxes) (sym axis) c.loop-axis.invariant.closed) e before q is_open;
        };
        slabs = found.5;
      },
    )

pub loop-axis-preserved : goal.loop-axis-preserved
loop-axis-preserved g c =
    let none = rw c.if-branch.false at ((c.in_ok-slabs_along.ensures {u = tt}).slabs) in
    record {
      permutation = IsPermutation-trans _ _ _ c.loop-axis.invariant.permutation c.slabs_along.ensures.permutation;
      rooms = none.0 ∙ c.loop-axis.invariant.rooms;
      closed = subst (λ n. AreClosed n c.args.room.now c.slabs_along.new.boxes) (ap (λ n. n + 1) (rank_at c.loop-axis.axis-index c.loop-axis-test.true))
          (AreClosed-more _ c.args.room.now c.loop-axis.boxes c.slabs_along.new.boxes c.slabs_along.ensures.permutation
          (subst (λ n. AreClosed n c.args.room.now c.loop-axis.boxes) (sym (rank_at c.loop-axis.axis-index c.loop-axis-test.true)) c.loop-axis.invariant.closed) none.1);
    }

pub returns-clause-slabs : goal.returns-clause-slabs
returns-clause-slabs g c =
    let closed = subst (λ n. AreClosed n c.args.room.now c.loop-axis.boxes) (omega arith) c.loop-axis.invariant.closed in
    closed_cannot_be_cut c.args.room.now c.args.boxes.now c.requires.filling.cells c.requires.many
    (AreClosed-permutation 3 c.args.room.now c.loop-axis.boxes c.args.boxes.now
    (IsPermutation-sym c.args.boxes.now c.loop-axis.boxes c.loop-axis.invariant.permutation) closed)
