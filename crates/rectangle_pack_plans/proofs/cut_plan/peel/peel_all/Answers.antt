use Rattle.rectangle_pack_sections.proofs.Std.{arith, length_permutation}
use Rattle.rectangle_pack_sections.proofs.lemmas.cuts.SameBoxes.{HaveSameBoxes-permutation}
use Rattle.rectangle_pack_plans.proofs.lemmas.cut_plan.Filling.{IsFilled-permutation}
use Rattle.rectangle_pack_plans.proofs.lemmas.cut_plan.Orders.{AreInOrder-start, all_left}
use Rattle.rectangle_pack_plans.proofs.cut_plan.peel.peel_all.Goals as goal

pub peel_in-requires-clause-same : goal.peel_in-requires-clause-same
peel_in-requires-clause-same g c =
    let xs = c.in_ok-x_order.ensures {u = tt} in
    let all = all_left c.args.part.now.whole c.in_ok-x_order.x_order.items (IsFilled-permutation _ _ _ xs.permutation c.requires.filled) in
    rw (c.as_slice-x.ensures.value, all) (HaveSameBoxes-permutation _ _ xs.permutation)

pub peel_in-requires-clause-length : goal.peel_in-requires-clause-length
peel_in-requires-clause-length g c =
    let xs = c.in_ok-x_order.ensures {u = tt} in
    let all = all_left c.args.part.now.whole c.in_ok-x_order.x_order.items (IsFilled-permutation _ _ _ xs.permutation c.requires.filled) in
    rw (c.as_slice-x.ensures.value, all) (length_permutation _ _ xs.permutation)

pub peel_in-requires-2-clause-same : goal.peel_in-requires-2-clause-same
peel_in-requires-2-clause-same g c =
    let xs = c.in_ok-x_order.ensures {u = tt} in
    let all = all_left c.args.part.now.whole c.in_ok-x_order.x_order.items (IsFilled-permutation _ _ _ xs.permutation c.requires.filled) in
    rw (c.as_slice-x.ensures.value, all) (HaveSameBoxes-permutation _ _ xs.permutation)

pub peel_in-requires-2-clause-length : goal.peel_in-requires-2-clause-length
peel_in-requires-2-clause-length g c =
    let xs = c.in_ok-x_order.ensures {u = tt} in
    let all = all_left c.args.part.now.whole c.in_ok-x_order.x_order.items (IsFilled-permutation _ _ _ xs.permutation c.requires.filled) in
    rw (c.as_slice-x.ensures.value, all) (length_permutation _ _ xs.permutation)

pub peel_in-requires-clause-ordered : goal.peel_in-requires-clause-ordered
peel_in-requires-clause-ordered g c =
    let xs = c.in_ok-x_order.ensures {u = tt} in
    let ys = c.in_ok-y_order.ensures {u = tt} in
    let flat = c.if-is_flat_along.ensures {u = tt} in
    rw (c.as_slice-x.ensures.value, c.as_slice-y.ensures.value) (AreInOrder-start _ _ _ _ _ c.requires.filled xs.permutation ys.permutation xs.permutation
    xs.ordered ys.ordered (λ deep. absurd (omega (arith, deep, flat))))

pub peel_in-requires-2-clause-ordered : goal.peel_in-requires-2-clause-ordered
peel_in-requires-2-clause-ordered g c =
    let xs = c.in_ok-x_order.ensures {u = tt} in
    let ys = c.in_ok-y_order.ensures {u = tt} in
    let zs = c.in_ok-z_order.ensures {u = tt} in
    rw (c.as_slice-x.ensures.value, c.as_slice-y.ensures.value, c.as_slice-z.ensures.value) (AreInOrder-start _ _ _ _ _ c.requires.filled xs.permutation
    ys.permutation zs.permutation xs.ordered ys.ordered (λ deep. zs.ordered))
