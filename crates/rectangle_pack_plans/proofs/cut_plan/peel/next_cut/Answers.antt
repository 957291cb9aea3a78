use Rattle.rectangle_pack_sections.proofs.Std.{◌+◌, ap, sym, subst}
use Rattle.rectangle_pack_plans.specs.private.CutPlans.{AreClosed, left_in}
use Rattle.rectangle_pack_plans.proofs.lemmas.cut_plan.Filling.{IsFilled-same}
use Rattle.rectangle_pack_plans.proofs.lemmas.cut_plan.FirstPlanes.{rank_at}
use Rattle.rectangle_pack_plans.proofs.lemmas.cut_plan.Orders.{IsKeptSplit-on, AreClosed-on, some_left}
use Rattle.rectangle_pack_plans.proofs.cut_plan.peel.next_cut.Goals as goal

pub look_along-requires-clause-filled : goal.look_along-requires-clause-filled
look_along-requires-clause-filled c =
    rw c.along.ensures (IsFilled-same _ _ _ (c.requires.ordered.same _) (c.requires.ordered.cells _) c.requires.ordered.filled)

pub look_along-requires-clause-some : goal.look_along-requires-clause-some
look_along-requires-clause-some c = rw c.along.ensures (some_left _ _ _ _ c.requires.ordered _ c.requires.some)

pub returns-in-Open : goal.returns-in-Open
returns-in-Open c =
    let closed = subst (λ n. AreClosed n c.args.part.now (left_in c.args.part.now c.args.orders.now.x.now))
    (sym (rank_at c.loop-axis.axis-index c.loop-axis-test.true)) c.loop-axis.invariant in
    IsKeptSplit-on _ _ _ _ c.requires.ordered _ (c.if-is_flat_along.ensures {u = tt}) _ _ _ c.split_at.ensures.axis c.split_at.ensures.place
    c.split_at.ensures.below c.split_at.ensures.ordered closed (rw c.along.ensures at (c.in-Open.ensures {u = tt}))

pub loop-axis-preserved : goal.loop-axis-preserved
loop-axis-preserved c =
    let part = c.args.part.now in
    let closed = subst (λ n. AreClosed n part (left_in part c.args.orders.now.x.now)) (sym (rank_at c.loop-axis.axis-index c.loop-axis-test.true))
    c.loop-axis.invariant in
    subst (λ n. AreClosed n part (left_in part c.args.orders.now.x.now)) (ap (λ n. n + 1) (rank_at c.loop-axis.axis-index c.loop-axis-test.true))
    (AreClosed-on _ _ _ _ c.requires.ordered _ closed (rw c.along.ensures at (c.in-Closed.ensures {u = tt})))
