use Rattle.rectangle_pack_sections.proofs.Std.{IsPermutation-trans}
use Rattle.rectangle_pack_plans.proofs.lemmas.cut_plan.FirstPlanes.{AreClosed-permutation, AreClosed-more}
use Rattle.rectangle_pack_plans.proofs.lemmas.cut_plan.Filling.{IsFilled-permutation}
use Rattle.rectangle_pack_plans.proofs.cut_plan.split.split_on.Goals as goal

pub returns-then-is_closed_at_ends-clause-split : goal.returns-then-is_closed_at_ends-clause-split
returns-then-is_closed_at_ends-clause-split c =
    AreClosed-more _ _ _ _ c.is_closed_at_ends.ensures.permutation c.requires.closed c.if-is_closed_at_ends.ensures.closed

pub put_strips_last-strip-requires : goal.put_strips_last-strip-requires
put_strips_last-strip-requires c = IsFilled-permutation _ _ _ c.is_closed_at_ends.ensures.permutation c.requires.filled

pub returns-then-is_some-clause-permutation : goal.returns-then-is_some-clause-permutation
returns-then-is_some-clause-permutation c = IsPermutation-trans _ _ _ c.is_closed_at_ends.ensures.permutation c.put_strips_last-strip.ensures.permutation

pub plane_on-requires-2-clause-filled : goal.plane_on-requires-2-clause-filled
plane_on-requires-2-clause-filled c =
    let moved = IsPermutation-trans _ _ _ c.is_closed_at_ends.ensures.permutation c.put_strips_last-strip.ensures.permutation in
    IsFilled-permutation _ _ _ (IsPermutation-trans _ _ _ moved c.order_on.ensures.permutation) c.requires.filled

pub plane_on-requires-2-clause-closed : goal.plane_on-requires-2-clause-closed
plane_on-requires-2-clause-closed c =
    let moved = IsPermutation-trans _ _ _ c.is_closed_at_ends.ensures.permutation c.put_strips_last-strip.ensures.permutation in
    AreClosed-permutation _ _ _ _ (IsPermutation-trans _ _ _ moved c.order_on.ensures.permutation) c.requires.closed

pub returns-clause-permutation : goal.returns-clause-permutation
returns-clause-permutation c =
    let moved = IsPermutation-trans _ _ _ c.is_closed_at_ends.ensures.permutation c.put_strips_last-strip.ensures.permutation in
    IsPermutation-trans _ _ _ moved c.order_on.ensures.permutation
