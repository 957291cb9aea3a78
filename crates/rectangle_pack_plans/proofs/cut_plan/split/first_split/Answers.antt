use Rattle.rectangle_pack_sections.proofs.Std.{◌+◌, ap, subst, sym, arith, IsPermutation-trans}
use Rattle.rectangle_pack_plans.specs.private.CutPlans.{AreClosed}
use Rattle.rectangle_pack_plans.proofs.lemmas.cut_plan.Filling.{IsFilled-permutation}
use Rattle.rectangle_pack_plans.proofs.lemmas.cut_plan.FirstPlanes.{rank_at}
use Rattle.rectangle_pack_plans.proofs.cut_plan.split.first_split.Goals as goal

pub split_on-found-requires-clause-closed : goal.split_on-found-requires-clause-closed
split_on-found-requires-clause-closed c = subst (λ n. AreClosed n c.args.whole.now c.loop-axis.boxes)
    (sym (rank_at c.loop-axis.axis-index c.loop-axis-test.true)) c.loop-axis.invariant.closed

pub returns-in-Some-found-clause-permutation : goal.returns-in-Some-found-clause-permutation
returns-in-Some-found-clause-permutation c = IsPermutation-trans _ _ _ c.loop-axis.invariant.permutation c.split_on-found.ensures.permutation

pub loop-axis-preserved : goal.loop-axis-preserved
loop-axis-preserved c = record {
  permutation = IsPermutation-trans _ _ _ c.loop-axis.invariant.permutation c.split_on-found.ensures.permutation;
  filled = IsFilled-permutation _ _ _ c.split_on-found.ensures.permutation c.loop-axis.invariant.filled;
  ordered = c.split_on-found.ensures.ordered;
  closed = subst (λ n. AreClosed n c.args.whole.now c.split_on-found.new.boxes)
      (ap (λ n. n + 1) (rank_at c.loop-axis.axis-index c.loop-axis-test.true)) c.in_default-found.ensures.split;
}

pub returns-clause-split : goal.returns-clause-split
returns-clause-split c = subst (λ n. AreClosed n c.args.whole.now c.loop-axis.boxes) (omega arith) c.loop-axis.invariant.closed
