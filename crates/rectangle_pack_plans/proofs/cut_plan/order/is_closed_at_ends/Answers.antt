use Rattle.rectangle_pack_sections.proofs.Std.{ℕ, ◌≤◌, ◌<◌, ◌+◌, ◌/◌, arith, IsPermutation-refl, IsPermutation-trans}
use Rattle.rectangle_pack_plans.proofs.lemmas.cut_plan.Filling.{IsFilled-permutation}
use Rattle.rectangle_pack_plans.proofs.cut_plan.order.is_closed_at_ends.Goals as goal

pub is_blocked-requires-clause-filled : goal.is_blocked-requires-clause-filled
is_blocked-requires-clause-filled c = IsFilled-permutation c.args.whole.now c.args.boxes.now c.loop-count.boxes
    c.loop-count.invariant.permutation c.requires.filled

pub returns-then-is_blocked-clause-permutation : goal.returns-then-is_blocked-clause-permutation
returns-then-is_blocked-clause-permutation c = IsPermutation-trans _ _ _ c.loop-count.invariant.permutation c.is_blocked.ensures.permutation

pub loop-count-preserved : goal.loop-count-preserved
loop-count-preserved c = record {
  some = omega (arith, c.loop-count.invariant.some, c.saturating_mul-count.ensures);
  permutation = IsPermutation-trans _ _ _ c.loop-count.invariant.permutation c.is_blocked.ensures.permutation;
  ordered = c.is_blocked.ensures.ordered;
}

pub returns-clause-permutation : goal.returns-clause-permutation
returns-clause-permutation c = c.loop-count.invariant.permutation

-- twice what is below a quarter is within the whole
twice_within : (count n : ℕ) → count < n / 4 → count + count ≤ n
twice_within count n few = omega arith

pub loop-count-init : goal.loop-count-init
loop-count-init c = record { some = omega arith; permutation = IsPermutation-refl _; ordered = c.requires.ordered }

pub is_blocked-requires-clause-ordered : goal.is_blocked-requires-clause-ordered
is_blocked-requires-clause-ordered c = c.loop-count.invariant.ordered

pub returns-then-is_blocked-clause-ordered : goal.returns-then-is_blocked-clause-ordered
returns-then-is_blocked-clause-ordered c = c.is_blocked.ensures.ordered

pub returns-clause-ordered : goal.returns-clause-ordered
returns-clause-ordered c = c.loop-count.invariant.ordered

pub is_blocked-requires-clause-some : goal.is_blocked-requires-clause-some
is_blocked-requires-clause-some c = twice_within _ _ c.loop-count-test.true

pub returns-then-is_blocked-clause-closed : goal.returns-then-is_blocked-clause-closed
returns-then-is_blocked-clause-closed c = c.if-is_blocked.ensures.closed
