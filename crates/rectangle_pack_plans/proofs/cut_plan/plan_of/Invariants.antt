use Rattle.rectangle_pack_sections.proofs.Std.{◌≤◌, length, drop, reverse, sum_by}
use Rattle.rectangle_pack_plans.specs.private.Pending.{LeadOn, weight}
use Rattle.rectangle_pack_plans.proofs.cut_plan.plan_of.Given as goal

-- the steps so far, and what is planned for the pending parts, are the plan
abbrev pub invariant-loop-part : goal.invariant-loop-part
invariant-loop-part g l = record {
  within : l.done ≤ length l.boxes;
  leads : LeadOn l.fn.boxes l.fn.whole (reverse l.pending.items) (drop l.done l.boxes) l.plan.items;
}

abbrev pub decreases-loop-part : goal.decreases-loop-part
decreases-loop-part g l = sum_by weight l.pending.items
