use Rattle.rectangle_pack_sections.proofs.Std.{rules, arith, IsNonDecreasingBy-from_sort_by_key}
use Rattle.rectangle_pack_plans.specs.private.CutPlans.{start_rank}
use Rattle.rectangle_pack_plans.proofs.cut_plan.peel.in_order.Goals as goal

pub returns-clause-ordered : goal.returns-clause-ordered
returns-clause-ordered g c =
    let rises = IsNonDecreasingBy-from_sort_by_key (start_rank c.args.axis) _ c.sort_unstable_by_key.ensures.sorted (λ a r q k. search rules) in
    λ i j d before within. omega (arith, rises i j d before within)
