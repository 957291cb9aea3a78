use Rattle.rectangle_pack_sections.proofs.Std.{rules, IsNonDecreasingBy-from_sort_by_key}
use Rattle.rectangle_pack_sections.specs.declared.axis.Axis.TheVariants.{X, Y, Z}
use Rattle.rectangle_pack_sections.specs.Boxes.{start}
use Rattle.rectangle_pack_plans.proofs.cut_plan.order.order_on.Goals as goal

pub returns-in-X-clause-ordered : goal.returns-in-X-clause-ordered
unfolding start
returns-in-X-clause-ordered c = rw c.in-X.is (IsNonDecreasingBy-from_sort_by_key (start X) _ c.sort_unstable_by_key.ensures.sorted (λ a r q k. search rules))

pub returns-in-Y-clause-ordered : goal.returns-in-Y-clause-ordered
unfolding start
returns-in-Y-clause-ordered c = rw c.in-Y.is (IsNonDecreasingBy-from_sort_by_key (start Y) _ c.sort_unstable_by_key-in-Y.ensures.sorted (λ a r q k. search rules))

pub returns-in-Z-clause-ordered : goal.returns-in-Z-clause-ordered
unfolding start
returns-in-Z-clause-ordered c = rw c.in-Z.is (IsNonDecreasingBy-from_sort_by_key (start Z) _ c.sort_unstable_by_key-in-Z.ensures.sorted (λ a r q k. search rules))
