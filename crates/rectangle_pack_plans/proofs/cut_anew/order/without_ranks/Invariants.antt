use Rattle.rectangle_pack_sections.proofs.Std.{◌≡◌, map, take}
use Rattle.rectangle_pack_plans.specs.declared.cut_anew.order.Ranked.{Ranked}
use Rattle.rectangle_pack_plans.proofs.cut_anew.order.without_ranks.Given as goal

abbrev pub invariant-loop-one : goal.invariant-loop-one
invariant-loop-one g l = l.sections.items ≡ map (λ (r : Ranked). r.section) (take l.one-index l.all)
