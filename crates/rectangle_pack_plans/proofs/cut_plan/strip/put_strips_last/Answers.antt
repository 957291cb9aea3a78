use Rattle.rectangle_pack_plans.proofs.lemmas.cut_plan.Filling.{IsFilled-permutation}
use Rattle.rectangle_pack_plans.proofs.cut_plan.strip.put_strips_last.Goals as goal

pub last_strip-requires : goal.last_strip-requires
last_strip-requires c = IsFilled-permutation _ _ _ c.sort_unstable_by_key.ensures.permutation c.requires
