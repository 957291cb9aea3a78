use Rattle.rectangle_pack.specs.Boxes.{volume_of}
use Rattle.tests_of_packing.proofs.laws.of_one_result.Goals as goal

-- the rate of a size is its volume, and no other number
pub smallest_box_is_preorder-requires-clause-one_rate : goal.smallest_box_is_preorder-requires-clause-one_rate
smallest_box_is_preorder-requires-clause-one_rate c = record { rate = volume_of; only = λ size answer may. may.says.1 }

pub preorders_decide-requires-clause-one_rate : goal.preorders_decide-requires-clause-one_rate
preorders_decide-requires-clause-one_rate c = record { rate = volume_of; only = λ size answer may. may.says.1 }
