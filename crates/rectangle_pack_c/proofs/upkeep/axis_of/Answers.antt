use Rattle.rectangle_pack_c.proofs.Std.{refl}
use Rattle.rectangle_pack.specs.CutPlans.{axis_rank}
use Rattle.rectangle_pack_c.proofs.upkeep.axis_of.Goals as goal

pub returns-in-0 : goal.returns-in-0
unfolding axis_rank
returns-in-0 c = rw c.in-0.is refl

pub returns-in-1 : goal.returns-in-1
unfolding axis_rank
returns-in-1 c = rw c.in-1.is refl

pub returns-in-2 : goal.returns-in-2
unfolding axis_rank
returns-in-2 c = rw c.in-2.is refl
