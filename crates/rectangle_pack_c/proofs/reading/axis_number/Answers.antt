use Rattle.rectangle_pack_c.proofs.Std.{refl}
use Rattle.rectangle_pack.specs.CutPlans.{axis_rank}
use Rattle.rectangle_pack_c.proofs.reading.axis_number.Goals as goal

pub returns-in-X : goal.returns-in-X
unfolding axis_rank
returns-in-X c = rw c.in-X.is refl

pub returns-in-Y : goal.returns-in-Y
unfolding axis_rank
returns-in-Y c = rw c.in-Y.is refl

pub returns-in-Z : goal.returns-in-Z
unfolding axis_rank
returns-in-Z c = rw c.in-Z.is refl
