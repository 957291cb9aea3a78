-- What the number of an axis is.
use Rattle.rectangle_pack_c.proofs.Std.{◌≡◌, ◌≤◌, ℕ, arith}
use Rattle.rectangle_pack_sections.specs.declared.axis.Axis.{Axis}
use Rattle.rectangle_pack_sections.specs.declared.axis.Axis.TheVariants.{X, Y, Z}
use Rattle.rectangle_pack.specs.CutPlans.{axis_rank}

-- the number of an axis is 0, 1 or 2
pub axes_are_three : (axis : Axis) (number : ℕ) → axis_rank axis ≡ number → number ≤ 2
unfolding axis_rank
axes_are_three X number e = omega (arith, e)
axes_are_three Y number e = omega (arith, e)
axes_are_three Z number e = omega (arith, e)
