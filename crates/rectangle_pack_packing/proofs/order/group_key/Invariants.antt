use Rattle.rectangle_pack_sections.proofs.Std.{◌≡◌, ℕ, List, take, sum, AllZip}
use Rattle.rectangle_pack_lists.specs.Numbers.{saturated}
use Rattle.rectangle_pack_packing.proofs.order.group_key.Given as goal

abbrev pub invariant-loop-size : goal.invariant-loop-size
invariant-loop-size g l = (rates : List ℕ) × AllZip (g.R.Policy.may l.policy).rate (take l.size-index l.sizes) rates × (l.key ≡ saturated (sum rates))
