use Rattle.rectangle_pack_sections.proofs.Std.{◌≡◌, map, take}
use Rattle.rectangle_pack_plans.specs.private.CuttingAnew.{ranked}
use Rattle.rectangle_pack_plans.proofs.cut_anew.order.rank_all.Given as goal

abbrev pub invariant-loop-one : goal.invariant-loop-one
invariant-loop-one g l = l.all.items ≡ map (ranked l.bin) (take l.one-index l.free)
