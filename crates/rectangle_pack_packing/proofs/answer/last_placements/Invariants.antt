use Rattle.rectangle_pack_sections.proofs.Std.{take}
use Rattle.rectangle_pack_packing.specs.Placed.{AreLastPlacements}
use Rattle.rectangle_pack_packing.proofs.answer.last_placements.Given as goal

abbrev pub invariant-loop-placement : goal.invariant-loop-placement
invariant-loop-placement g l = AreLastPlacements g.Id.Ord.cmp g.BinId.Ord.cmp (take l.placement-index l.placements) l.last.entries
