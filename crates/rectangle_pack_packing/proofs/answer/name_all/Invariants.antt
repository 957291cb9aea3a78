use Rattle.rectangle_pack_sections.proofs.Std.{◌≡◌, List, ◌++◌, take}
use Rattle.rectangle_pack_packing.specs.declared.answer.Placement.{Placement}
use Rattle.rectangle_pack_packing.specs.Placed.{AreNamed}
use Rattle.rectangle_pack_packing.proofs.answer.name_all.Given as goal

abbrev pub invariant-loop-i : goal.invariant-loop-i
invariant-loop-i g l = (added : List (Placement g.row.Id.Denot g.row.B.Denot))
    × AreNamed g.Id.Ord.cmp g.B.Ord.cmp (take l.i l.ids) l.bin (take l.i l.locations) added × (l.placements.items ≡ l.fn.placements.items ++ added)
