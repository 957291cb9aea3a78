use Rattle.rectangle_pack_sections.proofs.Std.{◌≡◌, ◌++◌, map, take}
use Rattle.rectangle_pack.specs.Needed.{box_of}
use Rattle.rectangle_pack.proofs.bound.entries.add_boxes.Given as goal

abbrev pub invariant-loop-id : goal.invariant-loop-id
invariant-loop-id g l = l.boxes.items ≡ l.fn.boxes.items ++ map (box_of g.Id.Ord.cmp l.rects.entries l.turns.entries) (take l.id-index l.ids)
