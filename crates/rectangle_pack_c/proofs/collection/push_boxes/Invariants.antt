use Rattle.rectangle_pack_c.proofs.Std.{[], take}
use Rattle.rectangle_pack_c.specs.Collections.{IsCollected}
use Rattle.rectangle_pack_c.proofs.collection.push_boxes.Given as goal

abbrev pub invariant-loop-i : goal.invariant-loop-i
invariant-loop-i l = IsCollected (take l.i l.boxes) [] l.rects
