use Rattle.rectangle_pack_c.proofs.Std.{[], ◌++◌, map, take}
use Rattle.rectangle_pack_c.specs.Collections.{IsCollected, member_box}
use Rattle.rectangle_pack_c.proofs.collection.push_members.Given as goal

abbrev pub invariant-loop-i : goal.invariant-loop-i
invariant-loop-i l =
    let boxes = l.fn.collection.boxes.now in
    IsCollected (boxes ++ map (member_box boxes) (take l.i l.fn.collection.members.now)) [] l.rects
