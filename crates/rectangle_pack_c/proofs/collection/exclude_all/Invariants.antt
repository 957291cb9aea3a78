use Rattle.rectangle_pack_c.proofs.Std.{[], List, take}
use Rattle.rectangle_pack_c.specs.declared.RpBox.{RpBox}
use Rattle.rectangle_pack_c.specs.Collections.{IsCollected}
use Rattle.rectangle_pack_c.proofs.collection.exclude_all.Given as goal

abbrev pub invariant-loop-pair : goal.invariant-loop-pair
invariant-loop-pair l = (boxes : List RpBox) → IsCollected boxes [] l.initial.rects → IsCollected boxes (take l.pair-index l.exclusions) l.rects
