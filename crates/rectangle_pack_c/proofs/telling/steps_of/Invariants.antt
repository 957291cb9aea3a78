use Rattle.rectangle_pack_c.proofs.Std.{take}
use Rattle.rectangle_pack_c.specs.Collections.{all_boxes}
use Rattle.rectangle_pack_c.specs.Telling.{AreSteps}
use Rattle.rectangle_pack_c.proofs.telling.steps_of.Given as goal

abbrev pub invariant-loop-step : goal.invariant-loop-step
invariant-loop-step l = AreSteps (all_boxes l.collection) (take l.step-index l.steps) l.told.items
