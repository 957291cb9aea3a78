use Rattle.rectangle_pack_c.proofs.Std.{◌∙◌, arith, length, sym, ◌<◌, ◌^◌}
use Rattle.rectangle_pack_c.specs.Collections.{all_boxes}
use Rattle.rectangle_pack_c.proofs.ToldLemmas.{IsToldAnswered, told_answered, told_sound}
use Rattle.rectangle_pack_c.proofs.telling.rectangle_pack_told.Goals as goal

all_said : (c : goal.After-drop-session-inside-in-Ok-tell_into-3) → IsToldAnswered c.args.bins.now (all_boxes c.args.collection.now)
    c.args.collection.now.exclusions.now c.args.steps.now c.tell_into.new.placements
all_said c =
    let h = c.in-Ok-tell_into.ensures in
    let none = (told_sound c.args.collection.now c.args.steps.now (length c.args.placements.now)
    (sym c.told_fault-fault.ensures ∙ c.if-fault-ne-RP_DONE.false)).args in
    let few : length c.args.bins.now < 2 ^ 32 = omega (arith, c.if-bins-ge-LIMIT.false) in
    told_answered c.args.bins.now (all_boxes c.args.collection.now) c.args.collection.now.exclusions.now c.args.steps.now
    c.in-Ok.session c.tell_into.new.session c.in-Ok.ensures h.packed c.tell_into.new.placements
    (rw c.left_placement-left.ensures at h.written) (c.tell_into.auto.placements ∙ none.as_many) none.differ few

pub returns-in-Ok-tell_into-clause-packed : goal.returns-in-Ok-tell_into-clause-packed
returns-in-Ok-tell_into-clause-packed c = λ _. (all_said c).packed

pub returns-in-Ok-tell_into-clause-done : goal.returns-in-Ok-tell_into-clause-done
returns-in-Ok-tell_into-clause-done c = λ _. (all_said c).done

pub returns-in-Ok-tell_into-clause-apart : goal.returns-in-Ok-tell_into-clause-apart
returns-in-Ok-tell_into-clause-apart c = λ _. (all_said c).apart
