use Rattle.rectangle_pack_c.proofs.Std.{◌∙◌, ◌<◌, ◌^◌, arith, length, sym}
use Rattle.rectangle_pack_c.specs.Collections.{fault_of}
use Rattle.rectangle_pack_c.proofs.FaultLemmas.{IsSound, sound}
use Rattle.rectangle_pack_c.proofs.SearchFaultLemmas.{no_space_fault, not_done, right_size, search_fault}
use Rattle.rectangle_pack_c.proofs.SearchedLemmas.{IsSearchAnswered, found_answered, refused_new}
use Rattle.rectangle_pack_c.proofs.finding.search_new.Goals as goal

pub returns-then-bins-ge-LIMIT-clause-done : goal.returns-then-bins-ge-LIMIT-clause-done
returns-then-bins-ge-LIMIT-clause-done c = λ is. absurd (not_done c.args.wanted.now.options.now (sym c.fault_options.ensures ∙ is))

pub returns-then-fault-ne-RP_DONE-clause-refused : goal.returns-then-fault-ne-RP_DONE-clause-refused
returns-then-fault-ne-RP_DONE-clause-refused c = λ is.
    absurd (no_space_fault c.args.wanted.now.options.now c.args.wanted.now.collection.now (length c.args.placements.now)
    (sym (rw c.fault.ensures at c.fault_options-fault.ensures) ∙ is))

-- the arguments have no fault
good : (c : goal.After-drop-session-inside-in-Ok-find_and_write-3) → IsSound c.args.wanted.now.collection.now 0 (length c.args.placements.now)
good c =
    let all = c.args.wanted.now.collection.now in
    let places = length c.args.placements.now in
    sound all 0 places
    (right_size c.args.wanted.now.options.now (fault_of all 0 places)
    (sym (rw c.fault.ensures at c.fault_options-fault.ensures) ∙ c.if-fault-ne-RP_DONE.false))

all_said : (c : goal.After-drop-session-inside-in-Ok-find_and_write-3) → IsSearchAnswered c.args.bins.now c.args.wanted.now.collection.now
    c.args.wanted.now.options.now c.find_and_write.new.placements (record c.in-Ok-find_and_write.told { left = c.left_among.result })
all_said c =
    let h = c.in-Ok-find_and_write.ensures in
    let few : length c.args.bins.now < 2 ^ 32 = omega (arith, c.if-bins-ge-LIMIT.false) in
    let s = good c in
    found_answered c.args.wanted.now.collection.now c.args.wanted.now.options.now c.args.bins.now few c.in-Ok-find_and_write.told c.in-Ok.session
    c.find_and_write.new.session c.in-Ok.ensures h.found h.always c.find_and_write.new.placements (rw c.left_location-left.ensures at h.written)
    (c.find_and_write.auto.placements ∙ s.as_many) s.differ c.left_among.result c.left_among.ensures

pub returns-in-Ok-find_and_write-clause-packed : goal.returns-in-Ok-find_and_write-clause-packed
returns-in-Ok-find_and_write-clause-packed c = λ _. (all_said c).packed

pub returns-in-Ok-find_and_write-clause-done : goal.returns-in-Ok-find_and_write-clause-done
returns-in-Ok-find_and_write-clause-done c = λ _. (all_said c).done

pub returns-in-Ok-find_and_write-clause-apart : goal.returns-in-Ok-find_and_write-clause-apart
returns-in-Ok-find_and_write-clause-apart c = λ _. (all_said c).apart

pub returns-in-Ok-find_and_write-clause-faults : goal.returns-in-Ok-find_and_write-clause-faults
returns-in-Ok-find_and_write-clause-faults c =
    let none = search_fault c.args.wanted.now.options.now c.args.wanted.now.collection.now c.args.bins.now (length c.args.placements.now)
    (omega (arith, c.if-bins-ge-LIMIT.false)) (sym (rw c.fault.ensures at c.fault_options-fault.ensures) ∙ c.if-fault-ne-RP_DONE.false) in
    rw none (omega arith)

pub returns-in-Err-NotEnoughBinSpace-clause-refused : goal.returns-in-Err-NotEnoughBinSpace-clause-refused
returns-in-Err-NotEnoughBinSpace-clause-refused c = λ _.
    refused_new c.args.wanted.now.collection.now c.args.wanted.now.options.now c.args.bins.now c.in-Ok.session c.find_and_write.new.session c.in-Ok.ensures
    (rw c.in-Err-NotEnoughBinSpace.field-0-is at c.in-Err-NotEnoughBinSpace.ensures.refused)
