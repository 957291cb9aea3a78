use Rattle.rectangle_pack_c.proofs.Std.{◌≡◌, ◌∙◌, ap, length, refl, sym}
use Rattle.std.proofs.Common.{Ok, Err}
use Rattle.rectangle_pack_packing.specs.declared.pack.told.ToldError.TheVariants.{OutOfMemory}
use Rattle.rectangle_pack_c.specs.Collections.{all_boxes}
use Rattle.rectangle_pack_c.proofs.SessionLemmas.{some_entry}
use Rattle.rectangle_pack_c.proofs.ToldLemmas.{is_memory, never_done, never_unknown, told_so, told_sound, told_written, told_written_apart}
use Rattle.rectangle_pack_c.proofs.telling.rectangle_pack_session_pack_told.Goals as goal

pub returns-in-Ok-clause-packed : goal.returns-in-Ok-clause-packed
returns-in-Ok-clause-packed c = λ _.
    let boxes = all_boxes c.args.collection.now in
    let pairs = c.args.collection.now.exclusions.now in
    let h = c.in-Ok.ensures in
    let none = (told_sound c.args.collection.now c.args.steps.now (length c.args.placements.now)
    (sym c.told_fault-fault.ensures ∙ c.if-fault-ne-RP_DONE.false)).args in
    told_so (Ok h.packed.numbers) c.take-held.ensures.taken c.deref_mut.ensures.value c.of.ensures refl (
      h.packed,
      told_written boxes pairs c.args.steps.now c.deref_mut.result.now c.tell_into-answer.new.session h.packed c.tell_into-answer.new.placements
          (rw c.left_outstanding-left.ensures at h.written) (c.tell_into-answer.auto.placements ∙ none.as_many) h.always h.next,
    )
    h.always

pub returns-in-Ok-clause-apart : goal.returns-in-Ok-clause-apart
returns-in-Ok-clause-apart c = λ _.
    let boxes = all_boxes c.args.collection.now in
    let pairs = c.args.collection.now.exclusions.now in
    let h = c.in-Ok.ensures in
    let none = (told_sound c.args.collection.now c.args.steps.now (length c.args.placements.now)
    (sym c.told_fault-fault.ensures ∙ c.if-fault-ne-RP_DONE.false)).args in
    told_written_apart boxes pairs c.args.steps.now c.deref_mut.result.now c.tell_into-answer.new.session h.packed c.tell_into-answer.new.placements
    (rw c.left_outstanding-left.ensures at h.written) (c.tell_into-answer.auto.placements ∙ none.as_many) none.differ

pub refuse-requires : goal.refuse-requires
refuse-requires c =
    never_unknown (all_boxes c.args.collection.now) c.args.collection.now.exclusions.now c.args.steps.now c.deref_mut.result.now
    c.tell_into-answer.new.session c.in-Err.error c.in-Err.ensures.refused

pub returns-in-Err-clause-packed : goal.returns-in-Err-clause-packed
returns-in-Err-clause-packed c = λ _.
    told_so (Err c.in-Err.error) c.take-held.ensures.taken c.deref_mut.ensures.value c.of.ensures c.refuse.ensures.status
    (c.in-Err.ensures.refused, c.refuse.ensures.written) c.in-Err.ensures.always

pub returns-in-Err-clause-apart : goal.returns-in-Err-clause-apart
returns-in-Err-clause-apart c = λ is. absurd (never_done c.in-Err.error (sym c.refuse.ensures.status ∙ is))

pub returns-in-Err-clause-memory : goal.returns-in-Err-clause-memory
returns-in-Err-clause-memory c = λ status.
    let error : c.in-Err.error ≡ OutOfMemory = is_memory c.in-Err.error (sym c.refuse.ensures.status ∙ status) in
    some_entry (length c.args.collection.now.boxes.now) (length c.args.collection.now.exclusions.now)
    (λ empty none. c.in-Err.ensures.memory empty none (ap (λ e. Err e) error))
