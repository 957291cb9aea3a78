use Rattle.rectangle_pack_c.proofs.Std.{◌≡◌, ◌∙◌, ap, length, refl, sym}
use Rattle.std.proofs.Common.{Err}
use Rattle.rectangle_pack.specs.declared.session.command.Reply.TheVariants.{Done, Refused}
use Rattle.rectangle_pack.specs.declared.session.command.SessionError.TheVariants.{OutOfMemory}
use Rattle.rectangle_pack_c.specs.Collections.{all_boxes}
use Rattle.rectangle_pack_c.proofs.FaultLemmas.{sound}
use Rattle.rectangle_pack_c.proofs.SessionLemmas.{changed_so, is_memory, some_entry}
use Rattle.rectangle_pack_c.proofs.FittedLemmas.{fit_written, fit_written_apart, never_done, never_space, no_space_fault}
use Rattle.rectangle_pack_c.proofs.fitting.rectangle_pack_session_pack_fitting.Goals as goal

pub returns-then-fault-ne-RP_DONE-clause-space : goal.returns-then-fault-ne-RP_DONE-clause-space
returns-then-fault-ne-RP_DONE-clause-space c = λ is.
    no_space_fault c.args.collection.now c.args.heuristic (length c.args.placements.now) (sym c.fault-fault.ensures ∙ is)

pub returns-in-Ok-clause-packed : goal.returns-in-Ok-clause-packed
returns-in-Ok-clause-packed c = λ _.
    let boxes = all_boxes c.args.collection.now in
    let pairs = c.args.collection.now.exclusions.now in
    let h = c.in-Ok.ensures in
    let none = sound c.args.collection.now c.args.heuristic (length c.args.placements.now) (sym c.fault-fault.ensures ∙ c.if-fault-ne-RP_DONE.false) in
    let outs = c.fit_into-answer.new.placements in
    changed_so Done c.take-held.ensures.taken c.deref_mut.ensures.value c.of.ensures refl (
      h.packed,
      fit_written c.args.heuristic boxes pairs c.in-Ok.chosen c.deref_mut.result.now c.fit_into-answer.new.session h.packed outs
          (rw c.left_outstanding-left.ensures at h.written) (c.fit_into-answer.auto.placements ∙ none.as_many) h.always h.next c.numbers_left.result
          c.numbers_left.ensures,
    )
    h.always

pub returns-in-Ok-clause-apart : goal.returns-in-Ok-clause-apart
returns-in-Ok-clause-apart c = λ _.
    let boxes = all_boxes c.args.collection.now in
    let pairs = c.args.collection.now.exclusions.now in
    let h = c.in-Ok.ensures in
    let none = sound c.args.collection.now c.args.heuristic (length c.args.placements.now) (sym c.fault-fault.ensures ∙ c.if-fault-ne-RP_DONE.false) in
    fit_written_apart c.args.heuristic boxes pairs c.in-Ok.chosen c.deref_mut.result.now c.fit_into-answer.new.session h.packed c.fit_into-answer.new.placements
    (rw c.left_outstanding-left.ensures at h.written) (c.fit_into-answer.auto.placements ∙ none.as_many) none.differ

pub returns-in-Err-clause-packed : goal.returns-in-Err-clause-packed
returns-in-Err-clause-packed c = λ _.
    changed_so (Refused c.in-Err.error) c.take-held.ensures.taken c.deref_mut.ensures.value c.of.ensures c.refusal.ensures c.in-Err.ensures.refused
    c.in-Err.ensures.always

pub returns-in-Err-clause-apart : goal.returns-in-Err-clause-apart
returns-in-Err-clause-apart c = λ is. absurd (never_done c.in-Err.error (sym c.refusal.ensures ∙ is))

pub returns-in-Err-clause-space : goal.returns-in-Err-clause-space
returns-in-Err-clause-space c = λ is.
    never_space (all_boxes c.args.collection.now) c.args.collection.now.exclusions.now c.deref_mut.result.now c.fit_into-answer.new.session c.in-Err.error
    c.in-Err.ensures.refused (sym c.refusal.ensures ∙ is)

pub returns-in-Err-clause-memory : goal.returns-in-Err-clause-memory
returns-in-Err-clause-memory c = λ status.
    let error : c.in-Err.error ≡ OutOfMemory = is_memory c.in-Err.error (sym c.refusal.ensures ∙ status) in
    some_entry (length c.args.collection.now.boxes.now) (length c.args.collection.now.exclusions.now)
    (λ empty none. c.in-Err.ensures.memory empty none (ap (λ e. Err e) error))
