use Rattle.rectangle_pack_c.proofs.Std.{◌≡◌, ◌∙◌, Some, ap, length, refl, sym}
use Rattle.std.proofs.Common.{Err}
use Rattle.rectangle_pack.specs.declared.session.command.Reply.TheVariants.{Packed as Kept, Refused}
use Rattle.rectangle_pack.specs.declared.session.command.SessionError.TheVariants.{OutOfMemory}
use Rattle.rectangle_pack_c.specs.Collections.{all_boxes}
use Rattle.rectangle_pack_c.proofs.FaultLemmas.{sound}
use Rattle.rectangle_pack_c.proofs.SessionLemmas.{changed_so, written_outstanding, written_apart, none_chosen, is_memory, some_entry}
use Rattle.rectangle_pack_c.proofs.session.rectangle_pack_session_pack_collection.Goals as goal

pub returns-in-Ok-clause-packed : goal.returns-in-Ok-clause-packed
returns-in-Ok-clause-packed c = λ _.
    changed_so (Kept c.in-Ok.ensures.packed.0) c.take-held.ensures.taken c.deref_mut.ensures.value c.of.ensures refl c.in-Ok.ensures.packed.1
    c.in-Ok.ensures.always

pub returns-in-Ok-clause-done : goal.returns-in-Ok-clause-done
returns-in-Ok-clause-done c = λ _.
    let boxes = all_boxes c.args.collection.now in
    let h = c.in-Ok.ensures in
    let none = sound c.args.collection.now c.args.heuristic (length c.args.placements.now) (sym c.fault-fault.ensures ∙ c.if-fault-ne-RP_DONE.false) in
    record {
      before = c.deref_mut.result.now;
      after = c.pack_into-answer.new.session;
      had = c.take-held.ensures.taken ∙ ap (λ s. Some s) (sym c.deref_mut.ensures.value);
      has = c.of.ensures;
      are = written_outstanding c.args.heuristic boxes c.args.collection.now.exclusions.now c.in-Ok.best c.deref_mut.result.now c.pack_into-answer.new.session
          h.packed.0 h.packed.1 c.pack_into-answer.new.placements h.written (c.pack_into-answer.auto.placements ∙ none.as_many);
    }

pub returns-in-Ok-clause-apart : goal.returns-in-Ok-clause-apart
returns-in-Ok-clause-apart c = λ _.
    let boxes = all_boxes c.args.collection.now in
    let h = c.in-Ok.ensures in
    let none = sound c.args.collection.now c.args.heuristic (length c.args.placements.now) (sym c.fault-fault.ensures ∙ c.if-fault-ne-RP_DONE.false) in
    written_apart c.args.heuristic boxes c.args.collection.now.exclusions.now c.in-Ok.best c.deref_mut.result.now c.pack_into-answer.new.session
    h.packed.0 h.packed.1 c.pack_into-answer.new.placements h.written none.differ

pub returns-in-Err-clause-packed : goal.returns-in-Err-clause-packed
returns-in-Err-clause-packed c = λ _.
    changed_so (Refused c.in-Err.error) c.take-held.ensures.taken c.deref_mut.ensures.value c.of.ensures c.refusal.ensures
    (none_chosen c.args.heuristic (all_boxes c.args.collection.now) c.args.collection.now.exclusions.now 0 c.args.chosen.now
    c.deref_mut.result.now c.pack_into-answer.new.session c.in-Err.error c.in-Err.ensures.refused)
    c.in-Err.ensures.always

pub returns-in-Err-clause-memory : goal.returns-in-Err-clause-memory
returns-in-Err-clause-memory c = λ status.
    let error : c.in-Err.error ≡ OutOfMemory = is_memory c.in-Err.error (sym c.refusal.ensures ∙ status) in
    some_entry (length c.args.collection.now.boxes.now) (length c.args.collection.now.exclusions.now)
    (λ empty none. c.in-Err.ensures.memory empty none (ap (λ e. Err e) error))
