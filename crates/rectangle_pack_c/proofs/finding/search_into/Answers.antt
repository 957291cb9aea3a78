use Rattle.rectangle_pack_c.proofs.Std.{◌∙◌, length, refl, sym}
use Rattle.rectangle_pack.specs.declared.session.command.Reply.TheVariants.{Done, Refused}
use Rattle.rectangle_pack_c.specs.Collections.{fault_of}
use Rattle.rectangle_pack_c.proofs.FaultLemmas.{sound}
use Rattle.rectangle_pack_c.proofs.FittedLemmas.{never_done}
use Rattle.rectangle_pack_c.proofs.SearchFaultLemmas.{right_size}
use Rattle.rectangle_pack_c.proofs.SearchedLemmas.{found_apart, laid_all, with_left}
use Rattle.rectangle_pack_c.proofs.SessionLemmas.{changed_so}
use Rattle.rectangle_pack_c.proofs.finding.search_into.Goals as goal

pub returns-in-Ok-clause-packed : goal.returns-in-Ok-clause-packed
returns-in-Ok-clause-packed c = λ none.
    let all = c.args.wanted.now.collection.now in
    let how = c.args.wanted.now.options.now in
    let places = length c.args.placements.now in
    let s = sound all 0 places (right_size how (fault_of all 0 places) none) in
    let h = c.in-Ok.ensures in
    let outs = c.find_and_write-answer.new.placements in
    let old = c.deref_mut.result.now in
    let new = c.find_and_write-answer.new.session in
    changed_so Done c.take-held.ensures.taken c.deref_mut.ensures.value c.of.ensures refl (
      with_left all how c.in-Ok.told old new h.found c.numbers_left.result,
      laid_all all how c.in-Ok.told old new h.found outs (rw c.left_standing-left.ensures at h.written) (c.find_and_write-answer.auto.placements ∙ s.as_many)
          h.always h.next c.numbers_left.result c.numbers_left.ensures,
    )
    h.always

pub returns-in-Ok-clause-apart : goal.returns-in-Ok-clause-apart
returns-in-Ok-clause-apart c = λ _.
    let all = c.args.wanted.now.collection.now in
    let how = c.args.wanted.now.options.now in
    let places = length c.args.placements.now in
    let s = sound all 0 places
    (right_size how (fault_of all 0 places) (rw c.fault.ensures at (sym c.fault_options-fault.ensures ∙ c.if-fault-ne-RP_DONE.false))) in
    let h = c.in-Ok.ensures in
    found_apart all how c.in-Ok.told c.deref_mut.result.now c.find_and_write-answer.new.session h.found c.find_and_write-answer.new.placements
    (rw c.left_standing-left.ensures at h.written) (c.find_and_write-answer.auto.placements ∙ s.as_many) s.differ

pub returns-in-Err-clause-packed : goal.returns-in-Err-clause-packed
returns-in-Err-clause-packed c = λ _.
    changed_so (Refused c.in-Err.error) c.take-held.ensures.taken c.deref_mut.ensures.value c.of.ensures c.refusal.ensures c.in-Err.ensures.refused
    c.in-Err.ensures.always

pub returns-in-Err-clause-apart : goal.returns-in-Err-clause-apart
returns-in-Err-clause-apart c = λ is. absurd (never_done c.in-Err.error (sym c.refusal.ensures ∙ is))
