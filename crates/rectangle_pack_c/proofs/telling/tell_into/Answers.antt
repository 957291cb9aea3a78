use Rattle.rectangle_pack_c.proofs.Std.{◌∙◌, ap, arith, length, rules}
use Rattle.rectangle_pack_c.specs.Collections.{all_boxes}
use Rattle.rectangle_pack_c.specs.Telling.{not_named}
use Rattle.rectangle_pack_c.proofs.FaultLemmas.{no_boxes}
use Rattle.rectangle_pack_c.proofs.SessionLemmas.{new_entries, new_part}
use Rattle.rectangle_pack_c.proofs.FittedLemmas.{fit_ids, fit_once, fit_records_are}
use Rattle.rectangle_pack_c.proofs.ToldLemmas.{kept_told, no_steps, none_named, refused_telling, told_sound}
use Rattle.rectangle_pack_c.proofs.telling.tell_into.Goals as goal

pub collection_of-requires : goal.collection_of-requires
collection_of-requires g c =
    let s = (told_sound c.args.collection.now c.args.steps.now (length c.args.placements.now) c.requires.sound).args in
    record { few = omega (arith, s.as_many, s.few); known = s.known; differ = s.differ }

pub steps_of-requires : goal.steps_of-requires
steps_of-requires g c =
    let s = told_sound c.args.collection.now c.args.steps.now (length c.args.placements.now) c.requires.sound in
    record { heuristics = s.heuristics; indices = s.indices }

pub returns-in_err-told-clause-memory : goal.returns-in_err-told-clause-memory
returns-in_err-told-clause-memory g c = λ empty none _.
    let s = told_sound c.args.collection.now c.args.steps.now (length c.args.placements.now) c.requires.sound in
    let few = no_steps (all_boxes c.args.collection.now) c.args.steps.now s.indices (ap length (no_boxes c.args.collection.now s.args.known empty)) in
    absurd (let done = rw c.in_err-told.was at (c.steps_of.ensures.no_steps few) in cc)

pub returns-in_err-_packed-clause-refused : goal.returns-in_err-_packed-clause-refused
returns-in_err-_packed-clause-refused g c =
    let all = c.in_ok-rects in
    let h = refused_telling (all_boxes c.args.collection.now) c.args.collection.now.exclusions.now all.rects all.ensures.collected c.args.steps.now
    c.as_slice.result.now (rw c.as_slice.ensures.value c.in_ok-told.ensures.are) c.in_err-_packed.field-0.0 c.args.session.now c.tell.new.session
    c.in_err-_packed.ensures.packed in
    search rules

pub returns-in_err-_packed-clause-memory : goal.returns-in_err-_packed-clause-memory
returns-in_err-_packed-clause-memory g c = λ empty none _.
    let s = told_sound c.args.collection.now c.args.steps.now (length c.args.placements.now) c.requires.sound in
    let few = no_steps (all_boxes c.args.collection.now) c.args.steps.now s.indices (ap length (no_boxes c.args.collection.now s.args.known empty)) in
    let nothing = none_named (all_boxes c.args.collection.now) c.args.steps.now c.in_ok-told.told.items c.in_ok-told.ensures.are few in
    absurd (let done = rw c.in_err-_packed.was at (c.tell.ensures.no_steps (c.as_slice.ensures.value ∙ nothing)) in cc)

pub write_among-requires-clause-within : goal.write_among-requires-clause-within
write_among-requires-clause-within g c =
    let boxes = all_boxes c.args.collection.now in
    let pairs = c.args.collection.now.exclusions.now in
    let all = c.in_ok-rects in
    let steps = c.as_slice.result.now in
    let new = c.tell.new.session in
    let kept = kept_told boxes pairs all.rects all.ensures.collected steps c.args.session.now new c.in_ok-_packed._packed c.in_ok-_packed.ensures.packed in
    let are = fit_records_are boxes pairs all.rects all.ensures.collected (not_named all.rects steps) c.args.session.now new kept in
    let few = (told_sound c.args.collection.now c.args.steps.now (length c.args.placements.now) c.requires.sound).args in
    rw (c.outstanding-known.ensures.outstanding, new_part _ _ _ (c.outstanding.ensures.outstanding ∙ are), few.as_many)
    (fit_ids boxes pairs all.rects all.ensures.collected (not_named all.rects steps) c.args.session.now new kept)

pub write_among-requires-clause-once : goal.write_among-requires-clause-once
write_among-requires-clause-once g c =
    let boxes = all_boxes c.args.collection.now in
    let pairs = c.args.collection.now.exclusions.now in
    let all = c.in_ok-rects in
    let steps = c.as_slice.result.now in
    let new = c.tell.new.session in
    let kept = kept_told boxes pairs all.rects all.ensures.collected steps c.args.session.now new c.in_ok-_packed._packed c.in_ok-_packed.ensures.packed in
    let are = fit_records_are boxes pairs all.rects all.ensures.collected (not_named all.rects steps) c.args.session.now new kept in
    rw (c.outstanding-known.ensures.outstanding, new_part _ _ _ (c.outstanding.ensures.outstanding ∙ are))
    (fit_once boxes pairs all.rects all.ensures.collected (not_named all.rects steps) c.args.session.now new kept)

pub returns-clause-written : goal.returns-clause-written
returns-clause-written g c =
    let boxes = all_boxes c.args.collection.now in
    let pairs = c.args.collection.now.exclusions.now in
    let all = c.in_ok-rects in
    let steps = c.as_slice.result.now in
    let new = c.tell.new.session in
    let kept = kept_told boxes pairs all.rects all.ensures.collected steps c.args.session.now new c.in_ok-_packed._packed c.in_ok-_packed.ensures.packed in
    let are = fit_records_are boxes pairs all.rects all.ensures.collected (not_named all.rects steps) c.args.session.now new kept in
    rw (new_entries _ _ _ are)
    (rw (c.outstanding-known.ensures.outstanding, new_part _ _ _ (c.outstanding.ensures.outstanding ∙ are)) at c.write_among.ensures)
