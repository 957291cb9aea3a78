use Rattle.rectangle_pack_c.proofs.Std.{◌∙◌, arith, length, List, rules, subst}
use Rattle.rectangle_pack_packing.specs.Fitting.{names_left}
use Rattle.rectangle_pack_c.specs.declared.RpBox.{RpBox}
use Rattle.rectangle_pack_c.specs.Collections.{all_boxes, IsCollected}
use Rattle.rectangle_pack_c.proofs.FaultLemmas.{sound, no_boxes}
use Rattle.rectangle_pack_c.proofs.SessionLemmas.{no_groups, new_entries, new_part}
use Rattle.rectangle_pack_c.proofs.FittedLemmas.{fit_ids, fit_once, fit_records_are, kept_fitting, refused_fit}
use Rattle.rectangle_pack_c.proofs.fitting.fit_into.Goals as goal

pub collection_of-requires : goal.collection_of-requires
collection_of-requires g c =
    let s = sound c.args.collection.now c.args.heuristic (length c.args.placements.now) c.requires.sound in
    record { few = omega (arith, s.as_many, s.few); known = s.known; differ = s.differ }

pub returns-in_err-best-clause-refused : goal.returns-in_err-best-clause-refused
returns-in_err-best-clause-refused g c =
    let all = c.in_ok-rects in
    let h = refused_fit c.args.heuristic (all_boxes c.args.collection.now) c.args.collection.now.exclusions.now all.rects all.ensures.collected
    c.in_err-best.field-0.0 c.args.session.now c.fit_asked.new.session c.in_err-best.ensures.packed in
    search rules

pub returns-clause-packed : goal.returns-clause-packed
returns-clause-packed g c =
    let all = c.in_ok-rects in
    let best = c.in_ok-best in
    record {
      all = all.rects;
      collected = all.ensures.collected;
      best = best.best;
      number = c.number_of.ensures;
      fitted = best._fitted;
      packed = best.ensures.packed;
      promised = best.ensures.promise;
    }

pub write_among-requires-clause-within : goal.write_among-requires-clause-within
write_among-requires-clause-within g c =
    let boxes = all_boxes c.args.collection.now in
    let pairs = c.args.collection.now.exclusions.now in
    let all = c.in_ok-rects in
    let best = c.in_ok-best in
    let left = names_left best._fitted.left in
    let new = c.fit_asked.new.session in
    let kept = kept_fitting best.best all.rects left c.args.session.now new best.ensures.promise in
    let are = fit_records_are boxes pairs all.rects all.ensures.collected left c.args.session.now new kept in
    let few = sound c.args.collection.now c.args.heuristic (length c.args.placements.now) c.requires.sound in
    rw (c.outstanding-known.ensures.outstanding, new_part _ _ _ (c.outstanding.ensures.outstanding ∙ are), few.as_many)
    (fit_ids boxes pairs all.rects all.ensures.collected left c.args.session.now new kept)

pub write_among-requires-clause-once : goal.write_among-requires-clause-once
write_among-requires-clause-once g c =
    let boxes = all_boxes c.args.collection.now in
    let pairs = c.args.collection.now.exclusions.now in
    let all = c.in_ok-rects in
    let best = c.in_ok-best in
    let left = names_left best._fitted.left in
    let new = c.fit_asked.new.session in
    let kept = kept_fitting best.best all.rects left c.args.session.now new best.ensures.promise in
    let are = fit_records_are boxes pairs all.rects all.ensures.collected left c.args.session.now new kept in
    rw (c.outstanding-known.ensures.outstanding, new_part _ _ _ (c.outstanding.ensures.outstanding ∙ are))
    (fit_once boxes pairs all.rects all.ensures.collected left c.args.session.now new kept)

pub returns-clause-written : goal.returns-clause-written
returns-clause-written g c =
    let boxes = all_boxes c.args.collection.now in
    let pairs = c.args.collection.now.exclusions.now in
    let all = c.in_ok-rects in
    let best = c.in_ok-best in
    let left = names_left best._fitted.left in
    let new = c.fit_asked.new.session in
    let kept = kept_fitting best.best all.rects left c.args.session.now new best.ensures.promise in
    let are = fit_records_are boxes pairs all.rects all.ensures.collected left c.args.session.now new kept in
    rw (new_entries _ _ _ are)
    (rw (c.outstanding-known.ensures.outstanding, new_part _ _ _ (c.outstanding.ensures.outstanding ∙ are)) at c.write_among.ensures)

pub returns-in_err-best-clause-memory : goal.returns-in_err-best-clause-memory
returns-in_err-best-clause-memory g c = λ empty none _.
    let all = c.in_ok-rects in
    let pairs = c.args.collection.now.exclusions.now in
    let known = (sound c.args.collection.now c.args.heuristic (length c.args.placements.now) c.requires.sound).known in
    let groups = no_groups pairs all.rects
    (subst (λ (bs : List RpBox). IsCollected bs pairs all.rects) (no_boxes c.args.collection.now known empty) all.ensures.collected) in
    absurd (let done = rw c.in_err-best.was at (c.fit_asked.ensures.no_groups groups) in cc)
