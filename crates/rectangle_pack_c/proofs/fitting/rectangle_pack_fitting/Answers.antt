use Rattle.rectangle_pack_c.proofs.Std.{◌∙◌, arith, length, refl, rules, sym, ◌<◌, ◌^◌}
use Rattle.rectangle_pack_c.specs.Collections.{all_boxes}
use Rattle.rectangle_pack_c.proofs.FaultLemmas.{sound}
use Rattle.rectangle_pack_c.proofs.FittedLemmas.{IsFitAnswered, fit_answered}
use Rattle.rectangle_pack_c.proofs.OneFitLemmas.{one_answer}
use Rattle.rectangle_pack_c.proofs.fitting.rectangle_pack_fitting.Goals as goal

pub returns-then-bins-ge-LIMIT : goal.returns-then-bins-ge-LIMIT
returns-then-bins-ge-LIMIT c = record {
  faults = search rules;
  unchanged = λ other. (refl, refl);
  packed = λ is. absurd (omega (arith, is));
  one_packing = λ is. absurd (omega (arith, is));
  done = λ is. absurd (omega (arith, is));
  apart = λ is. absurd (omega (arith, is));
}

all_said : (c : goal.After-drop-session-inside-in-Ok-fit_into-3) → IsFitAnswered c.args.heuristic c.args.bins.now (all_boxes c.args.collection.now)
    c.args.collection.now.exclusions.now c.fit_into.new.placements (record { heuristic = c.in-Ok-fit_into.best; left = c.left_among.result })
all_said c =
    let h = c.in-Ok-fit_into.ensures in
    let none = sound c.args.collection.now c.args.heuristic (length c.args.placements.now) (sym c.fault-fault.ensures ∙ c.if-fault-ne-RP_DONE.false) in
    let few : length c.args.bins.now < 2 ^ 32 = omega (arith, c.if-bins-ge-LIMIT.false) in
    fit_answered c.args.heuristic c.args.bins.now (all_boxes c.args.collection.now) c.args.collection.now.exclusions.now c.in-Ok-fit_into.best
    c.left_among.result c.in-Ok.session c.fit_into.new.session c.in-Ok.ensures h.packed c.fit_into.new.placements
    (rw c.left_placement-left.ensures at h.written)
    (c.fit_into.auto.placements ∙ none.as_many) none.differ few c.left_among.ensures

pub returns-in-Ok-fit_into-clause-packed : goal.returns-in-Ok-fit_into-clause-packed
returns-in-Ok-fit_into-clause-packed c = λ _. (all_said c).packed

pub returns-in-Ok-fit_into-clause-one_packing : goal.returns-in-Ok-fit_into-clause-one_packing
returns-in-Ok-fit_into-clause-one_packing c = λ _.
    one_answer c.args.heuristic c.args.bins.now (all_boxes c.args.collection.now) c.args.collection.now.exclusions.now c.fit_into.new.placements
    (record { heuristic = c.in-Ok-fit_into.best; left = c.left_among.result }) (all_said c).packed

pub returns-in-Ok-fit_into-clause-done : goal.returns-in-Ok-fit_into-clause-done
returns-in-Ok-fit_into-clause-done c = λ _. (all_said c).done

pub returns-in-Ok-fit_into-clause-apart : goal.returns-in-Ok-fit_into-clause-apart
returns-in-Ok-fit_into-clause-apart c = λ _. (all_said c).apart
