use Rattle.rectangle_pack_c.proofs.Std.{◌∙◌, arith, length, refl, rules, subst, sym, ℕ}
use Rattle.rectangle_pack.specs.declared.session.command.Reply.TheVariants.{Refused}
use Rattle.rectangle_pack.specs.declared.session.command.SessionError.TheVariants.{NotEnoughBinSpace}
use Rattle.rectangle_pack.specs.Session.{State}
use Rattle.rectangle_pack_c.specs.Collections.{all_boxes}
use Rattle.rectangle_pack_c.specs.Heuristics.{asked}
use Rattle.rectangle_pack_c.specs.Sessions.{PacksCollection}
use Rattle.rectangle_pack_c.proofs.FaultLemmas.{sound}
use Rattle.rectangle_pack_c.proofs.AnswerLemmas.{IsAnswered, answered, answer_refused, one_best, never_best}
use Rattle.rectangle_pack_c.proofs.rectangle_pack_collection.Goals as goal

pub returns-then-bins-ge-LIMIT : goal.returns-then-bins-ge-LIMIT
returns-then-bins-ge-LIMIT c = record {
  faults = search rules;
  unchanged = λ other. (refl, refl);
  done = λ is. absurd (omega (arith, is));
  apart = λ is. absurd (omega (arith, is));
  packed = λ is. absurd (omega (arith, is));
  one_packing = λ is. absurd (omega (arith, is));
  never_refused = λ is. absurd (omega (arith, is));
  refused = λ is. absurd (omega (arith, is));
  never_packed = λ is. absurd (omega (arith, is));
}

all_said : (c : goal.After-drop-session-inside-in-Ok-pack_into-3) → IsAnswered c.args.bins.now (all_boxes c.args.collection.now)
    c.args.collection.now.exclusions.now c.args.heuristic c.in-Ok-pack_into.best c.pack_into.new.placements
all_said c =
    let h = c.in-Ok-pack_into.ensures in
    let none = sound c.args.collection.now c.args.heuristic (length c.args.placements.now) (sym c.fault-fault.ensures ∙ c.if-fault-ne-RP_DONE.false) in
    answered c.args.bins.now (all_boxes c.args.collection.now) c.args.collection.now.exclusions.now c.args.heuristic c.in-Ok-pack_into.best c.in-Ok.session
    c.pack_into.new.session c.in-Ok.ensures h.packed.0 h.packed.1 c.pack_into.new.placements h.written (c.pack_into.auto.placements ∙ none.as_many) none.differ

pub returns-in-Ok-pack_into-clause-done : goal.returns-in-Ok-pack_into-clause-done
returns-in-Ok-pack_into-clause-done c = λ _. (all_said c).placed

pub returns-in-Ok-pack_into-clause-apart : goal.returns-in-Ok-pack_into-clause-apart
returns-in-Ok-pack_into-clause-apart c = λ _. (all_said c).apart

pub returns-in-Ok-pack_into-clause-packed : goal.returns-in-Ok-pack_into-clause-packed
returns-in-Ok-pack_into-clause-packed c = λ _. (all_said c).packed

pub returns-in-Ok-pack_into-clause-one_packing : goal.returns-in-Ok-pack_into-clause-one_packing
returns-in-Ok-pack_into-clause-one_packing c = λ done other others.
    one_best c.args.bins.now (all_boxes c.args.collection.now) c.args.collection.now.exclusions.now (asked c.args.heuristic)
    c.in-Ok-pack_into.best c.pack_into.new.placements (all_said c).packed other others

pub returns-in-Ok-pack_into-clause-never_refused :
    goal.returns-in-Ok-pack_into-clause-never_refused
returns-in-Ok-pack_into-clause-never_refused c = λ done.
    never_best c.args.bins.now (all_boxes c.args.collection.now) c.args.collection.now.exclusions.now (asked c.args.heuristic)
    c.in-Ok-pack_into.best c.pack_into.new.placements (all_said c).packed

pub returns-in-Err-NotEnoughBinSpace-clause-never_packed :
    goal.returns-in-Err-NotEnoughBinSpace-clause-never_packed
returns-in-Err-NotEnoughBinSpace-clause-never_packed c = λ is other others packed.
    let h = c.in-Err-NotEnoughBinSpace in
    let boxes = all_boxes c.args.collection.now in
    let pairs = c.args.collection.now.exclusions.now in
    let new = c.pack_into.new.session in
    never_best c.args.bins.now boxes pairs (asked c.args.heuristic) other others packed
    (answer_refused c.args.bins.now boxes pairs c.args.heuristic 0 new
    (subst (λ (o : State ℕ ℕ). PacksCollection c.args.heuristic boxes pairs 0 o (Refused NotEnoughBinSpace) new) c.in-Ok.ensures
    (rw h.field-0-is at h.ensures.refused)))
