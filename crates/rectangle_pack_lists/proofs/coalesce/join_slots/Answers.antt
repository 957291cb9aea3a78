use Rattle.rectangle_pack_sections.proofs.Std.{arith, ◌≡◌, ◌+◌, ◌-◌, subst}
use Rattle.rectangle_pack_lists.specs.private.Corners.{IsFull}
use Rattle.rectangle_pack_lists.proofs.lemmas.joining.SweptSlots.{IsSweptTo, IsSweptTo-start, IsSweptTo-joined, IsSweptTo-skipped, IsSweptTo-done, IsFull-read}
use Rattle.rectangle_pack_lists.proofs.coalesce.join_slots.Goals as goal

pub loop-slot-init : goal.loop-slot-init
loop-slot-init g c = record {
  swept = IsSweptTo-start c.args.sections.now;
  fit = c.requires.fit;
  near = c.requires.near;
  far = c.requires.far;
}

pub loop-slot-preserved-then-has_cells : goal.loop-slot-preserved-then-has_cells
loop-slot-preserved-then-has_cells g c =
    let within = c.loop-slot.invariant.swept.within in
    let one : c.loop-slot.slot ≡ c.loop-slot.slot - 1 + 1 = omega arith in
    let at : IsFull c.loop-slot.sections (c.loop-slot.slot - 1) =
    IsFull-read c.loop-slot.sections (c.loop-slot.slot - 1) _ c.has_cells.result (omega arith) c.has_cells.ensures c.if-has_cells.true in
    let done = c.join_slot.ensures in
    record {
      swept = IsSweptTo-joined (c.loop-slot.slot - 1) c.args.sections.now c.loop-slot.sections c.join_slot.new.sections
          (subst (λ n. IsSweptTo n c.args.sections.now c.loop-slot.sections) one c.loop-slot.invariant.swept) at done.joined;
      fit = done.fit;
      near = done.near;
      far = done.far;
    }

pub loop-slot-preserved : goal.loop-slot-preserved
loop-slot-preserved g c =
    let one : c.loop-slot.slot ≡ c.loop-slot.slot - 1 + 1 = omega arith in
    record {
      swept = IsSweptTo-skipped (c.loop-slot.slot - 1) c.args.sections.now c.loop-slot.sections _ c.has_cells.result
          (subst (λ n. IsSweptTo n c.args.sections.now c.loop-slot.sections) one c.loop-slot.invariant.swept) c.has_cells.ensures c.if-has_cells.false;
      fit = c.loop-slot.invariant.fit;
      near = c.loop-slot.invariant.near;
      far = c.loop-slot.invariant.far;
    }

pub returns-clause-swept : goal.returns-clause-swept
returns-clause-swept g c = IsSweptTo-done c.loop-slot.slot c.args.sections.now c.loop-slot.sections c.loop-slot-test.false c.loop-slot.invariant.swept
