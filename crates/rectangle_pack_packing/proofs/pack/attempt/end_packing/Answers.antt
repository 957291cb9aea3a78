use Rattle.rectangle_pack_sections.proofs.Std.{Bool, Ok, sym, ap, ◌∙◌}
use Rattle.rectangle_pack_packing.proofs.pack.attempt.end_packing.Goals as goal
use Rattle.rectangle_pack_packing.proofs.pack.attempt.end_packing.Goals.{in-Ok-true, in-Err}

pub returns-in-Ok : goal.returns-in-Ok
returns-in-Ok g c = elim c.match-packed.branch [
  | in-Ok-true w ↦ (
    w.in-Ok-true.is ∙ ap (λ (b : Bool). Ok b) w.in-Ok-true.field-0-test,
    c.end-bins-in-Ok.ensures.bins,
    c.answer_of.ensures.placements ∙ c.end-bins-in-Ok.ensures.placements,
    rw (c.answer_of.ensures.placements, c.answer_of.ensures.locations, c.end-bins-in-Ok.ensures.placements, ← w.placements.ensures)
        (rw (sym w.last-is ∙ c.in-Ok.is) at w.last_placements-last.ensures),
  )
  | in-Err w ↦ absurd (let e = sym w.last-is ∙ c.in-Ok.is in cc)
]
