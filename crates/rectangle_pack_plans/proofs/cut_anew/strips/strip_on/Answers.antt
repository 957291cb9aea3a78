use Rattle.rectangle_pack_sections.proofs.Std.{ap, arith}
use Rattle.rectangle_pack_sections.specs.declared.span.Span.{Span}
use Rattle.rectangle_pack_sections.proofs.lemmas.cuts.Axes.{stays_in}
use Rattle.rectangle_pack_plans.proofs.cut_anew.strips.strip_on.Goals as goal

pub overflow_sub-thickness : goal.overflow_sub-thickness
overflow_sub-thickness c = omega (
  arith,
  ap (λ (s : Span). s.start) c.of.ensures.is,
  ap (λ (s : Span). s.start) c.of-in-Start.ensures.is,
  stays_in c.args.bounds.now c.args.room.now c.requires.inside c.in-Start.axis,
)

pub overflow_sub-thickness-in-End : goal.overflow_sub-thickness-in-End
overflow_sub-thickness-in-End c = omega (
  arith,
  c.end.ensures,
  c.of-in-End.ensures.ends,
  c.end-in-End.ensures,
  c.of-in-End-2.ensures.ends,
  stays_in c.args.bounds.now c.args.room.now c.requires.inside c.in-End.axis,
)
