use Rattle.rectangle_pack_sections.proofs.Std.{ap, sym, ◌∙◌, subst}
use Rattle.rectangle_pack_sections.specs.declared.span.Span.{Span}
use Rattle.rectangle_pack_sections.specs.CutTrees.{IsPlaceOf}
use Rattle.rectangle_pack_plans.proofs.lemmas.cut_anew.Strips.{IsPlaceOf-side}
use Rattle.rectangle_pack_plans.proofs.cut_anew.strips.cut_off.Goals as goal

pub lower-requires : goal.lower-requires
lower-requires c = subst (λ n. IsPlaceOf c.in-Start.axis n c.args.room.now) (sym (ap (λ (s : Span). s.start) c.of-place.ensures.is))
    (IsPlaceOf-side c.in-Start.axis c.args.bounds.now c.args.room.now c.requires.inside).0

pub upper-requires-clause-place : goal.upper-requires-clause-place
upper-requires-clause-place c = subst (λ n. IsPlaceOf c.in-Start.axis n c.args.room.now) (sym (ap (λ (s : Span). s.start) c.of-place.ensures.is))
    (IsPlaceOf-side c.in-Start.axis c.args.bounds.now c.args.room.now c.requires.inside).0

pub upper-requires-in-End-clause-place : goal.upper-requires-in-End-clause-place
upper-requires-in-End-clause-place c = subst (λ n. IsPlaceOf c.in-End.axis n c.args.room.now) (sym (c.end-place.ensures ∙ c.of.ensures.ends))
    (IsPlaceOf-side c.in-End.axis c.args.bounds.now c.args.room.now c.requires.inside).1

pub lower-requires-in-End : goal.lower-requires-in-End
lower-requires-in-End c = subst (λ n. IsPlaceOf c.in-End.axis n c.args.room.now) (sym (c.end-place.ensures ∙ c.of.ensures.ends))
    (IsPlaceOf-side c.in-End.axis c.args.bounds.now c.args.room.now c.requires.inside).1
