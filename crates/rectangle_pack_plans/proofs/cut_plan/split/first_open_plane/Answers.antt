use Rattle.rectangle_pack_sections.proofs.Std.{◌+◌, ◌∙◌, max, ap, sym, subst, arith}
use Rattle.rectangle_pack_sections.specs.declared.span.Span.{Span}
use Rattle.rectangle_pack_sections.specs.Boxes.{FitsU32}
use Rattle.rectangle_pack_plans.proofs.lemmas.cut_plan.Filling.{HaveCellsAndFit-filled}
use Rattle.rectangle_pack_plans.proofs.lemmas.cut_plan.FirstOpen.{IsReached, IsReached-more, IsReached-all, IsReached-open}
use Rattle.rectangle_pack_plans.proofs.cut_plan.split.first_open_plane.Goals as goal
use Rattle.rectangle_pack_plans.proofs.cut_plan.split.first_open_plane.Goals.{else-i-gt0-via-then-i-gt0+else-reach-span, else-i-gt0-via-else-i-gt0}

pub end-requires : goal.end-requires
end-requires c =
    let next = HaveCellsAndFit-filled c.args.whole.now c.args.boxes.now c.requires.filled c.loop-i.i c.index-boxes-i.result c.loop-i-test.true in
    c.of-span.ensures.fits (subst FitsU32 (sym c.index-boxes-i.is) next.1)

pub returns-then-reach-span : goal.returns-then-reach-span
returns-then-reach-span c =
    IsReached-open _ _ _ c.requires.filled c.requires.ordered _ _ _ c.loop-i-test.true c.index-boxes-i.is c.if-i-gt0.true
    (omega (arith, ap (λ (s : Span). s.start) c.of-span.ensures.is, c.if-reach-span.true)) c.loop-i.invariant

pub loop-i-preserved : goal.loop-i-preserved
loop-i-preserved c =
    subst (IsReached c.args.axis c.args.whole.now c.args.boxes.now (c.loop-i.i + 1))
    (sym (c.max-reach.ensures ∙ ap (max c.loop-i.reach) (c.end.ensures ∙ c.of-span.ensures.ends)))
    (IsReached-more _ _ _ c.requires.filled c.requires.ordered _ _ _ c.loop-i-test.true c.index-boxes-i.is (λ some. elim c.else-i-gt0.branch [
      | else-i-gt0-via-then-i-gt0+else-reach-span w ↦ omega (arith, ap (λ (s : Span). s.start) c.of-span.ensures.is, w.if-reach-span.false)
      | else-i-gt0-via-else-i-gt0 w ↦ absurd (omega (arith, w.if-i-gt0.false, some))
    ]) c.loop-i.invariant)

pub returns : goal.returns
returns c = IsReached-all _ _ _ c.requires.filled c.requires.ordered _ _ c.requires.some c.loop-i-test.false c.loop-i.invariant
