use Rattle.rectangle_pack_sections.proofs.Std.{◌+◌, max, [], ◌∷◌, length, take, ap, sym, ◌∙◌, subst, arith, length-append, take_all}
use Rattle.std.proofs.lemmas.List.Kept.{IsNonDecreasingBy-filter}
use Rattle.rectangle_pack_sections.specs.declared.span.Span.{Span}
use Rattle.rectangle_pack_sections.specs.Boxes.{FitsU32, start}
use Rattle.rectangle_pack_plans.specs.private.CutPlans.{is_left, left_in}
use Rattle.rectangle_pack_plans.proofs.lemmas.cut_plan.Filling.{HaveCellsAndFit-filled}
use Rattle.rectangle_pack_plans.proofs.lemmas.cut_plan.FirstOpen.{IsReached, IsReached-more, IsReached-all, IsReached-open}
use Rattle.rectangle_pack_plans.proofs.lemmas.cut_plan.Left.{at_left, left_within, passing_more}
use Rattle.rectangle_pack_plans.proofs.cut_plan.peel.look_along.Goals as goal
use Rattle.rectangle_pack_plans.proofs.cut_plan.peel.look_along.Goals.{else-below-gt0-via-then-below-gt0+else-reach-span, else-below-gt0-via-else-below-gt0}

pub returns-then-reach-span : goal.returns-then-reach-span
returns-then-reach-span c =
    let part = c.args.part.now in
    let order = c.args.order.now in
    let place = at_left part order c.loop-next.next-index c.loop-next.below c.next-item.result c.loop-next.invariant.below c.loop-next-test.true c.next-item.is
    (sym c.is_left.ensures ∙ c.if-not-is_left.false) in
    IsReached-open _ _ _ c.requires.filled (IsNonDecreasingBy-filter (start c.args.axis) (is_left part) order c.requires.ordered) _ _ _ place.0 place.1
    c.if-below-gt0.true (omega (arith, ap (λ (s : Span). s.start) c.of-span.ensures.is, c.if-reach-span.true)) c.loop-next.invariant.reached

pub end-requires : goal.end-requires
end-requires c =
    let part = c.args.part.now in
    let order = c.args.order.now in
    let place = at_left part order c.loop-next.next-index c.loop-next.below c.next-item.result c.loop-next.invariant.below c.loop-next-test.true c.next-item.is
    (sym c.is_left.ensures ∙ c.if-not-is_left.false) in
    let next = HaveCellsAndFit-filled part (left_in part order) c.requires.filled c.loop-next.below c.next-item.result place.0 in
    c.of-span.ensures.fits (subst FitsU32 (sym place.1) next.1)

pub returns-then-end-reach : goal.returns-then-end-reach
returns-then-end-reach c =
    let part = c.args.part.now in
    let order = c.args.order.now in
    let place = at_left part order c.loop-next.next-index c.loop-next.below c.next-item.result c.loop-next.invariant.below c.loop-next-test.true c.next-item.is
    (sym c.is_left.ensures ∙ c.if-not-is_left.false) in
    let more = IsReached-more c.args.axis part (left_in part order) c.requires.filled
    (IsNonDecreasingBy-filter (start c.args.axis) (is_left part) order c.requires.ordered) c.loop-next.below c.loop-next.reach c.next-item.result place.0 place.1
    (λ some. elim c.else-below-gt0.branch [
      | else-below-gt0-via-then-below-gt0+else-reach-span w ↦ omega (arith, ap (λ (s : Span). s.start) c.of-span.ensures.is, w.if-reach-span.false)
      | else-below-gt0-via-else-below-gt0 w ↦ absurd (omega (arith, w.if-below-gt0.false, some))
    ]) c.loop-next.invariant.reached in
    λ q is_open. more.closed q (omega (
      arith,
      is_open.before_end,
      c.max-reach.ensures,
      c.end.ensures,
      c.of-span.ensures.ends,
      c.end-in-loop-next.ensures,
      c.of-whole.ensures.ends,
      c.if-end-reach.true,
    )) is_open

pub overflow_add-below : goal.overflow_add-below
overflow_add-below c =
    omega (arith, c.loop-next.invariant.below, left_within c.args.part.now c.args.order.now c.loop-next.next-index, c.loop-next-test.true)

pub loop-next-preserved : goal.loop-next-preserved
loop-next-preserved c =
    let part = c.args.part.now in
    let order = c.args.order.now in
    let passes = sym c.is_left.ensures ∙ c.if-not-is_left.false in
    let place = at_left part order c.loop-next.next-index c.loop-next.below c.next-item.result c.loop-next.invariant.below c.loop-next-test.true c.next-item.is
    passes in
    record {
      reached = subst (IsReached c.args.axis part (left_in part order) (c.loop-next.below + 1))
          (sym (c.max-reach.ensures ∙ ap (max c.loop-next.reach) (c.end.ensures ∙ c.of-span.ensures.ends)))
          (IsReached-more c.args.axis part (left_in part order) c.requires.filled
          (IsNonDecreasingBy-filter (start c.args.axis) (is_left part) order c.requires.ordered) _ _ _ place.0 place.1 (λ some. elim c.else-below-gt0.branch [
            | else-below-gt0-via-then-below-gt0+else-reach-span w ↦ omega (arith, ap (λ (s : Span). s.start) c.of-span.ensures.is, w.if-reach-span.false)
            | else-below-gt0-via-else-below-gt0 w ↦ absurd (omega (arith, w.if-below-gt0.false, some))
          ]) c.loop-next.invariant.reached);
      below = omega (
        arith,
        c.loop-next.invariant.below,
        ap length (passing_more (is_left part) order c.loop-next.next-index c.next-item.result c.loop-next-test.true c.next-item.is passes),
        length-append (left_in part (take c.loop-next.next-index order)) (c.next-item.result ∷ []),
      );
    }

pub returns : goal.returns
returns c =
    let part = c.args.part.now in
    let order = c.args.order.now in
    IsReached-all _ _ _ c.requires.filled (IsNonDecreasingBy-filter (start c.args.axis) (is_left part) order c.requires.ordered) _ _ c.requires.some
    (omega (arith, c.loop-next.invariant.below, ap (λ l. length (left_in part l)) (take_all c.loop-next.next-index order c.loop-next-test.false)))
    c.loop-next.invariant.reached
