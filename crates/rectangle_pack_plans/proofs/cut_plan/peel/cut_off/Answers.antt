use Rattle.rectangle_pack_sections.proofs.Std.{◌≡◌, [], ◌∷◌, ◌++◌, length, take, Some, ap, refl, ◌∙◌, arith, append_assoc, length-take-le}
use Rattle.rectangle_pack_sections.specs.declared.axis.Axis.TheVariants.{X}
use Rattle.rectangle_pack_plans.specs.declared.cut_plan.Part.{Part}
use Rattle.rectangle_pack_plans.specs.private.CutPlans.{left_in, along}
use Rattle.rectangle_pack_plans.proofs.lemmas.cut_plan.Peel.{IsPeeling-start, IsPeeling-cut, IsPeeling-end, fewer-below, put_next, put_last}
use Rattle.rectangle_pack_plans.proofs.cut_plan.peel.cut_off.Goals as goal

pub loop-split-init : goal.loop-split-init
loop-split-init g c =
    IsPeeling-start _ _ _ _ _ _ _ c.requires.ordered c.requires.same c.requires.length c.requires.count c.requires.some refl refl refl refl

pub cut-below-requires-clause-some : goal.cut-below-requires-clause-some
cut-below-requires-clause-some g c = omega (arith, fewer-below _ _ _ _ _ _ _ _ _ _ c.loop-split.invariant _ (c.in-Some.ensures {u = tt}))

pub overflow_add-end : goal.overflow_add-end
overflow_add-end g c =
    omega (
      arith,
      fewer-below _ _ _ _ _ _ _ _ _ _ c.loop-split.invariant _ (c.in-Some.ensures {u = tt}),
      c.loop-split.invariant.counted,
      c.loop-split.auto.boxes,
    )

pub slice_bounds-to-end : goal.slice_bounds-to-end
slice_bounds-to-end g c =
    omega (arith, fewer-below _ _ _ _ _ _ _ _ _ _ c.loop-split.invariant _ (c.in-Some.ensures {u = tt}), c.loop-split.invariant.counted)

pub loop-split-preserved : goal.loop-split-preserved
loop-split-preserved g c =
    let h = c.loop-split.invariant in
    let split = c.in-Some.ensures {u = tt} in
    let less = fewer-below _ _ _ _ _ _ _ _ _ _ h _ split in
    let to = c.advance-orders.new.to in
    let long : length to ≡ c.in-Some.split.below =
    omega (
      arith,
      ap length c.advance-orders.ensures.taken,
      length-take-le c.in-Some.split.below
          (left_in c.loop-split.rest.whole (along c.in-Some.split.axis c.loop-split.orders.x.now c.loop-split.orders.y.now c.loop-split.orders.z.now)) (omega (arith, split.on_axis.some_above)),
    ) in
    let put = put_next c.loop-split.done c.loop-split.boxes to c.in-Some.split.below (omega (arith, less, h.counted)) long in
    IsPeeling-cut _ _ _ _ _ _ _ _ _ _ h _ split _ _ _ _ c.advance-orders.ensures.kept (ap (λ (p : Part). p.whole) c.cut-below.ensures.upper)
    (ap (λ (p : Part). p.count) c.cut-below.ensures.upper) refl (ap (λ (p : Part). p.before) c.cut-below.ensures.upper) _ _
    (put.0 ∙ ap (λ l. take c.loop-split.done c.loop-split.boxes ++ l) c.advance-orders.ensures.taken) put.1
    ((c.in_ok-push.ensures {u = tt}).items ∙ ap (λ p. c.loop-split.pending.items ++ p ∷ []) c.cut-below.ensures.lower)

pub returns : goal.returns
returns g c =
    let h = c.loop-split.invariant in
    let rest = c.loop-split.rest in
    let last : Part = record { whole = rest.whole; count = rest.count; ordered = Some X; before = rest.before; turns = c.if-done-boxes.turns } in (
      h.made ++ last ∷ [],
      (c.in_ok-push-2.ensures {u = tt}).items ∙ ap (λ l. l ++ last ∷ []) h.pushed ∙ append_assoc c.args.pending.now.items h.made (last ∷ []),
      IsPeeling-end _ _ _ _ _ _ _ _ _ _ h last _ (omega (arith, c.if-done-eq0.false)) refl refl refl refl
          (put_last c.loop-split.done c.loop-split.boxes c.take_off.new.to (left_in rest.whole c.loop-split.orders.x.now) (omega (arith, h.counted, h.left))
          c.take_off.ensures.taken),
    )
