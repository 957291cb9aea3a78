use Rattle.rectangle_pack_sections.proofs.Std.{◌≡◌, ◌-◌, ◌+◌, ◌≤◌, length, get_or, refl, ap, sym, ◌∙◌, subst, arith}
use Rattle.rectangle_pack_sections.specs.declared.span.Span.{Span}
use Rattle.rectangle_pack_sections.specs.Boxes.{FitsU32}
use Rattle.rectangle_pack_plans.proofs.lemmas.cut_plan.Filling.{HaveCellsAndFit-filled}
use Rattle.rectangle_pack_plans.proofs.lemmas.cut_plan.Strips.{IsSplit-strip}
use Rattle.rectangle_pack_plans.proofs.cut_plan.strip.last_strip.Goals as goal

pub strip_on-requires-clause-section : goal.strip_on-requires-clause-section
strip_on-requires-clause-section c =
    let boxes = c.args.boxes.now in
    let last = HaveCellsAndFit-filled c.args.part.now boxes c.requires (length boxes - 1) c.index-boxes-below-2.result (omega (arith, c.if-boxes-lt2.false)) in
    subst FitsU32 (sym c.index-boxes-below-2.is) last.1

pub runs_up_to-requires : goal.runs_up_to-requires
runs_up_to-requires c =
    let boxes = c.args.boxes.now in
    let next = HaveCellsAndFit-filled c.args.part.now boxes c.requires (length boxes - 1 - 1) c.index-boxes-below.result (omega (arith, c.if-boxes-lt2.false)) in
    subst FitsU32 (sym c.index-boxes-below.is) next.1

pub returns : goal.returns
returns c =
    let boxes = c.args.boxes.now in
    let next = c.index-boxes-below.result in
    let last = c.index-boxes-below-2.result in
    let many : 2 ≤ length boxes = omega (arith, c.if-boxes-lt2.false) in
    let first : length boxes - 1 - 1 ≡ length boxes - 2 = omega (arith, many) in
    let second : length boxes - 1 ≡ length boxes - 2 + 1 = omega (arith, many) in
    IsSplit-strip boxes (length boxes - 2) next last (omega (arith, many)) (c.index-boxes-below.is ∙ ap (λ k. get_or boxes k next) first)
    (c.index-boxes-below-2.is ∙ ap (λ k. get_or boxes k last) second) c.in_ok-axis.axis c.args.part.now _ c.requires (c.in_ok-axis.ensures {u = tt})
    c.if-not-runs_up_to.ensures.from c.if-not-runs_up_to.ensures.to refl (ap (λ (s : Span). s.start) c.of.ensures.is) second refl
