use Rattle.rectangle_pack_sections.proofs.Std.{◌-◌, ◌∙◌, ap, subst, arith, IfSome}
use Rattle.rectangle_pack_sections.specs.Bins.{Held}
use Rattle.rectangle_pack_sections.specs.LeastSides.{least_rest}
use Rattle.rectangle_pack_bins.specs.private.Indices.{IsBestFitAt}
use Rattle.rectangle_pack_bins.proofs.lemmas.bins.BestFits.{best-closer, best-none_left, best_fit_at, best_fit_found}
use Rattle.rectangle_pack_bins.proofs.target_bin.placing_best.best_section.Goals as goal

pub returns-then-rest-eq0-clause-some : goal.returns-then-rest-eq0-clause-some
returns-then-rest-eq0-clause-some g c =
    let size = c.bin.inside.max_size in
    let box = c.args.size.now in
    let i = c.loop-i.i - 1 in
    let s = c.index-sections-i.result in
    let rest = c.least_rest-rest.ensures ∙ ap (least_rest size s) c.from-whd.ensures in
    let found = best_fit_at size box c.as_slice-sections.result.now (i, 0)
    (best-none_left size box c.as_slice-sections.result.now i s c.least_rest-rest.result (omega (arith, c.loop-i.auto.i, c.loop-i-test.true))
    c.index-sections-i.is (c.holds.ensures.0 c.if-not-holds.false) rest c.loop-i.best c.loop-i.i (omega (arith, c.loop-i-test.true)) c.if-rest-eq0.true
    c.loop-i.invariant.0 c.loop-i.invariant.1) in
    subst (λ (h : Held). IsBestFitAt h.bin.size h.bin.sections box i 0) c.bin.view_is
    (subst (λ xs. IsBestFitAt size xs box i 0) c.as_slice-sections.ensures.value found)

pub loop-i-preserved : goal.loop-i-preserved
loop-i-preserved g c =
    let size = c.bin.inside.max_size in
    let s = c.index-sections-i.result in
    let rest = c.least_rest-rest.ensures ∙ ap (least_rest size s) c.from-whd.ensures in
    best-closer size c.args.size.now c.as_slice-sections.result.now (c.loop-i.i - 1) s c.least_rest-rest.result
    (omega (arith, c.loop-i.auto.i, c.loop-i-test.true)) c.index-sections-i.is (c.holds.ensures.0 c.if-not-holds.false) rest c.loop-i.best c.closer-best.result
    c.loop-i.i (omega (arith, c.loop-i-test.true)) (omega (arith, c.if-rest-eq0.false)) c.closer-best.ensures.kept c.closer-best.ensures.taken
    c.loop-i.invariant.0 c.loop-i.invariant.1

pub returns-clause-some : goal.returns-clause-some
returns-clause-some g c =
    let size = c.bin.inside.max_size in
    let box = c.args.size.now in
    subst (λ (h : Held). IfSome c.loop-i.best (λ found. IsBestFitAt h.bin.size h.bin.sections box found.0 found.1)) c.bin.view_is
    (subst (λ xs. IfSome c.loop-i.best (λ found. IsBestFitAt size xs box found.0 found.1)) c.as_slice-sections.ensures.value
    (best_fit_found size box c.as_slice-sections.result.now c.loop-i.best c.loop-i.i c.loop-i-test.false c.loop-i.invariant.0))
