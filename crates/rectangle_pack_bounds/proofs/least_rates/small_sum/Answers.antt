use Rattle.std.proofs.Common.{◌*◌, ◌-◌, ◌^◌, min, get_or, ap, ◌∙◌}
use Rattle.rectangle_pack_bounds.proofs.lemmas.LeastRates.{capped_product, sum_more}
use Rattle.rectangle_pack_bounds.proofs.least_rates.small_sum.Goals.{then-are_first-way, else-are_first-way}
use Rattle.rectangle_pack_bounds.proofs.least_rates.small_sum.Goals as goal

pub loop-way-preserved : goal.loop-way-preserved
loop-way-preserved c =
    let rate = c.saturating_mul-rate.ensures ∙ ap (λ area. min (area * get_or c.args.depth.now c.loop-way.way 0) (2 ^ 64 - 1)) c.saturating_mul-area.ensures
    ∙ capped_product (get_or c.args.width.now c.loop-way.way 0 * get_or c.args.height.now c.loop-way.way 0) (get_or c.args.depth.now c.loop-way.way 0) (2 ^ 64 - 1) in
    let more = sum_more (2 ^ 64 - 1) c.args.are_first.now c.args.width.now c.args.height.now c.args.depth.now c.loop-way.way c.loop-way.sum c.loop-way.least
    c.saturating_mul-rate.result c.if-are_first-way.sum c.if-are_first-way.least c.loop-way.invariant c.loop-way-test.true
    c.requires.widths c.requires.heights c.requires.depths rate in
    elim c.if-are_first-way.branch [
      | then-are_first-way w ↦ more (rw w.if-are_first-way.true (w.sum-is ∙ w.saturating_add-sum.ensures)) (rw w.if-are_first-way.true w.least-is)
      | else-are_first-way w ↦ more (rw w.if-are_first-way.false w.sum-is) (rw w.if-are_first-way.false (w.least-is ∙ w.min-least.ensures))
    ]
