use Rattle.std.proofs.Common.{◌-◌, ◌^◌, ◌∙◌}
use Rattle.rectangle_pack_bounds.proofs.lemmas.LeastRates.{sum_more}
use Rattle.rectangle_pack_bounds.proofs.least_rates.large_sum.Goals.{then-are_first-way, else-are_first-way}
use Rattle.rectangle_pack_bounds.proofs.least_rates.large_sum.Goals as goal

pub loop-way-preserved : goal.loop-way-preserved
loop-way-preserved c =
    let more = sum_more (2 ^ 128 - 1) c.args.are_first.now c.args.width.now c.args.height.now c.args.depth.now c.loop-way.way c.loop-way.sum c.loop-way.least
    c.saturating_mul-product.result c.if-are_first-way.sum c.if-are_first-way.least c.loop-way.invariant c.loop-way-test.true
    c.requires.widths c.requires.heights c.requires.depths c.saturating_mul-product.ensures in
    elim c.if-are_first-way.branch [
      | then-are_first-way w ↦ more (rw w.if-are_first-way.true (w.sum-is ∙ w.saturating_add-sum.ensures)) (rw w.if-are_first-way.true w.least-is)
      | else-are_first-way w ↦ more (rw w.if-are_first-way.false w.sum-is) (rw w.if-are_first-way.false (w.least-is ∙ w.min-least.ensures))
    ]
