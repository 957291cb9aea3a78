use Rattle.rectangle_pack_c.proofs.Std.{◌≢◌, ◌∙◌, ◌<◌, arith, below_more, length}
use Rattle.rectangle_pack_c.proofs.LoopLemmas.{set_here, set_elsewhere}
use Rattle.rectangle_pack_c.proofs.fitting.fill.Goals as goal

pub loop-entry-preserved : goal.loop-entry-preserved
loop-entry-preserved g c =
    let i = c.loop-entry.entry-index in
    let entries = c.loop-entry.entries in
    below_more _ _
    (λ k low. let ne : i ≢ k = omega (arith, low) in set_elsewhere entries i k c.args.value ne ∙ c.loop-entry.invariant k low)
    (let within : i < length entries = omega (arith, c.loop-entry-test.true, c.loop-entry.auto.entries) in set_here entries i c.args.value within)
