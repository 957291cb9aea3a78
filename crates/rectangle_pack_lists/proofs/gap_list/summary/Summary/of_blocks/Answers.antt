use Rattle.rectangle_pack_lists.proofs.lemmas.trial.Summaries.{Sums-block, count-block}
use Rattle.rectangle_pack_lists.proofs.gap_list.summary.Summary.of_blocks.Goals as goal

pub join-summary-requires : goal.join-summary-requires
join-summary-requires c = count-block _ c.args.blocks.now c.loop-block.block-index _ c.loop-block-test.true c.requires c.loop-block.invariant

pub loop-block-preserved : goal.loop-block-preserved
loop-block-preserved c = λ places summed.
    rw c.join-summary.ensures (Sums-block _ places _ c.loop-block.block-index _ c.loop-block-test.true summed (c.loop-block.invariant places summed))
