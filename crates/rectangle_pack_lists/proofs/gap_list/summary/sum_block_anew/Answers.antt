use Rattle.rectangle_pack_sections.proofs.Std.{arith, ◌≡◌, ◌+◌, ◌-◌, ◌*◌, ◌/◌}
use Rattle.rectangle_pack_lists.proofs.lemmas.trial.Places.{block-places_of}
use Rattle.rectangle_pack_lists.proofs.lemmas.trial.Summaries.{SumAll-out, SumAll-in}
use Rattle.rectangle_pack_lists.proofs.gap_list.summary.sum_block_anew.Goals as goal

pub returns-then-block-len-clause-sums : goal.returns-then-block-len-clause-sums
returns-then-block-len-clause-sums g c = λ before content e sums.
    let first = c.args.place / 8 * 8 in
    let same : first + 8 - first ≡ 8 = omega arith in
    let stretch = block-places_of 8 (c.args.place / 8) c.args.sections.now c.args.gaps.now 0 (omega arith) (omega arith) in
    rw e (SumAll-in 8 before _ c.args.place _ content c.of.result (omega arith) (omega arith) (omega arith)
    (rw (← e) (rw (same, ← stretch) at c.of.ensures)) sums)

pub returns-else-block-len-clause-sums : goal.returns-else-block-len-clause-sums
returns-else-block-len-clause-sums g c = λ before content e sums. rw e (SumAll-out 8 before _ c.args.place content (omega arith) sums)
