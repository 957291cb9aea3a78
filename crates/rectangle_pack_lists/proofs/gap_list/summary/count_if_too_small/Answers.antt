use Rattle.rectangle_pack_sections.proofs.Std.{arith, ◌/◌, ◌-◌, length, take, drop, slice_index_or}
use Rattle.rectangle_pack_lists.specs.private.Summaries.{Sums}
use Rattle.rectangle_pack_lists.specs.declared.gap_list.summary.Summary.{Summary}
use Rattle.rectangle_pack_lists.proofs.lemmas.util.Stretches.{stretch-before}
use Rattle.rectangle_pack_lists.proofs.lemmas.trial.Summaries.{none-held}
use Rattle.rectangle_pack_lists.proofs.gap_list.summary.count_if_too_small.Goals as goal

pub returns-else-may_hold-clause-none : goal.returns-else-may_hold-clause-none
returns-else-may_hold-clause-none c = λ places sums.
    let w = c.args.width in
    let q = c.args.end / w in
    let (begins, below) = stretch-before w q c.args.end (length c.args.summaries.now) (omega arith) c.requires.some c.requires.summed in
    let d : Summary = record { width = 0; height = 0; depth = 0; middle = 0; volume = 0; count = 0 } in
    let s = slice_index_or c.args.summaries.now (q - 1) d in
    let sum : Sums s (take w (drop (c.args.end - w) places)) = rw (← begins) (sums.each (q - 1) d below) in
    none-held s _ _ sum c.if-may_hold.ensures
