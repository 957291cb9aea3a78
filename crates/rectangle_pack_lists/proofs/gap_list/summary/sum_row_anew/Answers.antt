use Rattle.rectangle_pack_sections.proofs.Std.{arith, ◌≡◌, ◌+◌, ◌-◌, ◌*◌, ◌/◌, set}
use Rattle.rectangle_pack_lists.proofs.lemmas.trial.Summaries.{SumAll-out, SumAll-in, HavePlaces-stretch, Sums-row}
use Rattle.rectangle_pack_lists.proofs.gap_list.summary.sum_row_anew.Goals as goal

pub of_blocks-requires : goal.of_blocks-requires
of_blocks-requires g c = HavePlaces-stretch c.args.blocks.now (c.args.place / 64 * 8) _ (omega arith) c.requires.summed

pub returns-then-row-len-clause-sums : goal.returns-then-row-len-clause-sums
returns-then-row-len-clause-sums g c = λ before content in_blocks in_rows.
    let first = c.args.place / 64 * 8 in
    let eight : first + 8 - first ≡ 8 = omega arith in
    let places = set before c.args.place content in
    let sums = rw eight at c.of_blocks.ensures in
    let row = Sums-row places c.args.blocks.now (c.args.place / 64) c.of_blocks.result (omega arith) in_blocks sums in
    SumAll-in 64 before c.args.rows.now.items c.args.place (c.args.place / 64) content c.of_blocks.result (omega arith) (omega arith) (omega arith) row in_rows

pub returns-else-row-len-clause-sums : goal.returns-else-row-len-clause-sums
returns-else-row-len-clause-sums g c = λ before content in_blocks in_rows. SumAll-out 64 before _ c.args.place content (omega arith) in_rows
