use Rattle.rectangle_pack_sections.proofs.Std.{arith, rules, ◌≡◌, ◌*◌, ◌-◌, ◌++◌, ◌∷◌, [], length, drop, length-append, length-drop, take_all}
use Rattle.rectangle_pack_lists.proofs.lemmas.trial.Summaries.{SumAll-same, SumAll-more, HavePlaces-stretch, Sums-row}
use Rattle.rectangle_pack_lists.proofs.gap_list.summary.sum_last_row.Goals as goal

pub of_blocks-requires : goal.of_blocks-requires
of_blocks-requires g c =
    let long : c.len-summed.result ≡ length c.args.rows.now.items = search rules in
    HavePlaces-stretch c.args.blocks.now (c.len-summed.result * 8) _ (omega (arith, long)) c.requires.summed

pub returns-then-blocks-summed-eq-ROW_BLOCKS-clause-sums : goal.returns-then-blocks-summed-eq-ROW_BLOCKS-clause-sums
returns-then-blocks-summed-eq-ROW_BLOCKS-clause-sums g c = λ before place in_blocks in_rows.
    let rows = c.args.rows.now.items in
    let places = before ++ place ∷ [] in
    let long : c.len-summed.result ≡ length rows = search rules in
    let eight : length c.args.blocks.now - c.len-summed.result * 8 ≡ 8 = search rules in
    let more = length-append before (place ∷ []) in
    let row = Sums-row places c.args.blocks.now (length rows) c.of_blocks.result (omega arith) in_blocks (rw (eight, long) at c.of_blocks.ensures) in
    let rest = take_all 64 (drop (length rows * 64) places) (omega (arith, in_rows.rest, more, length-drop (length rows * 64) places)) in
    rw c.push_reserved.ensures.items
    (SumAll-more 64 before rows place c.of_blocks.result (omega (arith, in_blocks.whole, in_rows.rest, more)) (rw rest at row) in_rows)

pub returns-else-blocks-summed-eq-ROW_BLOCKS-clause-sums : goal.returns-else-blocks-summed-eq-ROW_BLOCKS-clause-sums
returns-else-blocks-summed-eq-ROW_BLOCKS-clause-sums g c = λ before place in_blocks in_rows.
    let long : c.len-summed.result ≡ length c.args.rows.now.items = search rules in
    SumAll-same 64 before _ place (omega (arith, long, in_blocks.rest, length-append before (place ∷ []))) in_rows
