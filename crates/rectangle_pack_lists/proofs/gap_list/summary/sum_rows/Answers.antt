use Rattle.rectangle_pack_sections.proofs.Std.{arith, ◌≡◌, ◌+◌, ◌-◌, ◌*◌}
use Rattle.rectangle_pack_lists.proofs.lemmas.trial.Summaries.{summed-more, HavePlaces-stretch, Sums-row}
use Rattle.rectangle_pack_lists.proofs.lemmas.trial.Rooms.{counted-more}
use Rattle.rectangle_pack_lists.proofs.gap_list.summary.sum_rows.Goals as goal

pub of_blocks-requires : goal.of_blocks-requires
of_blocks-requires g c = HavePlaces-stretch c.args.blocks.now (c.loop-row.row * 8) _ (omega arith) c.requires.summed

pub loop-row-preserved : goal.loop-row-preserved
loop-row-preserved g c =
    let now = c.loop-row.invariant in
    let row = c.loop-row.row in
    let first = row * 8 in
    let more = c.push_reserved.ensures.items in
    let eight : first + 8 - first ≡ 8 = omega arith in
    let sums = rw eight at c.of_blocks.ensures in
    record {
      count = counted-more _ _ c.of_blocks.result row now.count more;
      room = rw c.push_reserved.ensures.capacity now.room;
      each = λ places summed.
          let here = Sums-row places c.args.blocks.now row c.of_blocks.result (omega arith) summed sums in
          rw more (summed-more 64 places _ row c.of_blocks.result now.count here (now.each places summed));
    }
