use Rattle.rectangle_pack_sections.proofs.Std.{arith, length, ◌≡◌, ◌+◌, ◌-◌, ◌*◌, ◌/◌}
use Rattle.rectangle_pack_lists.specs.private.GapBits.{flags_of}
use Rattle.rectangle_pack_lists.proofs.lemmas.trial.Places.{block-places_of, length-places_of}
use Rattle.rectangle_pack_lists.proofs.lemmas.trial.Summaries.{summed-more}
use Rattle.rectangle_pack_lists.proofs.lemmas.trial.Rooms.{counted-more}
use Rattle.rectangle_pack_lists.proofs.gap_list.summary.sum_blocks.Goals as goal

pub loop-block-preserved : goal.loop-block-preserved
loop-block-preserved g c =
    let now = c.loop-block.invariant in
    let block = c.loop-block.block in
    let first = block * 8 in
    let more = c.push_reserved.ensures.items in
    let same : first + 8 - first ≡ 8 = omega arith in
    let here = rw (same, ← block-places_of 8 block c.args.sections.now c.args.gaps.now 0 (omega arith) (omega arith)) at c.of.ensures in
    record {
      count = counted-more _ _ c.of.result block now.count more;
      room = rw c.push_reserved.ensures.capacity now.room;
      each = rw more (summed-more 8 _ _ block c.of.result now.count here now.each);
    }

pub returns-clause-sums : goal.returns-clause-sums
returns-clause-sums g c =
    let now = c.loop-block.invariant in
    let all = length-places_of c.args.sections.now (flags_of c.args.gaps.now) in
    let count : c.loop-block.block ≡ length c.args.sections.now / 8 = omega arith in
    record {
      whole = omega (arith, now.count, count, all);
      rest = omega (arith, now.count, count, all);
      each = λ k d lt. now.each k d (omega (arith, now.count));
    }
