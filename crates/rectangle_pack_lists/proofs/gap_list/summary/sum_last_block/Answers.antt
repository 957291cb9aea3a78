use Rattle.rectangle_pack_sections.proofs.Std.{arith, rules, ◌≡◌, ◌*◌, ◌-◌, ap, length, length-append, length-drop, ◌∷◌, [], drop, take_all}
use Rattle.rectangle_pack_lists.specs.private.GapBits.{flags_of}
use Rattle.rectangle_pack_lists.specs.private.Places.{places_of}
use Rattle.rectangle_pack_lists.proofs.lemmas.trial.Places.{length-places_of, block-places_of}
use Rattle.rectangle_pack_lists.proofs.lemmas.trial.Summaries.{SumAll-same, SumAll-more}
use Rattle.rectangle_pack_lists.proofs.gap_list.summary.sum_last_block.Goals as goal

pub returns-then-sections-summed-eq-BLOCK-clause-sums : goal.returns-then-sections-summed-eq-BLOCK-clause-sums
returns-then-sections-summed-eq-BLOCK-clause-sums g c = λ before place e sums.
    let sections = c.args.sections.now in
    let gaps = c.args.gaps.now in
    let width = length sections - c.len-block.result * 8 in
    let first = c.len-block.result * 8 in
    let long : c.len-block.result ≡ length c.args.blocks.now.items = search rules in
    let places = drop first (places_of sections (flags_of gaps)) in
    let short = take_all width places (omega (arith, length-drop first (places_of sections (flags_of gaps)), length-places_of sections (flags_of gaps))) in
    rw (e, c.push_reserved.ensures.items) (SumAll-more 8 before _ place c.of.result
    (omega (arith, long, length-places_of sections (flags_of gaps), ap length e, length-append before (place ∷ [])))
    (rw (← long, ← e) (rw (← block-places_of width c.len-block.result sections gaps 0 (omega arith) (omega arith), short) at c.of.ensures)) sums)

pub returns-else-sections-summed-eq-BLOCK-clause-sums : goal.returns-else-sections-summed-eq-BLOCK-clause-sums
returns-else-sections-summed-eq-BLOCK-clause-sums g c = λ before place e sums.
    let long : c.len-block.result ≡ length c.args.blocks.now.items = search rules in
    let all = length-places_of c.args.sections.now (flags_of c.args.gaps.now) in
    rw e (SumAll-same 8 before _ place (omega (arith, long, all, ap length e, length-append before (place ∷ []))) sums)
