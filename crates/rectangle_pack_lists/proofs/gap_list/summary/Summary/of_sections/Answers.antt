use Rattle.rectangle_pack_sections.proofs.Std.{take, take_more}
use Rattle.rectangle_pack_lists.proofs.lemmas.trial.Summaries.{Bounds-more}
use Rattle.rectangle_pack_lists.proofs.gap_list.summary.Summary.of_sections.Goals as goal

pub loop-section-preserved : goal.loop-section-preserved
loop-section-preserved c =
    let more = take_more c.args.sections.now c.loop-section.section-index c.section-item.result c.loop-section-test.true in
    rw (more, ← c.section-item.is, c.join-summary.ensures, c.of_section.ensures, c.whd.ensures)
    (Bounds-more c.loop-section.summary (take c.loop-section.section-index c.args.sections.now) c.section-item.result c.loop-section.invariant)
