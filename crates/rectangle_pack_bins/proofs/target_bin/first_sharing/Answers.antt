use Rattle.rectangle_pack_sections.proofs.Std.{refl, take, take_more, All-push}
use Rattle.rectangle_pack_sections.specs.Boxes.{AreApart}
use Rattle.rectangle_pack_bins.proofs.lemmas.bins.SoundBins.{first_at}
use Rattle.rectangle_pack_bins.proofs.target_bin.first_sharing.Goals as goal

pub returns-then-overlaps-clause-first : goal.returns-then-overlaps-clause-first
returns-then-overlaps-clause-first c =
    first_at c.args.sections.now c.args.section.now c.loop-s.s-index c.s-item.result c.loop-s-test.true c.s-item.is c.loop-s.invariant
    (c.if-overlaps.ensures.shares.0 refl)

pub loop-s-preserved : goal.loop-s-preserved
loop-s-preserved c =
    let sections = c.args.sections.now in
    let i = c.loop-s.s-index in
    rw (take_more sections i c.s-item.result c.loop-s-test.true, ← c.s-item.is)
    (All-push (λ s. AreApart s c.args.section.now) (take i sections) c.s-item.result c.loop-s.invariant c.if-overlaps.ensures.apart)
