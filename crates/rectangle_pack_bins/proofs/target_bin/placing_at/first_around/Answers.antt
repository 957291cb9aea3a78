use Rattle.rectangle_pack_sections.proofs.Std.{◌≡◌, ◌∙◌, ap, refl, subst, arith}
use Rattle.rectangle_pack_sections.specs.Bins.{Held}
use Rattle.rectangle_pack_bins.specs.private.Indices.{IsFirstAroundAt}
use Rattle.rectangle_pack_bins.proofs.lemmas.bins.RoundABox.{first_around_at}
use Rattle.rectangle_pack_bins.proofs.target_bin.placing_at.first_around.Goals as goal

pub returns-then-is_part-clause-some : goal.returns-then-is_part-clause-some
returns-then-is_part-clause-some g c =
    let sections : c.as_slice-sections.result.now ≡ c.args.bin.now.bin.sections =
    c.as_slice-sections.ensures.value ∙ ap (λ (h : Held). h.bin.sections) c.bin.view_is in
    subst (λ xs. IsFirstAroundAt xs c.args.location.now c.loop-i.i) sections
    (subst (λ b. IsFirstAroundAt c.as_slice-sections.result.now b c.loop-i.i) c.section_at-section.ensures
    (first_around_at c.as_slice-sections.result.now c.section_at-section.result c.loop-i.i c.index-sections-i.result (omega (arith, c.loop-i-test.true))
    c.index-sections-i.is (c.if-is_part.ensures.0 refl) c.loop-i.invariant))
