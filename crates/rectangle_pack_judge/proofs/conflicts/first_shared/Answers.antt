use Rattle.rectangle_pack_sections.proofs.Std.{◌<◌, ◌∙◌, subst, map, length, All-map, All-weaker}
use Rattle.rectangle_pack_overlaps.specs.Overlaps.{IsOverlapAnswer}
use Rattle.rectangle_pack_judge.specs.Judging.{StandsAlone}
use Rattle.rectangle_pack_judge.proofs.lemmas.Firsts.{standing, IsFirst-clear, IsFirst-shared}
use Rattle.rectangle_pack_judge.proofs.conflicts.first_shared.Goals as goal

pub first_overlap-requires : goal.first_overlap-requires
first_overlap-requires g c =
    let case = c.args.case.now in
    rw (c.as_slice.ensures.value, c.in_ok-boxes.ensures)
    (All-map (λ b. b.bin < length case.bins.now) standing c.args.claims.now
    (All-weaker (StandsAlone case) (λ c. c.bin < length case.bins.now) (λ c h. h.bin) c.args.claims.now c.requires))

pub returns-in-Some : goal.returns-in-Some
returns-in-Some g c =
    let boxes = c.as_slice.ensures.value ∙ c.in_ok-boxes.ensures in
    IsFirst-shared c.args.case.now c.args.claims.now c.in-Some.overlap
    (subst (IsOverlapAnswer (map standing c.args.claims.now)) c.in-Some.is
    (subst (λ bs. IsOverlapAnswer bs c.in_ok-overlap.field-0) boxes c.in_ok-overlap.ensures.answer))

pub returns : goal.returns
returns g c =
    let boxes = c.as_slice.ensures.value ∙ c.in_ok-boxes.ensures in
    IsFirst-clear c.args.case.now c.args.claims.now
    (subst (IsOverlapAnswer (map standing c.args.claims.now)) c.in-None.is
    (subst (λ bs. IsOverlapAnswer bs c.in_ok-overlap.field-0) boxes c.in_ok-overlap.ensures.answer))
