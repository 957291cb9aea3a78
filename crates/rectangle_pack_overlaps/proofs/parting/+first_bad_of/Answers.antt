use Rattle.rectangle_pack_sections.proofs.Std.{arith}
use Rattle.std.proofs.lemmas.Result.{IfOk-weaker}
use Rattle.rectangle_pack_overlaps.specs.declared.parting.Side.TheVariants.{Below, Above}
use Rattle.rectangle_pack_overlaps.specs.private.Parting.{IsFound, is_kept}
use Rattle.rectangle_pack_overlaps.proofs.lemmas.Parting.{AreRising-filter, IsFound-by}
use Rattle.rectangle_pack_overlaps.proofs.parting.+first_bad_of.Goals as goal

pub first_bad_of-requires : goal.first_bad_of-requires
first_bad_of-requires g t c κs within =
    let test = is_kept c.in-Some.plane Below c.args.limit in
    (omega (arith, c.decreases, c.if-deep-eq0.false), (within, rw (c.as_slice.ensures.value, c.in_ok-lower.ensures) (AreRising-filter test c.args.parts.now c.requires)))

pub first_bad_of-requires-2 : goal.first_bad_of-requires-2
first_bad_of-requires-2 g t c κs within =
    let test = is_kept c.in-Some.plane Above c.in_ok-found.found in
    (omega (arith, c.decreases, c.if-deep-eq0.false), (within, rw (c.as_slice-2.ensures.value, c.in_ok-upper.ensures) (AreRising-filter test c.args.parts.now c.requires)))

pub returns : goal.returns
returns g t c =
    let parts = c.args.parts.now in
    IfOk-weaker c.first_bad_of-2.result (IsFound c.in_ok-found.found c.as_slice-2.result.now) (IsFound c.args.limit parts)
    (λ last found. IsFound-by c.in-Some.plane parts c.args.limit c.in_ok-found.found last c.requires
    (rw (c.as_slice.ensures.value, c.in_ok-lower.ensures) at c.in_ok-found.ensures)
    (rw (c.as_slice-2.ensures.value, c.in_ok-upper.ensures) at found))
    c.first_bad_of-2.ensures
