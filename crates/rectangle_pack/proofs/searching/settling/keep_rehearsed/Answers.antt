use Rattle.rectangle_pack_sections.proofs.Std.{refl, true}
use Rattle.rectangle_pack.proofs.lemmas.searching.Settled.{told_failed}
use Rattle.rectangle_pack.proofs.searching.settling.keep_rehearsed.Goals as goal

pub returns-in-Ok : goal.returns-in-Ok
returns-in-Ok g c =
    let told = rw (c.in-Ok.is, c.new-collection.ensures, c.as_slice-steps.ensures.value) at c.try_told_in_sizes.ensures in
    (told.0, told.2 refl, refl, refl)

pub returns : goal.returns
returns g c =
    let told = rw c.in-Err.is at c.try_told_in_sizes.ensures in
    told_failed g.row.A.Denot _ g.Id.Ord.cmp g.BinId.Ord.cmp _ _ _ _ true _ told
