use Rattle.rectangle_pack_sections.proofs.Std.{◌∙◌}
use Rattle.rectangle_pack_packing.proofs.pack.told.rehearse.Goals as goal

pub returns-clause-told : goal.returns-clause-told
returns-clause-told g c =
    let done = rw (c.begin-telling.ensures.collection, c.begin-telling.ensures.now, c.replace-before.ensures.value) at c.in_ok-told.ensures.made in
    rw c.end-after.ensures.placements (_, done)

pub returns-clause-same : goal.returns-clause-same
returns-clause-same g c =
    c.end-after.ensures.bins ∙ c.make_all-told.ensures.start ∙ rw c.replace-before.ensures.value at c.begin-telling.ensures.start

pub returns-in_err-told-clause-same : goal.returns-in_err-told-clause-same
returns-in_err-told-clause-same g c =
    c.end-after.ensures.bins ∙ c.make_all-told.ensures.start ∙ rw c.replace-before.ensures.value at c.begin-telling.ensures.start
