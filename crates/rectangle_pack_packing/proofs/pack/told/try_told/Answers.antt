use Rattle.rectangle_pack_packing.proofs.pack.told.try_told.Goals as goal

pub returns : goal.returns
returns g c = record { told = rw c.into_placements.ensures (c.in_ok-told.ensures.0, c.in_ok-told.ensures.1) }
