use Rattle.rectangle_pack_packing.proofs.pack.told.tell.Goals as goal

pub returns : goal.returns
returns g c = rw c.own-collection.ensures at c.try_told_in_sizes.ensures
