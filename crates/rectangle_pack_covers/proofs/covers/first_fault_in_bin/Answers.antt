use Rattle.rectangle_pack_covers.proofs.covers.first_fault_in_bin.Goals as goal

pub returns-in-Err-Outside : goal.returns-in-Err-Outside
returns-in-Err-Outside g c = rw c.in-Err-Outside.field-0-is (rw c.in-Err-Outside.field-0-is at c.in-Err-Outside.ensures)
