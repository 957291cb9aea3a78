use Rattle.rectangle_pack_packing.proofs.pack.told.telling.Telling.make.Goals as goal

pub returns-in-Err-clause-made : goal.returns-in-Err-clause-made
returns-in-Err-clause-made g c = (rw c.in-Err.is at c.in_ok-fault.ensures) c.args.heuristic
