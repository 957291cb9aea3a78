use Rattle.rectangle_pack_lists.proofs.lemmas.joining.Joins.{IsSwept-cells, IsSwept-shorter, IsSwept-KeepCells, IsSwept-sound}
use Rattle.rectangle_pack_lists.proofs.lemmas.joining.Sweeps.{sweep_leaves_no_face}
use Rattle.rectangle_pack_bins.proofs.target_bin.TargetBin.coalesce_all.Goals as goal

pub invariant_of-self : goal.invariant_of-self
invariant_of-self g c = IsSwept-sound c.self.inside.max_size _ _ _ c.self.invariant c.join_all.ensures.swept

pub returns-clause-no_face : goal.returns-clause-no_face
returns-clause-no_face g c = sweep_leaves_no_face _ _ c.join_all.ensures.swept

pub returns-clause-filled : goal.returns-clause-filled
returns-clause-filled g c = λ cell. rw (← c.self.view_is) (IsSwept-cells cell _ _ _ c.join_all.ensures.swept)

pub returns-clause-cells : goal.returns-clause-cells
returns-clause-cells g c = rw (← c.self.view_is) (IsSwept-KeepCells c.self.inside.max_size _ _ _ c.self.invariant c.join_all.ensures.swept)

pub returns-clause-no_longer : goal.returns-clause-no_longer
returns-clause-no_longer g c = rw (← c.self.view_is) (IsSwept-shorter _ _ _ c.join_all.ensures.swept)
