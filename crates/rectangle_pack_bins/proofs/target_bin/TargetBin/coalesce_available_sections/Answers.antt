use Rattle.rectangle_pack_lists.proofs.lemmas.joining.Joins.{IsJoined-cells, IsJoined-shorter, IsJoined-KeepCells, IsJoined-sound}
use Rattle.rectangle_pack_bins.proofs.target_bin.TargetBin.coalesce_available_sections.Goals as goal

pub invariant_of-self : goal.invariant_of-self
invariant_of-self g c = IsJoined-sound c.self.inside.max_size c.self.invariant c.join_at.ensures.joined

pub returns-clause-filled : goal.returns-clause-filled
returns-clause-filled g c = λ cell. rw (← c.self.view_is) (IsJoined-cells cell c.join_at.ensures.joined)

pub returns-clause-cells : goal.returns-clause-cells
returns-clause-cells g c = rw (← c.self.view_is) (IsJoined-KeepCells c.self.inside.max_size c.self.invariant c.join_at.ensures.joined)

pub returns-clause-no_longer : goal.returns-clause-no_longer
returns-clause-no_longer g c = rw (← c.self.view_is) (IsJoined-shorter c.join_at.ensures.joined)
