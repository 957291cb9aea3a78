use Rattle.rectangle_pack_sections.proofs.Std.{◌∙◌}
use Rattle.rectangle_pack_packing.proofs.bins_at_work.BinsAtWork.make_ready.Goals as goal
use Rattle.rectangle_pack_packing.proofs.bins_at_work.BinsAtWork.make_ready.Goals.{else-groups-gt1-via-then-groups-gt1+else-self-ge-MANY, else-groups-gt1-via-else-groups-gt1}

pub invariant_of-self : goal.invariant_of-self
invariant_of-self g c = (c.self.invariant.0, λ i. rw (c.make_room.ensures i) tt)

pub invariant_of-self-then-self-ge-MANY : goal.invariant_of-self-then-self-ge-MANY
invariant_of-self-then-self-ge-MANY g c = (c.self.invariant.0, λ i. rw (c.make_room.ensures i) tt)

pub returns-else-groups-gt1 : goal.returns-else-groups-gt1
returns-else-groups-gt1 g c =
    elim c.else-groups-gt1.branch [
      | else-groups-gt1-via-then-groups-gt1+else-self-ge-MANY w ↦ w.self-is ∙ c.self.view_is
      | else-groups-gt1-via-else-groups-gt1 w ↦ w.self-is ∙ c.self.view_is
    ]
