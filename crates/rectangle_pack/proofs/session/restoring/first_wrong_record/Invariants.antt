use Rattle.rectangle_pack_sections.proofs.Std.{take}
use Rattle.rectangle_pack_sections.specs.Bins.{bins_of}
use Rattle.rectangle_pack.specs.Restoring.{AreRecorded}
use Rattle.rectangle_pack.specs.private.Restoring.{IsGreatest}
use Rattle.rectangle_pack.proofs.session.restoring.first_wrong_record.Given as goal

abbrev pub invariant-loop-placement : goal.invariant-loop-placement
invariant-loop-placement g l =
    let before = take l.placement l.outstanding in AreRecorded g.B.Ord.cmp (bins_of l.bins.entries) l.next before × IsGreatest l.last before
