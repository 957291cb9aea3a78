use Rattle.rectangle_pack_sections.proofs.Std.{◌≡◌, filter, take}
use Rattle.rectangle_pack_overlaps.specs.private.Parting.{is_kept}
use Rattle.rectangle_pack_overlaps.proofs.parting.kept_on.Given as goal

abbrev pub invariant-loop-part : goal.invariant-loop-part
invariant-loop-part g l = l.kept.items ≡ filter (is_kept l.plane l.side l.limit) (take l.part-index l.parts)
