use Rattle.rectangle_pack_sections.proofs.Std.{length, AllWithin}
use Rattle.rectangle_pack_sections.specs.Boxes.{Holds}
use Rattle.rectangle_pack_lists.proofs.free_list.plain.newest.Given as goal

abbrev pub invariant-loop-i : goal.invariant-loop-i
invariant-loop-i l = AllWithin (λ s. ¬ Holds s l.member) l.sections l.i (length l.sections)
