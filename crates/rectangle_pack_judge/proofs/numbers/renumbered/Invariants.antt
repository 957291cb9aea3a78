use Rattle.rectangle_pack_sections.proofs.Std.{◌≡◌, map, take}
use Rattle.rectangle_pack_judge.specs.private.Numbers.{renumbered}
use Rattle.rectangle_pack_judge.proofs.numbers.renumbered.Given as goal

abbrev pub invariant-loop-entry : goal.invariant-loop-entry
invariant-loop-entry g l = l.all.items ≡ map (renumbered l.numbers.entries) (take l.entry-index l.entries)
