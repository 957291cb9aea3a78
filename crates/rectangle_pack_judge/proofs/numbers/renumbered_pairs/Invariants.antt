use Rattle.rectangle_pack_sections.proofs.Std.{◌≡◌, take}
use Rattle.rectangle_pack_judge.specs.private.Numbers.{pairs_in}
use Rattle.rectangle_pack_judge.proofs.numbers.renumbered_pairs.Given as goal

abbrev pub invariant-loop-pair : goal.invariant-loop-pair
invariant-loop-pair g l = l.all.items ≡ pairs_in l.numbers.entries (take l.pair-index l.excluded)
