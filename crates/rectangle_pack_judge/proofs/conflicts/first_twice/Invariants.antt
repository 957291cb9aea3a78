use Rattle.rectangle_pack_sections.proofs.Std.{◌≡◌, length, AllPairs, take}
use Rattle.rectangle_pack_judge.specs.declared.case.Conflict.TheVariants.{PlacedTwice}
use Rattle.rectangle_pack_judge.specs.Judging.{IsFree}
use Rattle.rectangle_pack_judge.specs.private.Firsts.{AreMarked}
use Rattle.rectangle_pack_judge.proofs.conflicts.first_twice.Given as goal

abbrev pub invariant-loop-i : goal.invariant-loop-i
invariant-loop-i g l = record {
  long : length l.placed.items ≡ length l.case.entries.now;
  marked : AreMarked (λ c. c.entry) l.claims l.i l.placed.items;
  free : AllPairs (IsFree l.case PlacedTwice) (take l.i l.claims);
}
