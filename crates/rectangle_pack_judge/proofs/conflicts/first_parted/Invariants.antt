use Rattle.rectangle_pack_sections.proofs.Std.{AllPairs, take}
use Rattle.rectangle_pack_judge.specs.declared.case.Conflict.TheVariants.{GroupInTwoBins}
use Rattle.rectangle_pack_judge.specs.Judging.{IsFree}
use Rattle.rectangle_pack_judge.specs.private.Firsts.{AreHomes}
use Rattle.rectangle_pack_judge.proofs.conflicts.first_parted.Given as goal

abbrev pub invariant-loop-i : goal.invariant-loop-i
invariant-loop-i g l = record {
  homes : AreHomes l.case l.groups l.claims l.i l.homes.items;
  free : AllPairs (IsFree l.case GroupInTwoBins) (take l.i l.claims);
}
