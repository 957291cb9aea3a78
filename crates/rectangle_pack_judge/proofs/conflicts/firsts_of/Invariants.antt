use Rattle.rectangle_pack_judge.specs.private.Firsts.{AreFirsts}
use Rattle.rectangle_pack_judge.proofs.conflicts.firsts_of.Given as goal

abbrev pub invariant-loop-i : goal.invariant-loop-i
invariant-loop-i g l = AreFirsts l.case l.groups l.claims l.i l.firsts.items
