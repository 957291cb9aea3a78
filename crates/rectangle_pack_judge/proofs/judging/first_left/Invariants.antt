use Rattle.rectangle_pack_sections.proofs.Std.{◌≡◌, length}
use Rattle.rectangle_pack_judge.specs.private.Firsts.{AreMarked}
use Rattle.rectangle_pack_judge.proofs.judging.first_left.Given as goal

abbrev pub invariant-loop-claim : goal.invariant-loop-claim
invariant-loop-claim g l = record {
  long : length l.placed.items ≡ length l.case.entries.now;
  marked : AreMarked (λ c. c.entry) l.claims l.claim-index l.placed.items;
}
