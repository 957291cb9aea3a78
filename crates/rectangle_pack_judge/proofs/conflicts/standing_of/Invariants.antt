use Rattle.rectangle_pack_sections.proofs.Std.{◌≡◌, map, take}
use Rattle.rectangle_pack_judge.proofs.conflicts.standing_of.Given as goal

abbrev pub invariant-loop-claim : goal.invariant-loop-claim
invariant-loop-claim g l = l.all.items ≡ map (λ c. record { bin = c.bin; section = c.section }) (take l.claim-index l.claims)
