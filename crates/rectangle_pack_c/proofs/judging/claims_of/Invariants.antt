use Rattle.std.specs.Prelude.{◌≡◌, map, take}
use Rattle.rectangle_pack_c.specs.Judging.{claim_of}
use Rattle.rectangle_pack_c.proofs.judging.claims_of.Given as goal

abbrev pub invariant-loop-claim : goal.invariant-loop-claim
invariant-loop-claim l = l.all.items ≡ map claim_of (take l.claim-index l.claims)
