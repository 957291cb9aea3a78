use Rattle.std.proofs.lemmas.Result.{IfOk-weaker}
use Rattle.rectangle_pack_sections.proofs.Std.{take}
use Rattle.rectangle_pack_judge.specs.declared.case.Claim.{Claim}
use Rattle.rectangle_pack_judge.specs.declared.case.Conflict.{Conflict}
use Rattle.rectangle_pack_judge.specs.declared.case.Conflict.TheVariants.{PlacedTwice, SharesCell, GroupInTwoBins, ExcludedTogether}
use Rattle.rectangle_pack_judge.specs.Judging.{IsFree, GoTogether}
use Rattle.rectangle_pack_judge.specs.private.Firsts.{IsFirst}
use Rattle.rectangle_pack_judge.proofs.lemmas.Firsts.{free-then, IsFirst-then, IsFirst-same, GoTogether-all, GoTogether-each}
use Rattle.rectangle_pack_judge.proofs.conflicts.first_conflict.Goals as goal

pub first_together-requires-clause-whole : goal.first_together-requires-clause-whole
first_together-requires-clause-whole g c =
    let free : Conflict → Claim → Claim → Type 0 = IsFree c.args.case.now in
    let claims = c.args.claims.now in
    let two = IsFirst-then (free PlacedTwice) (free SharesCell) claims c.in_ok-found.found c.in_ok-found-2.found c.in_ok-found.ensures c.in_ok-found-2.ensures in
    free-then (λ a b. free PlacedTwice a b × free SharesCell a b) (free GroupInTwoBins) claims c.in_ok-found-2.found c.in_ok-found-3.found two c.in_ok-found-3.ensures

pub returns : goal.returns
returns g c =
    let case = c.args.case.now in
    let free : Conflict → Claim → Claim → Type 0 = IsFree case in
    let claims = c.args.claims.now in
    let two = IsFirst-then (free PlacedTwice) (free SharesCell) claims c.in_ok-found.found c.in_ok-found-2.found c.in_ok-found.ensures c.in_ok-found-2.ensures in
    let three = IsFirst-then (λ a b. free PlacedTwice a b × free SharesCell a b) (free GroupInTwoBins) claims c.in_ok-found-2.found c.in_ok-found-3.found two c.in_ok-found-3.ensures in
    let some : Claim → Claim → Type 0 = λ a b. (free PlacedTwice a b × free SharesCell a b) × free GroupInTwoBins a b in
    IfOk-weaker c.first_together.result (IsFirst (free ExcludedTogether) (take c.in_ok-found-3.found claims)) (IsFirst (GoTogether case) claims)
    (λ last h. IsFirst-same (λ a b. some a b × free ExcludedTogether a b) (GoTogether case) claims last (GoTogether-all case) (GoTogether-each case)
    (IsFirst-then some (free ExcludedTogether) claims c.in_ok-found-3.found last three h))
    c.first_together.ensures
