use Rattle.rectangle_pack_sections.proofs.Std.{◌≤◌, ◌+◌, sym, arith, subst, take, take_all, length}
use Rattle.rectangle_pack_judge.proofs.lemmas.Apart.{IsLaterOf, IsLaterOf-at, IsFirst-together}
use Rattle.rectangle_pack_judge.proofs.conflicts.first_together.Goals as goal

pub loop-pair-preserved : goal.loop-pair-preserved
loop-pair-preserved g c =
    let case = c.args.case.now in
    let claims = c.args.claims.now in
    subst (IsLaterOf case claims (take (c.loop-pair.pair-index + 1) case.excluded.now)) (sym c.min-found.ensures)
    (IsLaterOf-at case claims c.loop-pair.pair-index _ c.loop-pair.found c.later_first.result c.loop-pair-test.true c.loop-pair.invariant c.later_first.ensures)

pub returns : goal.returns
returns g c =
    let case = c.args.case.now in
    let claims = c.args.claims.now in
    let all = case.excluded.now in
    let ends : length all ≤ c.loop-pair.pair-index = omega (arith, c.loop-pair-test.false) in
    IsFirst-together case claims c.loop-pair.found (subst (λ pairs. IsLaterOf case claims pairs c.loop-pair.found) (take_all c.loop-pair.pair-index all ends) c.loop-pair.invariant)
