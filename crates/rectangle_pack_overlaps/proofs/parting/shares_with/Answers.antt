use Rattle.std.proofs.Common.{ℕ, ◌<◌, length, rules, tests}
use Rattle.std.specs.List.{HoldsAt}
use Rattle.std.proofs.lemmas.Iterator.{cases_from_any, YieldsList-from_slice}
use Rattle.rectangle_pack_sections.specs.Boxes.{SharesCell, AreApart}
use Rattle.rectangle_pack_overlaps.proofs.lemmas.Parting.{MatchBool-all}
use Rattle.rectangle_pack_overlaps.proofs.parting.shares_with.Goals as goal

pub returns : goal.returns
returns c =
    let parts = c.args.parts.now in
    let section = c.args.section.now in
    MatchBool-all c.any.result ((k : ℕ) × (k < length parts) × HoldsAt (λ p. SharesCell p.section section) parts k)
    (λ p. AreApart p.section section) parts
    (cases_from_any _ _ c.any.result (λ p. SharesCell p.section section) (λ p. AreApart p.section section) c.any.ensures.ran
    (YieldsList-from_slice parts cc) (λ x q k. search (rules, tests)) (λ x q k. search (rules, tests)))
