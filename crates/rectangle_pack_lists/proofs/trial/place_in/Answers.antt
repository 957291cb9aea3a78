use Rattle.rectangle_pack_sections.proofs.Std.{rules, List, [], ◌∷◌, sym, subst, filter}
use Rattle.rectangle_pack_sections.specs.Boxes.{Cuboid, has_cells}
use Rattle.rectangle_pack_lists.specs.Steps.{AreLeft, AreRanked}
use Rattle.rectangle_pack_sections.proofs.lemmas.cuts.Pieces.{length-chosen}
use Rattle.rectangle_pack_lists.proofs.lemmas.trial.StepsByIndex.{AreLeft-three, three_of}
use Rattle.rectangle_pack_lists.proofs.trial.place_in.Goals as goal

pub returns-clause-pieces : goal.returns-clause-pieces
returns-clause-pieces g c =
    let cut : List Cuboid = c.place.result.1 in
    let right = c.index-place-0.result in
    let above = c.index-place-1.result in
    let behind = c.index-place-2.result in
    let allowed = c.place.ensures.pieces in
    let three = three_of cut right above behind (length-chosen c.args.section.now c.args.member.now cut allowed) c.index-place-0.is
    c.index-place-1.is c.index-place-2.is in
    let rate = (g.R.Policy.may c.args.policy.now).rate in
    let (ranked, are_ranked, same) = c.by_falling_rate-pieces.ensures in
    let as_read : AreRanked ((c.rate.result, right) ∷ (c.rate-2.result, above) ∷ (c.rate-3.result, behind) ∷ []) ranked =
    rw (c.index-place-0.is, c.index-place-1.is, c.index-place-2.is) are_ranked in
    let left = AreLeft-three rate cut right above behind c.rate.result c.rate-2.result c.rate-3.result ranked three (search rules) (search rules)
    (search rules) as_read in
    (cut, allowed, subst (λ (bs : List Cuboid). AreLeft rate cut (filter has_cells bs)) (sym same) left)
