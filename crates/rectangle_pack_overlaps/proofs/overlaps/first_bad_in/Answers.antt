use Rattle.rectangle_pack_sections.proofs.Std.{arith, ◌≡◌, ◌<◌, length, subst, sym}
use Rattle.rectangle_pack_overlaps.specs.private.Piles.{IsPile, IsFirstBadIn}
use Rattle.rectangle_pack_overlaps.proofs.lemmas.Piles.{IsFirstBadIn-none, IsFirstBadIn-more}
use Rattle.rectangle_pack_overlaps.proofs.overlaps.first_bad_in.Goals as goal

pub loop-pile-init : goal.loop-pile-init
loop-pile-init g c = λ bins piles. IsFirstBadIn-none c.args.boxes.now

pub loop-pile-preserved : goal.loop-pile-preserved
loop-pile-preserved g c = λ bins piles.
    let within : c.loop-pile.pile-index < length c.args.piles.now = omega (arith, c.loop-pile-test.true, c.loop-pile.auto.pile-index-end) in
    let pile = piles.each c.loop-pile.pile-index c.pile-item.result (omega (arith, within, piles.as_many)) in
    let parts = c.pile-item.result.items in
    let there : IsPile c.args.boxes.now (length c.args.boxes.now) c.loop-pile.pile-index parts =
    subst (λ v. IsPile c.args.boxes.now (length c.args.boxes.now) c.loop-pile.pile-index v.items) (sym c.pile-item.is) pile in
    IsFirstBadIn-more c.args.boxes.now c.loop-pile.pile-index parts there c.loop-pile.second c.in_ok-second.second (c.loop-pile.invariant bins piles) (rw c.as_slice.ensures.value at c.in_ok-second.ensures)

pub returns : goal.returns
returns g c = λ bins piles.
    let all : c.loop-pile.pile-index ≡ bins = omega (arith, c.loop-pile-test.false, c.loop-pile.auto.pile-index-end, piles.as_many) in
    subst (λ n. IsFirstBadIn c.args.boxes.now n c.loop-pile.second) all (c.loop-pile.invariant bins piles)
