use Rattle.rectangle_pack_sections.proofs.Std.{arith, subst, ◌≡◌, ◌<◌, length, sym}
use Rattle.rectangle_pack_overlaps.specs.private.Piles.{ArePiles}
use Rattle.rectangle_pack_overlaps.proofs.lemmas.Piles.{ArePiles-empty, ArePiles-more}
use Rattle.rectangle_pack_overlaps.proofs.overlaps.piles_of.Goals as goal

pub loop-index-init : goal.loop-index-init
loop-index-init g c = ArePiles-empty c.args.boxes.now c.args.bins c.in_ok-piles.piles.items c.in_ok-piles.ensures.0 c.in_ok-piles.ensures.1

pub loop-index-preserved : goal.loop-index-preserved
loop-index-preserved g c =
    let next = c.index-boxes-index.result in
    let known : next.bin < c.args.bins = subst (λ b. b.bin < c.args.bins) (sym c.index-boxes-index.is) (c.requires c.loop-index.index next c.loop-index-test.true) in
    ArePiles-more c.args.boxes.now c.loop-index.index c.args.bins next c.loop-index.piles.items c.index_mut.result.now c.push.new.self
    c.loop-index-test.true c.index-boxes-index.is known c.index_mut.ensures.value c.in_ok-push.ensures.items c.loop-index.invariant

pub returns : goal.returns
returns g c =
    let all : c.loop-index.index ≡ length c.args.boxes.now = omega (arith, c.loop-index-test.false, c.loop-index.auto.index-end) in
    subst (λ n. ArePiles c.args.boxes.now n c.args.bins c.loop-index.piles.items) all c.loop-index.invariant
