use Rattle.rectangle_pack_bounds.specs.Ratings.{bound_by, greatest_by}
use Rattle.rectangle_pack_bounds.specs.private.Rates.{ratings_of}
use Rattle.rectangle_pack_bounds.proofs.lemmas.Greatest.{greatest_more}
use Rattle.rectangle_pack_bounds.proofs.ratings_tried.greatest_at.Goals as goal

pub loop-height-preserved : goal.loop-height-preserved
loop-height-preserved g c =
    greatest_more (λ h. greatest_by (λ d. bound_by c.args.fitting.now.bin c.args.fitting.now.boxes.now (ratings_of c.args.width.now h d)) c.args.depths.now)
    c.args.heights.now c.loop-height.height-index c.height-item.result c.loop-height.greatest c.greatest_along.result c.max-greatest.result
    c.loop-height.invariant c.loop-height-test.true c.height-item.is c.greatest_along.ensures c.max-greatest.ensures
