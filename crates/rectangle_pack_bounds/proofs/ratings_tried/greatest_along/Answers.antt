use Rattle.rectangle_pack_bounds.specs.Ratings.{bound_by}
use Rattle.rectangle_pack_bounds.specs.private.Rates.{ratings_of}
use Rattle.rectangle_pack_bounds.proofs.lemmas.Greatest.{greatest_more}
use Rattle.rectangle_pack_bounds.proofs.ratings_tried.greatest_along.Goals as goal

pub loop-depth-preserved : goal.loop-depth-preserved
loop-depth-preserved g c =
    greatest_more (λ d. bound_by c.args.fitting.now.bin c.args.fitting.now.boxes.now (ratings_of c.args.width.now c.args.height.now d))
    c.args.depths.now c.loop-depth.depth-index c.depth-item.result c.loop-depth.greatest c.bound_by.result c.max-greatest.result
    c.loop-depth.invariant c.loop-depth-test.true c.depth-item.is c.bound_by.ensures c.max-greatest.ensures
