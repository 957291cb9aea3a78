use Rattle.rectangle_pack_bounds.specs.Ratings.{bound_by, greatest_by}
use Rattle.rectangle_pack_bounds.specs.private.Rates.{ratings_of}
use Rattle.rectangle_pack_bounds.proofs.lemmas.Greatest.{greatest_more}
use Rattle.rectangle_pack_bounds.proofs.ratings_tried.greatest.Goals as goal

pub loop-width-preserved : goal.loop-width-preserved
loop-width-preserved g c =
    greatest_more (λ w. greatest_by (λ h. greatest_by (λ d. bound_by c.args.fitting.now.bin c.args.fitting.now.boxes.now (ratings_of w h d)) c.args.depths.now) c.args.heights.now)
    c.args.widths.now c.loop-width.width-index c.width-item.result c.loop-width.greatest c.greatest_at.result c.max-greatest.result
    c.loop-width.invariant c.loop-width-test.true c.width-item.is c.greatest_at.ensures c.max-greatest.ensures
