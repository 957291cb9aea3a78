use Rattle.std.proofs.Common.{◌≡◌, take}
use Rattle.rectangle_pack_bounds.specs.Ratings.{bound_by, greatest_by}
use Rattle.rectangle_pack_bounds.specs.private.Rates.{ratings_of}
use Rattle.rectangle_pack_bounds.proofs.ratings_tried.greatest_along.Given as goal

abbrev pub invariant-loop-depth : goal.invariant-loop-depth
invariant-loop-depth g l = l.greatest ≡ greatest_by (λ d. bound_by l.fn.fitting.bin l.fn.fitting.boxes.now (ratings_of l.fn.width l.fn.height d)) (take l.depth-index l.depths)
