use Rattle.std.proofs.Common.{◌≡◌, take}
use Rattle.rectangle_pack_bounds.specs.Ratings.{bound_by, greatest_by}
use Rattle.rectangle_pack_bounds.specs.private.Rates.{ratings_of}
use Rattle.rectangle_pack_bounds.proofs.ratings_tried.greatest.Given as goal

abbrev pub invariant-loop-width : goal.invariant-loop-width
invariant-loop-width g l =
    l.greatest ≡ greatest_by (λ w. greatest_by (λ h. greatest_by (λ d. bound_by l.fn.fitting.bin l.fn.fitting.boxes.now (ratings_of w h d)) l.fn.depths) l.fn.heights) (take l.width-index l.widths)
