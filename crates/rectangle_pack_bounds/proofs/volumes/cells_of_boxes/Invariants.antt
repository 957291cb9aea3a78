use Rattle.std.proofs.Common.{◌≡◌, take, sum_by}
use Rattle.rectangle_pack_sections.specs.Boxes.{volume_of}
use Rattle.rectangle_pack_bounds.specs.Ratings.{capped}
use Rattle.rectangle_pack_bounds.proofs.volumes.cells_of_boxes.Given as goal

abbrev pub invariant-loop-b : goal.invariant-loop-b
invariant-loop-b l = l.cells ≡ capped (sum_by (λ b. volume_of b.whd) (take l.b-index l.boxes))
