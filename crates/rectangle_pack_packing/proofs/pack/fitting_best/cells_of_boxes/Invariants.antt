use Rattle.rectangle_pack_sections.proofs.Std.{◌≡◌, sum_by, take}
use Rattle.rectangle_pack_lists.specs.Numbers.{saturated}
use Rattle.rectangle_pack_packing.specs.Fitting.{cells_of_box}
use Rattle.rectangle_pack_packing.proofs.pack.fitting_best.cells_of_boxes.Given as goal

abbrev pub invariant-loop-id : goal.invariant-loop-id
invariant-loop-id g l = l.cells ≡ saturated (sum_by (cells_of_box g.Id.Ord.cmp l.rects_to_place) (take l.id-index l.ids))
