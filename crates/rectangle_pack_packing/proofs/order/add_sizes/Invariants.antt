use Rattle.rectangle_pack_sections.proofs.Std.{◌≡◌, ◌++◌, List, take}
use Rattle.rectangle_pack_sections.specs.Boxes.{Size}
use Rattle.rectangle_pack_packing.proofs.lemmas.packing.Groups.{AreSizesOf}
use Rattle.rectangle_pack_packing.proofs.order.add_sizes.Given as goal

abbrev pub invariant-loop-id : goal.invariant-loop-id
invariant-loop-id g l = (added : List Size) × AreSizesOf g.Id.Ord.cmp l.rects.entries (take l.id-index l.ids) added
    × (l.sizes.items ≡ l.fn.sizes.items ++ added)
