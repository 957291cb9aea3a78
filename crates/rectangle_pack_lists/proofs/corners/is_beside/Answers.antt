use Rattle.rectangle_pack_sections.proofs.Std.{arith}
use Rattle.rectangle_pack_lists.proofs.lemmas.joining.Corners.{beside-decides}
use Rattle.rectangle_pack_lists.proofs.corners.is_beside.Goals as goal

pub returns : goal.returns
returns c = beside-decides c.args.sections.now c.args.slot c.args.other c.has_cells.result c.shares_face.result c.index-sections-slot.result
    c.index-sections-other.result c.requires.full (omega arith) c.index-sections-slot.is c.index-sections-other.is c.has_cells.ensures c.shares_face.ensures
