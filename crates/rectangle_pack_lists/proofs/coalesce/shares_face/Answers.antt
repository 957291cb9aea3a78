use Rattle.rectangle_pack_lists.proofs.lemmas.joining.Joins.{face-decides}
use Rattle.rectangle_pack_lists.proofs.coalesce.shares_face.Goals as goal

pub returns : goal.returns
returns c =
    face-decides c.args.a.now c.args.b.now c.spans.result c.spans-2.result _ _ _ c.touches.result c.touches-2.result c.touches-3.result
    c.spans.ensures c.spans-2.ensures c.eq-same_x.ensures c.eq-same_y.ensures c.eq-same_z.ensures c.touches.ensures c.touches-2.ensures c.touches-3.ensures
