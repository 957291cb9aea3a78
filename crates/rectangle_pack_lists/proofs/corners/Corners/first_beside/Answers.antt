use Rattle.rectangle_pack_lists.proofs.lemmas.joining.Beside.{axes-beside}
use Rattle.rectangle_pack_lists.proofs.corners.Corners.first_beside.Goals as goal

pub returns : goal.returns
returns g c = axes-beside _ _ _ _ _ _ _ c.at_faces-on_x.ensures c.at_faces-on_y.ensures c.at_faces-on_z.ensures
    c.lesser.ensures.one c.lesser.ensures.first c.lesser.ensures.second c.lesser-2.ensures.one c.lesser-2.ensures.first c.lesser-2.ensures.second
