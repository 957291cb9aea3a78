use Rattle.rectangle_pack_groups.proofs.grouped_rects_to_place.GroupedRectsToPlace.excluded.Goals as goal

pub returns : goal.returns
returns g c = rw (← c.self.view_is) c.has.ensures
