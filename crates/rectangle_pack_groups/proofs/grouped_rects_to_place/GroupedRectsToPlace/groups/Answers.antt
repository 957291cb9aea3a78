use Rattle.rectangle_pack_groups.proofs.lemmas.multimap.Vectors.{keys-lists}
use Rattle.rectangle_pack_groups.proofs.grouped_rects_to_place.GroupedRectsToPlace.groups.Goals as goal

pub returns-clause-ascend : goal.returns-clause-ascend
returns-clause-ascend g c = rw (← c.self.view_is, keys-lists) c.ascending.ensures.ascend
