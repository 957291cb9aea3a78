use Rattle.rectangle_pack_packing.proofs.lemmas.determinism.OneLocations.{locations_alike}
use Rattle.rectangle_pack_packing.proofs.laws.locations_follow_placements.Goals as goal

pub returns : goal.returns
returns g c = λ ps qs found other_found alike last other_last.
    locations_alike g.Id.Ord.cmp g.BinId.Ord.cmp g.met.Id.Ord.total g.met.BinId.Ord.total ps qs alike found other_found last other_last
