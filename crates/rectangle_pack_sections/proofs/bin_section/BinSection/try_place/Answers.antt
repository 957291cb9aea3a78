use Rattle.rectangle_pack_sections.proofs.lemmas.cuts.Pieces.{chosen_tiles, chosen_volumes}
use Rattle.rectangle_pack_sections.proofs.lemmas.cuts.Counting.{tiles_apart, tiles_make_up}
use Rattle.rectangle_pack_sections.proofs.bin_section.BinSection.try_place.Goals as goal

pub returns-clause-tiles : goal.returns-clause-tiles
returns-clause-tiles g c =
    rw c.place_held.ensures.location
    (chosen_tiles c.args.self.now c.args.incoming.now c.place_held.result.1 c.in_ok-check_fit.ensures c.place_held.ensures.pieces)

pub returns-clause-apart : goal.returns-clause-apart
returns-clause-apart g c = tiles_apart _ _ (returns-clause-tiles g c)

pub returns-clause-make_up : goal.returns-clause-make_up
returns-clause-make_up g c = tiles_make_up _ _ (returns-clause-tiles g c)

pub returns-clause-volumes : goal.returns-clause-volumes
returns-clause-volumes g c =
    rw c.place_held.ensures.location
    (chosen_volumes c.args.self.now c.args.incoming.now c.place_held.result.1 c.in_ok-check_fit.ensures c.place_held.ensures.pieces)
