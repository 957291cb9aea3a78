use Rattle.rectangle_pack_sections.proofs.Std.{length}
use Rattle.rectangle_pack_overlaps.proofs.lemmas.Piles.{AreRising-piles, IsFirstBad-of}
use Rattle.rectangle_pack_overlaps.proofs.overlaps.first_overlap.Goals as goal

pub first_bad_in-requires : goal.first_bad_in-requires
first_bad_in-requires g c = record { rising = rw c.as_slice.ensures.value (AreRising-piles c.args.boxes.now (length c.args.boxes.now) c.args.bins c.in_ok-piles.piles.items c.in_ok-piles.ensures) }

pub overlap_at-requires : goal.overlap_at-requires
overlap_at-requires g c =
    let found = c.in_ok-second.ensures c.args.bins (rw c.as_slice.ensures.value c.in_ok-piles.ensures) in
    IsFirstBad-of c.args.boxes.now c.args.bins c.in_ok-second.second c.requires found
