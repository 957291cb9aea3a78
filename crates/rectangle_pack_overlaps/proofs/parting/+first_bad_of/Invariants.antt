use Rattle.rectangle_pack_overlaps.proofs.parting.+first_bad_of.Given as goal

abbrev pub decreases-first_bad_of : goal.decreases-first_bad_of
decreases-first_bad_of g l = l.deep
