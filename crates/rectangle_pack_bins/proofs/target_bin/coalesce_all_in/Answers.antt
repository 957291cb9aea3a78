use Rattle.rectangle_pack_lists.proofs.lemmas.joining.Joins.{IsSwept-sound}
use Rattle.rectangle_pack_lists.proofs.lemmas.joining.Sweeps.{sweep_leaves_no_face}
use Rattle.rectangle_pack_bins.proofs.target_bin.coalesce_all_in.Goals as goal

pub invariant_of-bin : goal.invariant_of-bin
invariant_of-bin g c = IsSwept-sound c.bin.inside.max_size _ _ _ c.bin.invariant c.join_all_in.ensures.swept

pub returns-clause-no_face : goal.returns-clause-no_face
returns-clause-no_face g c = sweep_leaves_no_face _ _ c.join_all_in.ensures.swept
