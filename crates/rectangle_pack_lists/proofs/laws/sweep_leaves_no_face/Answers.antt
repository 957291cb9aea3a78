use Rattle.rectangle_pack_lists.proofs.lemmas.joining.Sweeps.{sweep_leaves_no_face}
use Rattle.rectangle_pack_lists.proofs.laws.sweep_leaves_no_face.Goals as goal

pub returns : goal.returns
returns c = sweep_leaves_no_face
