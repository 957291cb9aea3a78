use Rattle.rectangle_pack_bounds.proofs.lemmas.Boxes.{bin_bounded}
use Rattle.rectangle_pack_bounds.proofs.lemmas.Intervals.{stack_bounded}
use Rattle.rectangle_pack_bounds.proofs.laws.bins_are_bounded.Goals as goal

pub returns-clause-intervals : goal.returns-clause-intervals
returns-clause-intervals c = stack_bounded

pub returns-clause-boxes : goal.returns-clause-boxes
returns-clause-boxes c = λ bin scales rates boxes f inside apart. bin_bounded bin rates scales f boxes inside apart
