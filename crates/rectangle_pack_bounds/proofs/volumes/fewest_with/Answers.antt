use Rattle.std.proofs.Common.{arith}
use Rattle.rectangle_pack_bounds.proofs.lemmas.Volumes.{too_few_last}
use Rattle.rectangle_pack_bounds.proofs.volumes.fewest_with.Goals as goal

pub returns-then-cells-sum-clause-too_few : goal.returns-then-cells-sum-clause-too_few
returns-then-cells-sum-clause-too_few c =
    λ n few. too_few_last c.args.rising.now c.loop-first.first n c.args.cells (omega arith) (omega arith)

pub returns-clause-too_few : goal.returns-clause-too_few
returns-clause-too_few c =
    λ n few. too_few_last c.args.rising.now c.loop-first.first n c.args.cells (omega arith) (omega arith)
