use Rattle.std.proofs.Common.{◌≡◌, ◌<◌, ◌≤◌, length, drop, sum}
use Rattle.rectangle_pack_bounds.specs.Ratings.{capped}
use Rattle.rectangle_pack_bounds.proofs.volumes.fewest_with.Given as goal

abbrev pub invariant-loop-first : goal.invariant-loop-first
invariant-loop-first l = record {
  added_up : l.sum ≡ capped (sum (drop l.first l.rising));
  too_few : l.sum < l.cells;
  within : l.first ≤ length l.rising;
}
