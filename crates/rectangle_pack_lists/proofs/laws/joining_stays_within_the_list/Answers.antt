use Rattle.rectangle_pack_sections.proofs.Std.{length, arith}
use Rattle.rectangle_pack_lists.proofs.lemmas.joining.Sweeps.{IsJoined-past_end, IsJoined-empty, IsJoined-within}
use Rattle.rectangle_pack_lists.proofs.laws.joining_stays_within_the_list.Goals as goal

pub returns-clause-index : goal.returns-clause-index
returns-clause-index c = IsJoined-past_end

pub returns-clause-empty : goal.returns-clause-empty
returns-clause-empty c = IsJoined-empty

pub returns-clause-range : goal.returns-clause-range
returns-clause-range c = λ old new idx lo hi all. (
  (λ joined. IsJoined-within (length old) (omega arith) joined),
  (λ joined. IsJoined-within hi (omega arith) joined),
)
