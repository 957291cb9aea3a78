-- Groups that are excluded with a group.
use Rattle.std.specs.Prelude.{ℕ, ◌≡◌, ◌==◌, ◌&&◌, Bool, not}
use Rattle.std.specs.BTreeSet.{BTreeSet, contains}
use Rattle.std.specs.Ordering.{nat_cmp}
use Rattle.rectangle_pack_judge.specs.declared.case.Case.{Case}
use Rattle.rectangle_pack_judge.specs.Judging.{are_apart, are_these}

-- whether a number is that of another group than this one, and a pair is of both
abbrev pub is_other : ℕ × ℕ → ℕ → ℕ → Bool
is_other pair group n = not (n == group) && are_these pair n group

-- the groups that are excluded with this one
abbrev pub AreExcludedWith : Case → ℕ → BTreeSet ℕ → Type 0
AreExcludedWith case group groups = (n : ℕ) → contains nat_cmp groups n ≡ are_apart case n group
