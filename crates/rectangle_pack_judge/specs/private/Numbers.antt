-- Groups that are numbered anew, from 0 on.
use Rattle.std.specs.Prelude.{ℕ, ◌≡◌, ◌<◌, List, [], ◌∷◌, ◌++◌, length, All, Option, Some, None, IsSome, unwrap_or}
use Rattle.std.specs.BTreeMap.{is_at}
use Rattle.std.specs.Map.{lookup}
use Rattle.std.specs.Ordering.{nat_cmp}
use Rattle.rectangle_pack_judge.specs.declared.case.Case.{Case}
use Rattle.rectangle_pack_judge.specs.declared.case.Entry.{Entry}

-- the number of each group is below `groups`
abbrev pub HaveGroups : Case → ℕ → Type 0
HaveGroups case groups = All (λ e. e.group < groups) case.entries.now

-- the number of a group, if it has one
abbrev pub number_at : List (ℕ × ℕ) → ℕ → Option ℕ
number_at numbers group = lookup (is_at (nat_cmp group)) numbers

-- the number of a group; 0 where it has none
abbrev pub number_in : List (ℕ × ℕ) → ℕ → ℕ
number_in numbers group = unwrap_or (number_at numbers group) 0

-- each group of the entries has a number of its own, below the number of groups
pub record AreNumbers (entries : List Entry) (numbers : List (ℕ × ℕ)) : Type 0 where
  pub known : All (λ e. IsSome (number_at numbers e.group)) entries
  pub below : (g r : ℕ) → number_at numbers g ≡ Some r → r < length numbers
  pub apart : (g h r : ℕ) → number_at numbers g ≡ Some r → number_at numbers h ≡ Some r → g ≡ h

-- an entry, in the group of this number
abbrev pub renumbered : List (ℕ × ℕ) → Entry → Entry
renumbered numbers e = record { group = number_in numbers e.group; turning = e.turning }

-- a pair of groups by their numbers, if both have one
abbrev pub pair_of : Option ℕ → Option ℕ → List (ℕ × ℕ)
pair_of (Some a) (Some b) = (a, b) ∷ []
pair_of (Some a) None = []
pair_of None other = []

-- the pairs of groups by their numbers, of which both have one
abbrev pub pairs_in : List (ℕ × ℕ) → List (ℕ × ℕ) → List (ℕ × ℕ)
pairs_in numbers [] = []
pairs_in numbers (pair ∷ pairs) = pair_of (number_at numbers pair.0) (number_at numbers pair.1) ++ pairs_in numbers pairs
