-- The first claim that is in conflict with an earlier one, and the first claim of each group.
use Rattle.std.specs.Prelude.{◌≡◌, ◌≢◌, ℕ, ◌<◌, ◌≤◌, Bool, true, List, length, take, All, AllPairs, Option, Some, None, slice_index_or}
use Rattle.rectangle_pack_judge.specs.declared.case.Case.{Case}
use Rattle.rectangle_pack_judge.specs.declared.case.Claim.{Claim}
use Rattle.rectangle_pack_judge.specs.Judging.{group_of, are_these, StandsAlone, GoTogether, IsTogetherFault}
use Rattle.rectangle_pack_judge.specs.declared.judging.Fault.{Fault}
use Rattle.rectangle_pack_judge.specs.declared.judging.Fault.TheVariants.{Together}

-- the place of the first claim that is not free of an earlier one; the number of claims where there is none
pub record IsFirst (Free : Claim → Claim → Type 0) (claims : List Claim) (found : ℕ) : Type 0 where
  pub at_most : found ≤ length claims
  pub free : AllPairs Free (take found claims)
  pub bad : (d : Claim) → found < length claims → ¬ All (λ a. Free a (slice_index_or claims found d)) (take found claims)

-- for each number whether one of the first `count` claims has it
pub record AreMarked (number : Claim → ℕ) (claims : List Claim) (count : ℕ) (marks : List Bool) : Type 0 where
  pub seen : (k : ℕ) (d : Claim) (e : Bool) → k < count → slice_index_or marks (number (slice_index_or claims k d)) e ≡ true
  pub only : (n : ℕ) (e : Bool) → n < length marks → slice_index_or marks n e ≡ true
      → (k : ℕ) × (k < count) × ((d : Claim) → number (slice_index_or claims k d) ≡ n)

-- for each group the place of its first claim among the first `count`, if it has one
pub record AreFirsts (case : Case) (groups : ℕ) (claims : List Claim) (count : ℕ) (firsts : List (Option ℕ)) : Type 0 where
  pub as_many : length firsts ≡ groups
  pub none : (group : ℕ) (e : Option ℕ) → group < groups → slice_index_or firsts group e ≡ None
      → (k : ℕ) (d : Claim) → k < count → ¬ (group_of case (slice_index_or claims k d) ≡ group)
  pub some : (group : ℕ) (e : Option ℕ) (i : ℕ) → group < groups → slice_index_or firsts group e ≡ Some i
      → (i < count) × ((d : Claim) → group_of case (slice_index_or claims i d) ≡ group)
      × ((k : ℕ) (d : Claim) → k < i → ¬ (group_of case (slice_index_or claims k d) ≡ group))

-- for each group the bin of its claims among the first `count`, if it has one: all are in this bin
pub record AreHomes (case : Case) (groups : ℕ) (claims : List Claim) (count : ℕ) (homes : List (Option ℕ)) : Type 0 where
  pub as_many : length homes ≡ groups
  pub seen : (k : ℕ) (d : Claim) (e : Option ℕ) → k < count
      → slice_index_or homes (group_of case (slice_index_or claims k d)) e ≡ Some (slice_index_or claims k d).bin
  pub only : (group : ℕ) (e : Option ℕ) (bin : ℕ) → group < groups → slice_index_or homes group e ≡ Some bin
      → (k : ℕ) × (k < count) × ((d : Claim) → (group_of case (slice_index_or claims k d) ≡ group) × ((slice_index_or claims k d).bin ≡ bin))

-- the first claim in one bin with an earlier one, as far as their groups are this pair; the number of claims where there is none
pub record IsLater (case : Case) (claims : List Claim) (pair : ℕ × ℕ) (found : ℕ) : Type 0 where
  pub at_most : found ≤ length claims
  pub clear : (i j : ℕ) (d : Claim) → i < j → j < found
      → are_these pair (group_of case (slice_index_or claims i d)) (group_of case (slice_index_or claims j d)) ≡ true
      → group_of case (slice_index_or claims i d) ≢ group_of case (slice_index_or claims j d)
      → (slice_index_or claims i d).bin ≢ (slice_index_or claims j d).bin
  pub bad : found < length claims → (k : ℕ) × (k < found) × ((d : Claim)
      → (are_these pair (group_of case (slice_index_or claims k d)) (group_of case (slice_index_or claims found d)) ≡ true)
      × (group_of case (slice_index_or claims k d) ≢ group_of case (slice_index_or claims found d))
      × ((slice_index_or claims k d).bin ≡ (slice_index_or claims found d).bin))

-- the place of the first claim that may not stand alone; the number of claims where there is none
pub record IsFirstAlone (case : Case) (claims : List Claim) (found : ℕ) : Type 0 where
  pub at_most : found ≤ length claims
  pub alone : All (StandsAlone case) (take found claims)
  pub bad : (d : Claim) → found < length claims → ¬ StandsAlone case (slice_index_or claims found d)

-- what is wrong with a claim beside the earlier ones, if something is
abbrev pub IsTogetherAnswer : Case → List Claim → Claim → Option Fault → Type 0
IsTogetherAnswer case earlier c None = All (λ a. GoTogether case a c) earlier
IsTogetherAnswer case earlier c (Some (Together first second kind)) = (second ≡ length earlier) × IsTogetherFault case earlier c first kind
IsTogetherAnswer case earlier c (Some _) = ⊥
