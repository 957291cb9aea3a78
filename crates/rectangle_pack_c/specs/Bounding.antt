-- How many bins a collection of a C caller needs, whatever packer places it.
use Rattle.std.specs.Prelude.{ℕ, ◌≢◌, ◌<◌, List, length, map, All, AllPairs, Option}
use Rattle.std.specs.List.{enumerate_from}
use Rattle.std.specs.Ordering.{nat_cmp}
use Rattle.rectangle_pack_bounds.specs.Arrangements.{different}
use Rattle.rectangle_pack.specs.declared.Turns.{Turns}
use Rattle.rectangle_pack.specs.declared.judge.Case.{Case}
use Rattle.rectangle_pack.specs.declared.judge.Conflict.{Conflict}
use Rattle.rectangle_pack.specs.declared.judge.Conflict.TheVariants.{GroupInTwoBins}
use Rattle.rectangle_pack.specs.Groups.{Collection}
use Rattle.rectangle_pack.specs.Judging.{StandsAlone, IsFree, IsPlaced}
use Rattle.rectangle_pack.specs.Needed.{AreNeededFor, IsShownFor}
use Rattle.rectangle_pack_c.specs.declared.RpBin.{RpBin}
use Rattle.rectangle_pack_c.specs.declared.collection.RpCollection.{RpCollection}
use Rattle.rectangle_pack_c.specs.declared.judging.RpClaim.{RpClaim}
use Rattle.rectangle_pack_c.specs.declared.judging.RpEntry.{RpEntry}
use Rattle.rectangle_pack_c.specs.Arguments.{new_bins}
use Rattle.rectangle_pack_c.specs.Collections.{IsCollected, all_boxes, fault_in, group_order}
use Rattle.rectangle_pack_c.specs.Judging.{IsCaseOf, claim_of}
use Rattle.rectangle_pack_c.specs.Turning.{AreTurnsOf, turns_number}

-- the first thing that is wrong with bins and a collection, as a status, or 0: there are 2^32 bins or more, or boxes and
-- members (`RP_BAD_LENGTHS`); a member names no box (`RP_UNKNOWN_BOX`); a group is excluded with itself
-- (`RP_EQUAL_GROUPS`). It is that of a packing by volume with as many placements as there are to be
abbrev pub fault_with : List RpBin → RpCollection → ℕ
fault_with bins c = fault_in bins c 0 (length (all_boxes c))

-- the number that is shown for the collection of the boxes and members in new bins of these sizes, where they may be
-- turned as the numbers say: no arrangement uses fewer bins; where there is no such number, there is no arrangement
-- Example: of three boxes 6x6x1, each alone, in four bins 10x10x1: 3; in two such bins there is no number
pub record IsLeast (bins : List RpBin) (c : RpCollection) (numbers : List ℕ) (least : Option ℕ) : Type 0 where
  pub all : Collection ℕ ℕ
  pub collected : IsCollected (all_boxes c) c.exclusions.now all
  pub turns : List (ℕ × Turns)
  pub are_turns : AreTurnsOf c numbers turns
  pub needed : AreNeededFor group_order nat_cmp nat_cmp all turns (new_bins bins) least
  pub shown : IsShownFor group_order nat_cmp nat_cmp all turns (new_bins bins) least

-- the boxes and members, as the judge is given them: each with the number that says how it may be turned
abbrev pub entries_with : RpCollection → List ℕ → List RpEntry
entries_with c numbers = map (λ e. record { rect = e.1; turns = turns_number c numbers e.0 }) (enumerate_from 0 (all_boxes c))

-- the claims are a packing of the boxes and members into the bins, by whatever packer: what `rectangle_pack_check` finds no
-- fault with, but that boxes of one group may be in different bins
-- Example: two boxes 6x1x1 of group 1, in two bins 10x1x1: each at (0,0,0) in a bin of its own
pub record IsPackedAnyhow (bins : List RpBin) (c : RpCollection) (numbers : List ℕ) (claims : List RpClaim) : Type 0 where
  pub case : Case
  pub of : IsCaseOf bins (entries_with c numbers) c.exclusions.now case
  pub alone : All (StandsAlone case) (map claim_of claims)
  pub together : AllPairs (λ a b. (kind : Conflict) → kind ≢ GroupInTwoBins → IsFree case kind a b) (map claim_of claims)
  pub whole : (i : ℕ) → i < length (all_boxes c) → IsPlaced case (map claim_of claims) i

-- how many bins the claims name
-- Example: 2 of claims in the bins 4, 0 and 4
abbrev pub bins_claimed : List RpClaim → ℕ
bins_claimed claims = length (different nat_cmp (map (λ c. c.bin) claims))
