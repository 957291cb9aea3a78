-- What a C caller asks the judge, and what is answered.
use Rattle.std.specs.Prelude.{◌≡◌, ℕ, ◌+◌, ◌/◌, ◌%◌, ◌<◌, ◌^◌, ◌==◌, cond, List, map, length, Option, Some, None}
use Rattle.std.specs.List.{enumerate_from}
use Rattle.rectangle_pack.specs.declared.Turns.{Turns}
use Rattle.rectangle_pack.specs.declared.judge.Case.{Case}
use Rattle.rectangle_pack.specs.declared.judge.Claim.{Claim}
use Rattle.rectangle_pack.specs.declared.judge.Entry.{Entry}
use Rattle.rectangle_pack.specs.declared.judge.AloneFault.{AloneFault}
use Rattle.rectangle_pack.specs.declared.judge.AloneFault.TheVariants.{UnknownBin, UnknownEntry, WrongSize, Outside}
use Rattle.rectangle_pack.specs.declared.judge.Conflict.{Conflict}
use Rattle.rectangle_pack.specs.declared.judge.Conflict.TheVariants.{PlacedTwice, SharesCell, GroupInTwoBins, ExcludedTogether}
use Rattle.rectangle_pack.specs.declared.judge.Fault.{Fault}
use Rattle.rectangle_pack.specs.declared.judge.Fault.TheVariants.{Alone, Together, NotPlaced}
use Rattle.rectangle_pack.specs.Judging.{IsVerdict}
use Rattle.rectangle_pack_c.specs.declared.RpBin.{RpBin}
use Rattle.rectangle_pack_c.specs.declared.collection.RpExclusion.{RpExclusion}
use Rattle.rectangle_pack_c.specs.declared.judging.RpEntry.{RpEntry}
use Rattle.rectangle_pack_c.specs.declared.judging.RpClaim.{RpClaim}
use Rattle.rectangle_pack_c.specs.declared.judging.RpFault.{RpFault}
use Rattle.rectangle_pack_c.specs.Arguments.{bin_size, box_size}
use Rattle.rectangle_pack_c.specs.Reading.{cuboid_of}

-- there are fewer than 2^32 bins, boxes and claims
pub record AreFew (bins : List RpBin) (entries : List RpEntry) (claims : List RpClaim) : Type 0 where
  pub few_bins : length bins < 2 ^ 32
  pub few_entries : length entries < 2 ^ 32
  pub few_claims : length claims < 2 ^ 32

-- about which axes a box may be turned: 1 stands for x, 2 for y and 4 for z, and they are added up
-- Example: 5 is about x and about z
abbrev pub turns_of : ℕ → Turns
turns_of n = record { about_x = n % 2 == 1; about_y = n / 2 % 2 == 1; about_z = n / 4 % 2 == 1 }

-- a box as the judge has it. A box in group 0 is in a group of its own, whose number no other group has
abbrev pub entry_of : ℕ → RpEntry → Entry
entry_of i e = record {
  group = cond (e.rect.group == 0) (2 ^ 32 + i) e.rect.group;
  turning = record { whd = box_size e.rect; turns = turns_of e.turns };
}

-- all boxes, as the judge has them
abbrev pub entries_of : List RpEntry → List Entry
entries_of entries = map (λ e. entry_of e.0 e.1) (enumerate_from 0 entries)

-- the groups of an exclusion
abbrev pub pair_of : RpExclusion → ℕ × ℕ
pair_of e = (e.one, e.other)

-- a claim, as the judge has it
abbrev pub claim_of : RpClaim → Claim
claim_of c = record { entry = c.entry; bin = c.bin; section = cuboid_of c.section }

-- the case of these bins, boxes and exclusions
pub record IsCaseOf (bins : List RpBin) (entries : List RpEntry) (exclusions : List RpExclusion) (case : Case) : Type 0 where
  pub bins_are : case.bins.now ≡ map bin_size bins
  pub entries_are : case.entries.now ≡ entries_of entries
  pub excluded_are : case.excluded.now ≡ map pair_of exclusions

-- what the judge says of these claims (`IsVerdict`)
abbrev pub IsVerdictOf : List RpBin → List RpEntry → List RpExclusion → List RpClaim → Option Fault → Type 0
IsVerdictOf bins entries exclusions claims found = (case : Case) × IsCaseOf bins entries exclusions case × IsVerdict case (map claim_of claims) found

-- what is wrong with a claim alone, by its number
abbrev pub alone_number : AloneFault → ℕ
alone_number UnknownBin = 1
alone_number UnknownEntry = 2
alone_number WrongSize = 3
alone_number Outside = 4

-- what is wrong with two claims, by its number
abbrev pub conflict_number : Conflict → ℕ
conflict_number PlacedTwice = 5
conflict_number SharesCell = 6
conflict_number GroupInTwoBins = 7
conflict_number ExcludedTogether = 8

-- what is wrong, by the number of it, and the claims or the box
abbrev pub fault_of : Option Fault → RpFault
fault_of None = record { kind = 0; first = 0; second = 0 }
fault_of (Some (Alone claim fault)) = record { kind = alone_number fault; first = claim; second = 0 }
fault_of (Some (Together first second kind)) = record { kind = conflict_number kind; first = first; second = second }
fault_of (Some (NotPlaced entry)) = record { kind = 9; first = entry; second = 0 }

-- what is written of claims that were checked: what the judge says of them
abbrev pub IsChecked : List RpBin → List RpEntry → List RpExclusion → List RpClaim → RpFault → Type 0
IsChecked bins entries exclusions claims fault = (found : Option Fault) × IsVerdictOf bins entries exclusions claims found × (fault ≡ fault_of found)
