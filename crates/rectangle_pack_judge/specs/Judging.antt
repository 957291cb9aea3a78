-- Packings of whoever made them: which boxes stand where, and what may be wrong with that.
use Rattle.std.specs.Prelude.{◌≡◌, ◌≢◌, ℕ, ◌<◌, ◌≤◌, ◌==◌, ◌&&◌, ◌||◌, Bool, true, false, not, List, length, All, AllPairs, Any, Contains, HoldsAt, Option, Some, None, slice_index_or}
use Rattle.std.specs.List.{list_any}
use Rattle.rectangle_pack_sections.specs.Boxes.{IsInside, AreApart, SharesCell as ShareCell}
use Rattle.rectangle_pack_bounds.specs.Turning.{ways}
use Rattle.rectangle_pack_overlaps.specs.Places.{At}
use Rattle.rectangle_pack_judge.specs.declared.case.Case.{Case}
use Rattle.rectangle_pack_judge.specs.declared.case.Claim.{Claim}
use Rattle.rectangle_pack_judge.specs.declared.case.Entry.{Entry}
use Rattle.rectangle_pack_judge.specs.declared.case.AloneFault.{AloneFault}
use Rattle.rectangle_pack_judge.specs.declared.case.AloneFault.TheVariants.{UnknownBin, UnknownEntry, WrongSize, Outside}
use Rattle.rectangle_pack_judge.specs.declared.case.Conflict.{Conflict}
use Rattle.rectangle_pack_judge.specs.declared.case.Conflict.TheVariants.{PlacedTwice, SharesCell, GroupInTwoBins, ExcludedTogether}
use Rattle.rectangle_pack_judge.specs.declared.judging.Fault.{Fault}
use Rattle.rectangle_pack_judge.specs.declared.judging.Fault.TheVariants.{Alone, Together, NotPlaced}

-- whether a pair is of these two numbers, in either order
abbrev pub are_these : ℕ × ℕ → ℕ → ℕ → Bool
are_these pair a b = (pair.0 == a && pair.1 == b) || (pair.0 == b && pair.1 == a)

-- what stands for an entry that is not there
abbrev pub no_entry : Entry
no_entry = record {
  group = 0;
  turning = record {
    whd = record { width = 0; height = 0; depth = 0 };
    turns = record { about_x = false; about_y = false; about_z = false };
  };
}

-- the order in which conflicts are looked for
unfoldable pub rank : Conflict → ℕ
rank PlacedTwice = 0
rank SharesCell = 1
rank GroupInTwoBins = 2
rank ExcludedTogether = 3

module _ (case : Case) where
  -- the claim may stand alone: its bin and its entry are there, the box stands in one of its ways, inside the bin
  pub record StandsAlone (c : Claim) : Type 0 where
    pub bin : c.bin < length case.bins.now
    pub entry : c.entry < length case.entries.now
    pub in_a_way : HoldsAt (λ e. Contains (ways e.turning) c.section.whd) case.entries.now c.entry
    pub inside : HoldsAt (λ size. IsInside size c.section) case.bins.now c.bin

  -- whether two groups are among the pairs, in either order, and are not one
  abbrev pub are_apart : ℕ → ℕ → Bool
  are_apart a b = not (a == b) && list_any (λ pair. are_these pair a b) case.excluded.now

  -- the group of the entry that a claim names; 0 where there is no such entry
  abbrev pub group_of : Claim → ℕ
  group_of c = (slice_index_or case.entries.now c.entry no_entry).group

  -- a conflict of this kind between two claims
  -- Example: SharesCell: (0,0,0) 2x1x1 and (1,0,0) 1x1x1, both in bin 4
  abbrev pub IsConflict : Conflict → Claim → Claim → Type 0
  IsConflict PlacedTwice a b = a.entry ≡ b.entry
  IsConflict SharesCell a b = (a.bin ≡ b.bin) × ShareCell a.section b.section
  IsConflict GroupInTwoBins a b = (group_of a ≡ group_of b) × (a.bin ≢ b.bin)
  IsConflict ExcludedTogether a b = (a.bin ≡ b.bin) × (are_apart (group_of a) (group_of b) ≡ true)

  -- there is no such conflict between them
  abbrev pub IsFree : Conflict → Claim → Claim → Type 0
  IsFree PlacedTwice a b = a.entry ≢ b.entry
  IsFree SharesCell a b = a.bin ≡ b.bin → AreApart a.section b.section
  IsFree GroupInTwoBins a b = group_of a ≡ group_of b → a.bin ≡ b.bin
  IsFree ExcludedTogether a b = a.bin ≡ b.bin → are_apart (group_of a) (group_of b) ≡ false

  -- two claims may stand together: there is no conflict between them
  abbrev pub GoTogether : Claim → Claim → Type 0
  GoTogether a b = (kind : Conflict) → IsFree kind a b

  -- the claims are a part of a packing: each may stand alone, and each with each later one
  -- Example: of two boxes 6x1x1 and 5x1x1, and two bins of 10x1x1: the first at (0,0,0) in bin 0, the second at (3,0,0) in bin 1
  pub record IsPartOfPacking (claims : List Claim) : Type 0 where
    pub alone : All StandsAlone claims
    pub together : AllPairs GoTogether claims

  -- some claim places the entry of this number
  abbrev pub IsPlaced : List Claim → ℕ → Type 0
  IsPlaced claims entry = Any (λ c. c.entry ≡ entry) claims

  -- the claims are a packing: a part of one that places each entry
  pub record IsPacking (claims : List Claim) : Type 0 where
    pub part : IsPartOfPacking claims
    pub whole : (entry : ℕ) → entry < length case.entries.now → IsPlaced claims entry

  -- the first fault that a claim has alone: its bin is not there; or its entry; or it stands in none of the ways of its box; or
  -- not inside its bin. Where it has none it may stand alone
  abbrev pub IsAloneAnswer : Claim → Option AloneFault → Type 0
  IsAloneAnswer c None = StandsAlone c
  IsAloneAnswer c (Some UnknownBin) = length case.bins.now ≤ c.bin
  IsAloneAnswer c (Some UnknownEntry) = (c.bin < length case.bins.now) × (length case.entries.now ≤ c.entry)
  IsAloneAnswer c (Some WrongSize) =
      (c.bin < length case.bins.now) × (c.entry < length case.entries.now)
      × HoldsAt (λ e. ¬ Contains (ways e.turning) c.section.whd) case.entries.now c.entry
  IsAloneAnswer c (Some Outside) =
      (c.bin < length case.bins.now) × (c.entry < length case.entries.now)
      × HoldsAt (λ e. Contains (ways e.turning) c.section.whd) case.entries.now c.entry
      × HoldsAt (λ size. ¬ IsInside size c.section) case.bins.now c.bin

  -- what is wrong with a claim beside the earlier ones: a conflict with one of them, and with none before that one; and there is
  -- no conflict of a kind that comes before this one
  pub record IsTogetherFault (earlier : List Claim) (c : Claim) (first : ℕ) (kind : Conflict) : Type 0 where
    pub at : At earlier first
    pub is : IsConflict kind at.one c
    pub none_before : All (λ a. IsFree kind a c) at.before
    pub no_other : (other : Conflict) → rank other < rank kind → All (λ a. IsFree other a c) earlier

  -- what a judge answers: that the claims are a packing; or the first fault. It is that of the first claim that may not stand with
  -- those before it: what is wrong with it alone, or else with earlier ones. Where all may stand it is the first entry that is
  -- not placed
  abbrev pub IsVerdict : List Claim → Option Fault → Type 0
  IsVerdict claims None = IsPacking claims
  IsVerdict claims (Some (Alone place fault)) =
      (at : At claims place) × IsPartOfPacking at.before × IsAloneAnswer at.one (Some fault)
  IsVerdict claims (Some (Together first second kind)) =
      (at : At claims second) × IsPartOfPacking at.before × StandsAlone at.one × IsTogetherFault at.before at.one first kind
  IsVerdict claims (Some (NotPlaced entry)) =
      IsPartOfPacking claims × (entry < length case.entries.now) × All (λ c. c.entry ≢ entry) claims
      × ((e : ℕ) → e < entry → IsPlaced claims e)
