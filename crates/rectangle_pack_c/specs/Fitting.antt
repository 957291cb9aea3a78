-- Packing what fits for C: which boxes are placed and which are left, and what is written of them.
use Rattle.std.specs.Prelude.{◌≡◌, ◌≢◌, ◌==◌, ◌⊎◌, ℕ, ◌+◌, ◌<◌, ◌≤◌, ◌^◌, Bool, List, [], length, count_by, Contains, IsSomeAnd, slice_get, Ok}
use Rattle.std.specs.declared.alloc.Global.{Global}
use Rattle.std.specs.Ordering.{nat_cmp}
use Rattle.rectangle_pack_packing.specs.declared.answer.Fitted.{Fitted}
use Rattle.rectangle_pack_packing.specs.Fitting.{names_left}
use Rattle.rectangle_pack_sections.specs.declared.box_size_heuristics.named.Heuristic.{Heuristic}
use Rattle.rectangle_pack.specs.declared.grouped_rects_to_place.Group.{Group}
use Rattle.rectangle_pack.specs.declared.session.command.Packed.{Packed as Numbers}
use Rattle.rectangle_pack.specs.declared.session.command.Reply.{Reply}
use Rattle.rectangle_pack.specs.declared.session.command.Reply.TheVariants.{Done, Packed, Refused}
use Rattle.rectangle_pack.specs.declared.session.command.SessionError.{SessionError}
use Rattle.rectangle_pack.specs.declared.session.command.SessionError.TheVariants.{NumbersUsedUp, OutOfMemory}
use Rattle.rectangle_pack.specs.Boxes.{IsInside, AreApart}
use Rattle.rectangle_pack.specs.Groups.{Collection, entries_of}
use Rattle.rectangle_pack.specs.Session.{State}
use Rattle.rectangle_pack.specs.SessionFitting.{PacksFittingBest, FitsBestAsPromised}
use Rattle.rectangle_pack_c.specs.declared.RpBin.{RpBin}
use Rattle.rectangle_pack_c.specs.declared.RpBox.{RpBox}
use Rattle.rectangle_pack_c.specs.declared.RpPlacement.{RpPlacement}
use Rattle.rectangle_pack_c.specs.declared.collection.RpExclusion.{RpExclusion}
use Rattle.rectangle_pack_c.specs.declared.fitting.RpFitted.{RpFitted}
use Rattle.rectangle_pack_c.specs.declared.session.RpOutstanding.{RpOutstanding}
use Rattle.rectangle_pack_c.specs.Answers.{Stands, box_at}
use Rattle.rectangle_pack_c.specs.Arguments.{bin_size, new_bins}
use Rattle.rectangle_pack_c.specs.Collections.{IsCollected, group_of, group_order}
use Rattle.rectangle_pack_c.specs.Heuristics.{asked, heuristic_number}
use Rattle.rectangle_pack_c.specs.Sessions.{IsAt, record_of}

-- what is written of a box that is left: `RP_LEFT_BIN`, which is no index of a bin, and the corner (0,0,0)
abbrev pub left_placement : RpPlacement
left_placement = record { bin = 0xffffffff; x = 0; y = 0; z = 0 }

-- the same in a session, with `RP_LEFT_NUMBER`, which no placement has
abbrev pub left_outstanding : RpOutstanding
left_outstanding = record { number = 0xffffffffffffffff; placement = left_placement }

-- whether a placement says that its box is left
abbrev pub says_left : RpPlacement → Bool
says_left p = p.bin == 0xffffffff

-- whether a placement of a session says so, by its number
abbrev pub number_says_left : RpOutstanding → Bool
number_says_left p = p.number == 0xffffffffffffffff

-- what fits of the collection of the boxes is packed, as `PacksFittingBest` and `FitsBestAsPromised` say it of the
-- heuristics that are asked for. `chosen` is the number of the best. `names_left fitted.left` are the groups that are left
pub record FitsCollection (heuristic : ℕ) (boxes : List RpBox) (exclusions : List RpExclusion) (chosen : ℕ) (old new : State ℕ ℕ) : Type 0 where
  pub all : Collection ℕ ℕ
  pub collected : IsCollected boxes exclusions all
  pub best : Heuristic
  pub number : chosen ≡ heuristic_number best
  pub fitted : Fitted Numbers (Group ℕ ℕ) Global
  pub packed : PacksFittingBest group_order nat_cmp nat_cmp (asked heuristic) all old (Ok (best, fitted)) new
  pub promised : FitsBestAsPromised group_order nat_cmp nat_cmp all old (Ok (best, fitted)) new

-- a packing of what fits that is refused leaves the session as it was. `NumbersUsedUp`: the next number and the entries
-- of all groups add up to 2^64 or more. No error but this and `OutOfMemory` comes
abbrev pub RefusesFitting : List RpBox → List RpExclusion → State ℕ ℕ → SessionError → State ℕ ℕ → Type 0
RefusesFitting boxes exclusions old NumbersUsedUp new =
    (all : Collection ℕ ℕ) × IsCollected boxes exclusions all × (2 ^ 64 ≤ old.next + entries_of all) × (new ≡ old)
RefusesFitting boxes exclusions old OutOfMemory new = new ≡ old
RefusesFitting boxes exclusions old error new = ⊥

-- box i is outstanding at this placement, under a number that was not given before and is not `RP_LEFT_NUMBER`, and its
-- group is not left
pub record IsPlacedNow (left : List (Group ℕ ℕ)) (old new : State ℕ ℕ) (i : ℕ) (b : RpBox) (p : RpOutstanding) : Type 0 where
  pub outstanding : Contains new.outstanding (record_of i b p)
  pub fresh : old.next ≤ p.number
  pub number : p.number < 0xffffffffffffffff
  pub taken : ¬ Contains left (group_of i b)

-- there are as many placements as boxes. Each box is placed (`IsPlacedNow`), or its group is left and its placement says
-- so. Two placements of one number are both of boxes that are left. Boxes of one group above 0 are in one bin, or all
-- left. `count` is how many placements say that their box is left
-- Example: the boxes 6x6x1, 5x5x1 and 4x4x1, each alone, into a new bin 7, 10x10x1: the numbers 0, `RP_LEFT_NUMBER` and 1,
-- and 1 is left
pub record AreFittedNow (boxes : List RpBox) (placements : List RpOutstanding) (left : List (Group ℕ ℕ)) (count : ℕ) (old new : State ℕ ℕ) : Type 0 where
  pub as_many : length placements ≡ length boxes
  pub each : (i : ℕ) (b : RpBox) (p : RpOutstanding) → IsAt boxes placements i b p
      → IsPlacedNow left old new i b p ⊎ (Contains left (group_of i b) × (p ≡ left_outstanding))
  pub apart : (i j : ℕ) (a b : RpBox) (p q : RpOutstanding) → IsAt boxes placements i a p → IsAt boxes placements j b q
      → i ≢ j → p.number ≡ q.number → p.number ≡ 0xffffffffffffffff
  pub together : (i j : ℕ) (a b : RpBox) (p q : RpOutstanding) → IsAt boxes placements i a p → IsAt boxes placements j b q
      → 0 < a.group → a.group ≡ b.group
      → (p.placement.bin ≡ q.placement.bin) × (p.number ≡ 0xffffffffffffffff → q.number ≡ 0xffffffffffffffff)
  pub counted : count ≡ count_by number_says_left placements

-- what fits of the collection is packed into the session, or nothing is, by cases. `Done`: it is packed
-- (`FitsCollection`), and what is written says where each box is, or that it is left (`AreFittedNow`). Refused:
-- `RefusesFitting`. `Packed` does not come
abbrev pub FitsInto : (heuristic : ℕ) → List RpBox → List RpExclusion → List RpOutstanding → RpFitted → State ℕ ℕ → Reply → State ℕ ℕ → Type 0
FitsInto heuristic boxes exclusions placements fitted old Done new =
    (fits : FitsCollection heuristic boxes exclusions fitted.heuristic old new)
    × AreFittedNow boxes placements (names_left fits.fitted.left) fitted.left old new
FitsInto heuristic boxes exclusions placements fitted old (Refused error) new = RefusesFitting boxes exclusions old error new
FitsInto heuristic boxes exclusions placements fitted old (Packed numbers) new = ⊥

-- a new session that has these bins, each under its index
abbrev pub session_with : List RpBin → State ℕ ℕ
session_with bins = record { bins = new_bins bins; outstanding = []; next = 0 }

-- box i is placed as the placement says, in the session, under some number, and its group is not left
pub record IsPlaced (left : List (Group ℕ ℕ)) (new : State ℕ ℕ) (i : ℕ) (b : RpBox) (p : RpPlacement) : Type 0 where
  pub number : ℕ
  pub outstanding : Contains new.outstanding (record_of i b (record { number = number; placement = p }))
  pub bin : p.bin < 0xffffffff
  pub taken : ¬ Contains left (group_of i b)

-- what fits of the collection is packed into a new session with these bins (`FitsCollection`). There are as many
-- placements as boxes. Each box is placed there (`IsPlaced`), or its group is left and its placement says so. How many
-- placements say so is written
-- Example: the boxes 6x6x1, 5x5x1 and 4x4x1, each alone, into a bin 10x10x1 by volume: the second is left
pub record FitsNewBins (heuristic : ℕ) (bins : List RpBin) (boxes : List RpBox) (exclusions : List RpExclusion) (placements : List RpPlacement)
    (fitted : RpFitted) : Type 0 where
  pub after : State ℕ ℕ
  pub fits : FitsCollection heuristic boxes exclusions fitted.heuristic (session_with bins) after
  pub as_many : length placements ≡ length boxes
  pub each : (i : ℕ) (b : RpBox) (p : RpPlacement) → Stands boxes placements i b p
      → IsPlaced (names_left fits.fitted.left) after i b p ⊎ (Contains (names_left fits.fitted.left) (group_of i b) × (p ≡ left_placement))
  pub counted : fitted.left ≡ count_by says_left placements

-- there are as many placements as boxes. Each box that is not left stands inside the bin that its placement names; no two
-- of them in one bin share a cell; boxes of one group above 0 are in one bin, or all left
pub record AreFitted (bins : List RpBin) (boxes : List RpBox) (placements : List RpPlacement) : Type 0 where
  pub as_many : length placements ≡ length boxes
  pub inside : (i : ℕ) (b : RpBox) (p : RpPlacement) → Stands boxes placements i b p → p.bin ≢ 0xffffffff
      → IsSomeAnd (slice_get bins p.bin) (λ bin. IsInside (bin_size bin) (box_at b p))
  pub apart : (i j : ℕ) (a b : RpBox) (p q : RpPlacement) → Stands boxes placements i a p → Stands boxes placements j b q
      → i ≢ j → p.bin ≢ 0xffffffff → p.bin ≡ q.bin → AreApart (box_at a p) (box_at b q)
  pub together : (i j : ℕ) (a b : RpBox) (p q : RpPlacement) → Stands boxes placements i a p → Stands boxes placements j b q
      → 0 < a.group → a.group ≡ b.group → p.bin ≡ q.bin

-- two boxes whose groups, above 0, an exclusion names, and that are not left, are in different bins
abbrev pub FitsApart : List RpBox → List RpExclusion → List RpPlacement → Type 0
FitsApart boxes exclusions placements =
    (i j : ℕ) (a b : RpBox) (p q : RpPlacement) → Stands boxes placements i a p → Stands boxes placements j b q
    → 0 < a.group → 0 < b.group → (e : RpExclusion) → Contains exclusions e → a.group ≡ e.one → b.group ≡ e.other
    → p.bin ≢ 0xffffffff → p.bin ≢ q.bin

-- the same of placements with their numbers
abbrev pub StandFittedApart : List RpBox → List RpExclusion → List RpOutstanding → Type 0
StandFittedApart boxes exclusions placements =
    (i j : ℕ) (a b : RpBox) (p q : RpOutstanding) → IsAt boxes placements i a p → IsAt boxes placements j b q
    → 0 < a.group → 0 < b.group → (e : RpExclusion) → Contains exclusions e → a.group ≡ e.one → b.group ≡ e.other
    → p.number ≢ 0xffffffffffffffff → q.number ≢ 0xffffffffffffffff → p.placement.bin ≢ q.placement.bin
