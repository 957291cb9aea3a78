-- What is wrong with boxes that are to be the free sections of a bin, or all that is in it.
use Rattle.std.specs.Prelude.{ℕ, ⊤, ◌≡◌, Bool, true, List, map, All, Option, Some, None, Result, Ok, Err}
use Rattle.rectangle_pack_sections.specs.Bins.{IsSound, whole}
use Rattle.rectangle_pack_sections.specs.Boxes.{Size, Cuboid, IsInside}
use Rattle.rectangle_pack_sections.specs.Covering.{CoverBin}
use Rattle.rectangle_pack_sections.specs.CutTrees.{IsFromCuts}
use Rattle.rectangle_pack_overlaps.specs.declared.overlaps.Standing.{Standing}
use Rattle.rectangle_pack_overlaps.specs.Overlaps.{IsFirstOverlap}
use Rattle.rectangle_pack_overlaps.specs.Places.{At}
use Rattle.rectangle_pack_covers.specs.declared.sections.SectionsError.{SectionsError}
use Rattle.rectangle_pack_covers.specs.declared.sections.SectionsError.TheVariants.{Outside, SharesCell, OutOfMemory}
use Rattle.rectangle_pack_covers.specs.declared.covers.BinFault.{BinFault}
use Rattle.rectangle_pack_covers.specs.declared.covers.BinFault.TheVariants.{Outside as OutsideBin, SharesCell as ShareCell, CellInNone, NotFromCuts}

-- boxes, all of one bin
abbrev pub in_one_bin : List Cuboid → List Standing
in_one_bin boxes = map (λ b. record { bin = 0; section = b }) boxes

module _ (size : Size) where
  -- the first box that is not inside a bin of this size stands at this place of the list
  -- Example: in 2x1x1, of (0,0,0) 1x1x1 and (1,0,0) 2x1x1: the box 1
  abbrev pub IsFirstOutside : List Cuboid → ℕ → Type 0
  IsFirstOutside boxes index = (at : At boxes index) × All (IsInside size) at.before × ¬ IsInside size at.one

  -- all boxes are inside, and these are the first two that share a cell: the later one is the first that shares one with an
  -- earlier one, and the other is the first of these
  abbrev pub AreFirstSharing : List Cuboid → ℕ → ℕ → Type 0
  AreFirstSharing boxes first second =
      All (IsInside size) boxes × IsFirstOverlap (in_one_bin boxes) (record { first = first; second = second })

  -- what is answered of boxes that are to be free sections of the bin: they may be (`IsSound`); or the first that is outside; or,
  -- where none is, the first two that share a cell; or memory was refused
  abbrev pub IsSectionsAnswer : List Cuboid → Result (Unit {0}) SectionsError → Type 0
  IsSectionsAnswer boxes (Ok _) = IsSound size boxes
  IsSectionsAnswer boxes (Err (Outside index)) = IsFirstOutside boxes index
  IsSectionsAnswer boxes (Err (SharesCell first second)) = AreFirstSharing boxes first second
  IsSectionsAnswer boxes (Err OutOfMemory) = ⊤

  -- what is wrong first with boxes that are to be all of the bin: nothing, so that they cover it and are from straight cuts of it,
  -- if that is asked; or the first that is outside; or the first two that share a cell; or they are inside and share none, but
  -- some cell is in none of them; or they cover it, but are from no cuts
  abbrev pub IsBinAnswer : Bool → List Cuboid → Option BinFault → Type 0
  IsBinAnswer asked boxes None = CoverBin boxes size × (asked ≡ true → IsFromCuts boxes (whole size))
  IsBinAnswer asked boxes (Some (OutsideBin index)) = IsFirstOutside boxes index
  IsBinAnswer asked boxes (Some (ShareCell first second)) = AreFirstSharing boxes first second
  IsBinAnswer asked boxes (Some CellInNone) = IsSound size boxes × ¬ CoverBin boxes size
  IsBinAnswer asked boxes (Some NotFromCuts) = CoverBin boxes size × (asked ≡ true) × ¬ IsFromCuts boxes (whole size)
