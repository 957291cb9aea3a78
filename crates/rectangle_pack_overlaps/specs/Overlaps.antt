-- Which boxes of a list share a cell in one bin.
use Rattle.std.specs.Prelude.{◌≡◌, List, All, AllPairs, Option, Some, None}
use Rattle.rectangle_pack_sections.specs.Boxes.{SharesCell, AreApart}
use Rattle.rectangle_pack_overlaps.specs.declared.overlaps.Standing.{Standing}
use Rattle.rectangle_pack_overlaps.specs.declared.overlaps.Overlap.{Overlap}
use Rattle.rectangle_pack_overlaps.specs.Places.{At}

-- two boxes are in one bin and share a cell
-- Example: (0,0,0) 2x1x1 and (1,0,0) 1x1x1, both in bin 4
pub record Clash (a b : Standing) : Type 0 where
  pub one_bin : a.bin ≡ b.bin
  pub shares : SharesCell a.section b.section

-- two boxes that are in one bin share no cell
-- Example: (0,0,0) 2x1x1 and (1,0,0) 1x1x1 in bins 4 and 5
abbrev pub AreClear : Standing → Standing → Type 0
AreClear a b = a.bin ≡ b.bin → AreApart a.section b.section

-- the first box that clashes with an earlier one, and the first of those: no two of the boxes before it clash, and no box
-- before that one clashes with it
-- Example: of (0,0,0) 1x1x1, (0,0,0) 2x1x1 and (1,0,0) 1x1x1, all in one bin: the boxes 0 and 1
pub record IsFirstOverlap (boxes : List Standing) (o : Overlap) : Type 0 where
  pub later : At boxes o.second
  pub clear : AllPairs AreClear later.before
  pub earlier : At later.before o.first
  pub clash : Clash earlier.one later.one
  pub none_before : All (λ b. AreClear b later.one) earlier.before

-- what is answered where boxes are asked which two of them clash: the first overlap, or that there is none
abbrev pub IsOverlapAnswer : List Standing → Option Overlap → Type 0
IsOverlapAnswer boxes None = AllPairs AreClear boxes
IsOverlapAnswer boxes (Some o) = IsFirstOverlap boxes o
