-- Whether a section holds a size, and else on which axis it does not.
use Rattle.std.specs.Prelude.{◌<◌, ◌≤◌, Result, Ok, Err}
use Rattle.rectangle_pack_sections.specs.declared.bin_section.BinSectionError.{BinSectionError}
use Rattle.rectangle_pack_sections.specs.declared.bin_section.BinSectionError.TheVariants.{PlacementWiderThanBinSection, PlacementTallerThanBinSection}
use Rattle.rectangle_pack_sections.specs.declared.bin_section.BinSectionError.TheVariants.{PlacementDeeperThanBinSection}
use Rattle.rectangle_pack_sections.specs.Boxes.{Size, Cuboid, Holds}

-- the error names the first axis, of width, height and depth, on which the size is greater than the section
-- Example: in a section 5x20x1 a box 6x21x2 is too wide, which is the first of the three
abbrev pub IsTooLarge : Cuboid → Size → BinSectionError → Type 0
IsTooLarge section size PlacementWiderThanBinSection = section.whd.width < size.width
IsTooLarge section size PlacementTallerThanBinSection = (size.width ≤ section.whd.width) × (section.whd.height < size.height)
IsTooLarge section size PlacementDeeperThanBinSection =
    (size.width ≤ section.whd.width) × (size.height ≤ section.whd.height) × (section.whd.depth < size.depth)

-- a success where the section holds the size, else the error of the first axis on which it is too large (`IsTooLarge`)
abbrev pub IsFitAnswer : {A : Type 0} → Cuboid → Size → Result A BinSectionError → Type 0
IsFitAnswer section size (Ok _) = Holds section size
IsFitAnswer section size (Err e) = IsTooLarge section size e
