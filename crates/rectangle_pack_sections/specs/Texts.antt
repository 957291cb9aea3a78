-- The texts that errors of placing one box print.
use Rattle.std.specs.Prelude.{ℕ, List, codes}
use Rattle.rectangle_pack_sections.specs.declared.bin_section.BinSectionError.{BinSectionError}
use Rattle.rectangle_pack_sections.specs.declared.bin_section.BinSectionError.TheVariants.{PlacementWiderThanBinSection, PlacementTallerThanBinSection}
use Rattle.rectangle_pack_sections.specs.declared.bin_section.BinSectionError.TheVariants.{PlacementDeeperThanBinSection}

-- the text that a `BinSectionError` prints. It says that the bin is wider, taller or deeper than the box, where the box
-- is wider, taller or deeper than the bin: these are the words of the Rust crate, and they are kept
abbrev pub fitting_text : BinSectionError → List ℕ
fitting_text PlacementWiderThanBinSection = codes "Can not place a rectangle inside of a bin that is wider than that rectangle."
fitting_text PlacementTallerThanBinSection = codes "Can not place a rectangle inside of a bin that is taller than that rectangle."
fitting_text PlacementDeeperThanBinSection = codes "Can not place a rectangle inside of a bin that is deeper than that rectangle."
