-- The texts that the errors of boxes in a bin print.
use Rattle.std.specs.Prelude.{ℕ, List, codes}
use Rattle.rectangle_pack_covers.specs.declared.sections.SectionsError.{SectionsError}
use Rattle.rectangle_pack_covers.specs.declared.sections.SectionsError.TheVariants.{Outside, SharesCell, OutOfMemory}

-- the text that a `SectionsError` prints
abbrev pub sections_text : SectionsError → List ℕ
sections_text (Outside index) = codes "A box is not inside the bin."
sections_text (SharesCell first second) = codes "Two boxes share a cell."
sections_text OutOfMemory = codes "Out of memory."
