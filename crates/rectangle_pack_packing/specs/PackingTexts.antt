-- The texts that errors of packings print.
use Rattle.std.specs.Prelude.{ℕ, List, codes}
use Rattle.rectangle_pack_packing.specs.declared.answer.RectanglePackError.{RectanglePackError}
use Rattle.rectangle_pack_packing.specs.declared.answer.RectanglePackError.TheVariants.{NotEnoughBinSpace, OutOfMemory}

-- the text that a `RectanglePackError` prints: why a packing failed
abbrev pub packing_text : RectanglePackError → List ℕ
packing_text NotEnoughBinSpace = codes "Not enough space to place all of the rectangles."
packing_text OutOfMemory = codes "Out of memory."
