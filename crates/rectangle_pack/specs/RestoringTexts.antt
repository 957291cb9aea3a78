-- The texts that the errors of a restored session print.
use Rattle.std.specs.Prelude.{ℕ, List, codes}
use Rattle.rectangle_pack_covers.specs.declared.covers.BinFault.{BinFault}
use Rattle.rectangle_pack_covers.specs.declared.covers.BinFault.TheVariants.{Outside, SharesCell, CellInNone, NotFromCuts}
use Rattle.rectangle_pack.specs.declared.session.restoring.RestoreError.{RestoreError}
use Rattle.rectangle_pack.specs.declared.session.restoring.RestoreError.TheVariants.{NotRising, NotBelowNext, UnknownBin, WrongBin, OutOfMemory}

-- the text for a fault of a bin
abbrev pub bin_text : BinFault → List ℕ
bin_text (Outside index) = codes "A free section or placement is not inside its bin."
bin_text (SharesCell first second) = codes "Two free sections or placements share a cell."
bin_text CellInNone = codes "A cell of a bin is in no free section or placement."
bin_text NotFromCuts = codes "No straight cuts leave what is in a bin."

-- the text that a `RestoreError` prints
abbrev pub restore_text : RestoreError → List ℕ
restore_text (NotRising placement) = codes "The number of a placement is not above that of an earlier one."
restore_text (NotBelowNext placement) = codes "The number of a placement is not below the next number."
restore_text (UnknownBin placement) = codes "The bin of a placement is not there."
restore_text (WrongBin bin fault) = bin_text fault
restore_text OutOfMemory = codes "Out of memory."
