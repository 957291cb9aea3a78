-- The texts that the errors of a session print.
use Rattle.std.specs.Prelude.{ℕ, List, codes}
use Rattle.rectangle_pack.specs.declared.session.command.SessionError.{SessionError}
use Rattle.rectangle_pack.specs.declared.session.command.SessionError.TheVariants.{DuplicateBin, UnknownBin, UnknownPlacement, NumbersUsedUp, NotEnoughBinSpace}
use Rattle.rectangle_pack.specs.declared.session.command.SessionError.TheVariants.{BinInUse, TooLarge, NotFree, NotFromCuts, OutOfMemory}

-- the text that a `SessionError` prints: why a session refused a call
abbrev pub session_text : SessionError → List ℕ
session_text DuplicateBin = codes "The bin is there already."
session_text UnknownBin = codes "There is no such bin."
session_text UnknownPlacement = codes "No placement of this number is outstanding."
session_text NumbersUsedUp = codes "The numbers of placements are used up."
session_text NotEnoughBinSpace = codes "Not enough space to place all of the rectangles."
session_text BinInUse = codes "Placements are outstanding in the bin."
session_text TooLarge = codes "A side of the bin would exceed the greatest number of 32 bits."
session_text NotFree = codes "No free section holds the box there."
session_text NotFromCuts = codes "No straight cuts part the boxes that stand in the bin."
session_text OutOfMemory = codes "Out of memory."
