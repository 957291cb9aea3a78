-- The texts that errors of packings as they are told print.
use Rattle.std.specs.Prelude.{ℕ, List, codes}
use Rattle.rectangle_pack_packing.specs.declared.pack.told.ToldError.{ToldError}
use Rattle.rectangle_pack_packing.specs.declared.pack.told.ToldError.TheVariants.{StepRefused, NumbersUsedUp, OutOfMemory}
use Rattle.rectangle_pack_packing.specs.declared.pack.told.StepFault.TheVariants.{UnknownGroup, UnknownBin, NamedTwice, Excluded, NoRoom}

-- the text that a `ToldError` prints: why a packing as it is told is refused
abbrev pub told_text : ToldError → List ℕ
told_text (StepRefused index UnknownGroup) = codes "A step names a group that is not in the collection."
told_text (StepRefused index UnknownBin) = codes "A step names a bin that is not there."
told_text (StepRefused index NamedTwice) = codes "Two steps name one group."
told_text (StepRefused index Excluded) = codes "A step puts a group into a bin that is excluded for it."
told_text (StepRefused index NoRoom) = codes "The bin of a step does not take all boxes of its group."
told_text NumbersUsedUp = codes "The numbers of placements are used up."
told_text OutOfMemory = codes "Out of memory."
