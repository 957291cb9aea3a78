-- What a line prints, as bytes: 32 is a space, 10 a line feed.
use Rattle.std.specs.Prelude.{ℕ, List, ◌∷◌, ◌++◌, Option, Some, None, Result, Ok, Err, length, codes}
use Rattle.std.specs.List.{flat_map}
use Rattle.std.specs.Fmt.{decimal}
use Rattle.packrun_lines.specs.Numbers.{three_text}
use Rattle.rectangle_pack.specs.Boxes.{Cuboid}
use Rattle.rectangle_pack.specs.declared.session.command.Outstanding.{Outstanding}
use Rattle.rectangle_pack.specs.declared.session.command.SessionError.{SessionError}
use Rattle.rectangle_pack.specs.declared.session.command.SessionError.TheVariants.{DuplicateBin, UnknownBin, UnknownPlacement, NumbersUsedUp, NotEnoughBinSpace}
use Rattle.rectangle_pack.specs.declared.session.command.SessionError.TheVariants.{BinInUse, TooLarge, NotFree, NotFromCuts, OutOfMemory}
use Rattle.rectangle_pack.specs.declared.session.stats.BinStats.{BinStats}

-- the line of a free section, and the end of the line of a placement: the least corner and the sides
-- Example: (0,3,0) 5x2x1: `0 3 0 5 2 1` and a line feed
abbrev pub cuboid_text : Cuboid → List ℕ
cuboid_text c = three_text c.x c.y c.z 32 ++ three_text c.whd.width c.whd.height c.whd.depth 10

-- the line of a placement, whose names are lists of bytes
-- Example: `4 one a 0 3 0 5 2 1` and a line feed
abbrev pub placement_text : Outstanding (List ℕ) (List ℕ) → List ℕ
placement_text p = decimal p.number ++ 32 ∷ p.id ++ 32 ∷ p.bin ++ 32 ∷ cuboid_text p.location

-- the placements of a packing, a line each, and how many they are
-- Example: none: `packed 0` and a line feed
abbrev pub packed_text : List (Outstanding (List ℕ) (List ℕ)) → List ℕ
packed_text placements = flat_map placement_text placements ++ codes "packed " ++ decimal (length placements) ++ codes "\n"

-- free sections, a line each, and how many there are
-- Example: a new bin 5x2x1: `0 0 0 5 2 1`, and `sections 1`
abbrev pub sections_text : List Cuboid → List ℕ
sections_text sections = flat_map cuboid_text sections ++ codes "sections " ++ decimal (length sections) ++ codes "\n"

-- what is free and what is placed in a bin, in one line
-- Example: `free 84 in 2, placed 16 in 1, bin 100` and a line feed
abbrev pub sums_text : BinStats → List ℕ
sums_text s =
    codes "free " ++ decimal s.free_volume ++ codes " in " ++ decimal s.free_sections
    ++ codes ", placed " ++ decimal s.placed_volume ++ codes " in " ++ decimal s.placements
    ++ codes ", bin " ++ decimal s.bin_volume ++ codes "\n"

-- why the session refused a line that names this bin, or this placement; refused memory ends the run, and has no text
-- Example: `UnknownPlacement` and `7`: `refused: placement 7 is unknown`
abbrev pub refusal_text : SessionError → List ℕ → Option (List ℕ)
refusal_text DuplicateBin named = Some (codes "refused: bin " ++ named ++ codes " exists\n")
refusal_text UnknownBin named = Some (codes "refused: bin " ++ named ++ codes " is unknown\n")
refusal_text UnknownPlacement named = Some (codes "refused: placement " ++ named ++ codes " is unknown\n")
refusal_text NumbersUsedUp named = Some (codes "refused: numbers are used up\n")
refusal_text NotEnoughBinSpace named = Some (codes "refused: Not enough space to place all of the rectangles.\n")
refusal_text BinInUse named = Some (codes "refused: the bin is in use\n")
refusal_text TooLarge named = Some (codes "refused: the bin would be too large\n")
refusal_text NotFree named = Some (codes "refused: no free section holds the box there\n")
refusal_text NotFromCuts named = Some (codes "refused: no straight cuts part the boxes in the bin\n")
refusal_text OutOfMemory named = None

-- the answer to a line that is only done: `ok`, or why it was refused
abbrev pub reply_text : Result (Unit {0}) SessionError → List ℕ → Option (List ℕ)
reply_text (Ok done) named = Some (codes "ok\n")
reply_text (Err error) named = refusal_text error named
