-- Faults whose places fit into 32 bits.
use Rattle.std.specs.Prelude.{⊤, ◌<◌, ◌^◌, Option, Some, None}
use Rattle.rectangle_pack.specs.declared.judge.Fault.{Fault}
use Rattle.rectangle_pack.specs.declared.judge.Fault.TheVariants.{Alone, Together, NotPlaced}

-- the places that are named are below 2^32
abbrev pub AreShort : Option Fault → Type 0
AreShort None = ⊤
AreShort (Some (Alone claim fault)) = claim < 2 ^ 32
AreShort (Some (Together first second kind)) = (first < 2 ^ 32) × (second < 2 ^ 32)
AreShort (Some (NotPlaced entry)) = entry < 2 ^ 32
