-- What is written of the placements of a packing.
use Rattle.std.specs.Prelude.{◌≡◌, ◌≢◌, ℕ, ◌<◌, List, All, Some, length, slice_get, drop}
use Rattle.rectangle_pack.specs.declared.session.command.Outstanding.{Outstanding}
use Rattle.rectangle_pack.specs.Session.{State}
use Rattle.rectangle_pack_c.specs.declared.RpPlacement.{RpPlacement}
use Rattle.rectangle_pack_c.specs.declared.searching.RpLocation.{RpLocation}
use Rattle.rectangle_pack_c.specs.declared.session.RpOutstanding.{RpOutstanding}
use Rattle.rectangle_pack_c.specs.Answers.{corner_of}
use Rattle.rectangle_pack_c.specs.Reading.{section_of}

-- what is written of an outstanding placement
abbrev pub as_placement : Outstanding ℕ ℕ → RpPlacement
as_placement o = corner_of o.bin o.location

-- what is written of an outstanding placement, its number too
abbrev pub as_outstanding : Outstanding ℕ ℕ → RpOutstanding
as_outstanding o = record { number = o.number; placement = as_placement o }

-- what is written of an outstanding placement, in its size as it stands
abbrev pub as_location : Outstanding ℕ ℕ → RpLocation
as_location o = record { bin = o.bin; section = section_of o.location }

-- each outstanding placement is written at the index of its box
abbrev pub AreWritten : {X : Type 0} → (Outstanding ℕ ℕ → X) → List (Outstanding ℕ ℕ) → List X → Type 0
AreWritten written outstanding entries = All (λ o. slice_get entries o.id ≡ Some (written o)) outstanding

-- each placement that the new session has beyond those of the old one is written at the index of its box
abbrev pub NewAreWritten : {X : Type 0} → (Outstanding ℕ ℕ → X) → State ℕ ℕ → State ℕ ℕ → List X → Type 0
NewAreWritten written old new entries = AreWritten written (drop (length old.outstanding) new.outstanding) entries

-- each outstanding placement is written at the index of its box, and this at each other index
pub record AreWrittenAmong {X : Type 0} (written : Outstanding ℕ ℕ → X) (left : X) (outstanding : List (Outstanding ℕ ℕ)) (entries : List X) : Type 0 where
  pub placed : AreWritten written outstanding entries
  pub others : (k : ℕ) → k < length entries → All (λ o. o.id ≢ k) outstanding → slice_get entries k ≡ Some left

-- so is each placement that the new session has beyond those of the old one
abbrev pub NewAreWrittenAmong : {X : Type 0} → (Outstanding ℕ ℕ → X) → X → State ℕ ℕ → State ℕ ℕ → List X → Type 0
NewAreWrittenAmong written left old new entries = AreWrittenAmong written left (drop (length old.outstanding) new.outstanding) entries
