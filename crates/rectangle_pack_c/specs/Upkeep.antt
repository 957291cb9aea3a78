-- Upkeep of a session by its handle: a bin that grows on an axis, and a box at a corner of the caller's choice.
use Rattle.std.specs.Prelude.{◌≡◌, ℕ, Ok, Err}
use Rattle.std.specs.Ordering.{nat_cmp}
use Rattle.rectangle_pack_sections.specs.declared.axis.Axis.{Axis}
use Rattle.rectangle_pack.specs.declared.session.command.Reply.{Reply}
use Rattle.rectangle_pack.specs.declared.session.command.Reply.TheVariants.{Done, Packed, Refused}
use Rattle.rectangle_pack.specs.CutPlans.{axis_rank}
use Rattle.rectangle_pack.specs.Growing.{GrowsBin}
use Rattle.rectangle_pack.specs.PlacingAt.{PlacesAt}
use Rattle.rectangle_pack.specs.Session.{State}
use Rattle.rectangle_pack_c.specs.declared.reading.RpSection.{RpSection}
use Rattle.rectangle_pack_c.specs.Reading.{cuboid_of}

-- a bin grows by so many cells on the axis of this number, 0 for x, 1 for y and 2 for z, or is refused, as `GrowsBin` says
-- it
abbrev pub GrowsOnAxis : (bin number by : ℕ) → State ℕ ℕ → Reply → State ℕ ℕ → Type 0
GrowsOnAxis bin number by old reply new = (axis : Axis) × (axis_rank axis ≡ number) × GrowsBin nat_cmp bin axis by old reply new

-- the box, under the id 0, is placed at this corner, or is refused, as `PlacesAt` says it. Placed: the number that is
-- written is that of the placement. Refused: no number is written. `Packed` does not come
abbrev pub PlacesSection : (bin : ℕ) → RpSection → (old_number new_number : ℕ) → State ℕ ℕ → Reply → State ℕ ℕ → Type 0
PlacesSection bin location old_number new_number old Done new = PlacesAt nat_cmp bin 0 (cuboid_of location) old (Ok new_number) new
PlacesSection bin location old_number new_number old (Refused error) new =
    PlacesAt nat_cmp bin 0 (cuboid_of location) old (Err error) new × (new_number ≡ old_number)
PlacesSection bin location old_number new_number old (Packed numbers) new = ⊥
