-- Boxes with their places in a list, parted by planes.
use Rattle.std.specs.Prelude.{◌≡◌, ℕ, ◌<◌, ◌≤◌, ◌&&◌, Bool, List, AllPairs, nat_lt}
use Rattle.rectangle_pack_sections.specs.Boxes.{Cuboid, AreApart, start, end}
use Rattle.rectangle_pack_overlaps.specs.declared.parting.Numbered.{Numbered}
use Rattle.rectangle_pack_overlaps.specs.declared.parting.Side.{Side}
use Rattle.rectangle_pack_overlaps.specs.declared.parting.Side.TheVariants.{Below, Above}
use Rattle.rectangle_pack_overlaps.specs.declared.planes.Plane.{Plane}

-- the places rise
abbrev pub AreRising : List Numbered → Type 0
AreRising parts = AllPairs (λ a b. a.index < b.index) parts

-- whether a box has a place on this side of a plane
-- Example: (4,0,0) 6x10x1 has on both sides of x 5, and not below x 4
unfoldable pub is_on : Plane → Side → Cuboid → Bool
is_on plane Below b = nat_lt (start plane.axis b) plane.place
is_on plane Above b = nat_lt plane.place (end plane.axis b)

-- whether a box is before the place `limit` of the list, and on this side of a plane
abbrev pub is_kept : Plane → Side → ℕ → Numbered → Bool
is_kept plane side limit part = nat_lt part.index limit && is_on plane side part.section

-- no box before the place `found` of the list shares a cell with an earlier one
abbrev pub AreApartBefore : ℕ → List Numbered → Type 0
AreApartBefore found parts = AllPairs (λ a b. b.index < found → AreApart a.section b.section) parts

-- the box at the place `found` of the list shares a cell with an earlier one
abbrev pub IsBad : List Numbered → ℕ → Type 0
IsBad parts found = ¬ AllPairs (λ a b. b.index ≡ found → AreApart a.section b.section) parts

-- the place of the first box that shares a cell with an earlier one, if it is before `limit`; else `limit`
pub record IsFound (limit : ℕ) (parts : List Numbered) (found : ℕ) : Type 0 where
  pub at_most : found ≤ limit
  pub apart : AreApartBefore found parts
  pub bad : found < limit → IsBad parts found
