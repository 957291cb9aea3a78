-- Sections in slots, while a sweep lasts that finds them by the number of a corner. Each stands in a slot of its own.
-- One that is joined to another leaves its slot without cells; the list is that of the sections with cells. Examples
-- are of the slots 0 to 2 with A (0,0,0) 2x4x1, B (5,0,0) 3x4x1 and C (2,0,0) 3x4x1.
use Rattle.std.specs.Prelude.{ℕ, ◌≡◌, ◌≢◌, ◌+◌, ◌*◌, ◌<◌, ◌≤◌, min, true, List, length, take, filter, Contains, AllPairs, Option, IfSome, IsSomeAnd}
use Rattle.std.specs.Vec.{vec_capacity}
use Rattle.rectangle_pack_sections.specs.declared.axis.Axis.{Axis}
use Rattle.rectangle_pack_sections.specs.declared.axis.Axis.TheVariants.{X, Y, Z}
use Rattle.rectangle_pack_sections.specs.Boxes.{Cuboid, start, end, has_cells}
use Rattle.rectangle_pack_lists.specs.declared.corners.Corner.{Corner}
use Rattle.rectangle_pack_lists.specs.declared.corners.Corner.TheVariants.{Near, Far}
use Rattle.rectangle_pack_lists.specs.declared.corners.Corners.{Corners}
use Rattle.rectangle_pack_lists.specs.declared.corners.Name.{Name}
use Rattle.rectangle_pack_lists.specs.Joining.{SharesFace, IsJoined, entry}
use Rattle.rectangle_pack_lists.specs.private.Settling.{Settled, Around}

-- the number of a cell, counted row by row, where an axis has 2 ^ 32 places
unfoldable pub number_of : ℕ → ℕ → ℕ → ℕ
number_of x y z = (x * 4294967296 + y) * 4294967296 + z

-- the number of a corner of a box: of the place where it starts on each axis, or where it ends
-- Example: of C: `number_of 2 0 0` near, `number_of 5 4 1` far
abbrev pub corner_number : Corner → Cuboid → ℕ
corner_number Near b = number_of (start X b) (start Y b) (start Z b)
corner_number Far b = number_of (end X b) (end Y b) (end Z b)

-- the number of that corner in a box that shares a whole face with this one on the axis: the face at the end for the near
-- corner, the face at the start for the far one
-- Example: of C on x: near `number_of 5 0 0`, the near corner of B; far `number_of 2 4 1`, the far corner of A
abbrev pub neighbour_number : Corner → Axis → Cuboid → ℕ
neighbour_number Near X b = number_of (end X b) (start Y b) (start Z b)
neighbour_number Near Y b = number_of (start X b) (end Y b) (start Z b)
neighbour_number Near Z b = number_of (start X b) (start Y b) (end Z b)
neighbour_number Far X b = number_of (start X b) (end Y b) (end Z b)
neighbour_number Far Y b = number_of (end X b) (start Y b) (end Z b)
neighbour_number Far Z b = number_of (end X b) (end Y b) (start Z b)

-- the list of the sections: those of the slots that have cells, in order
-- Example: once A is joined to C: B, (0,0,0) 5x4x1
abbrev pub full : List Cuboid → List Cuboid
full slots = filter has_cells slots

-- the index in that list of the section in a slot
-- Example: of slot 2, once A is joined to C: 1
unfoldable pub place : List Cuboid → ℕ → ℕ
place slots slot = length (full (take slot slots))

-- the slot has a section with cells
pub record IsFull (slots : List Cuboid) (slot : ℕ) : Type 0 where
  pub within : slot < length slots
  pub cells : has_cells (entry slots slot) ≡ true

-- how many sections can be named without a growth: each of them under its near corner and its far one
abbrev pub room_of : {A : Type 0} → Corners A → ℕ
room_of corners = min (vec_capacity corners.near) (vec_capacity corners.far)

-- the numbers rise
abbrev pub Rise : List Name → Type 0
Rise names = AllPairs (λ a b. a.corner < b.corner) names

-- the numbers rise, and each section with cells is named by its slot under the number of its corner
pub record AreNamed (corner : Corner) (slots : List Cuboid) (names : List Name) : Type 0 where
  pub rise : Rise names
  pub all : (slot : ℕ) → IsFull slots slot → Contains names (record { corner = corner_number corner (entry slots slot); slot = slot })

-- the numbers rise; each name with another number stays; and where a slot was named under this number, this slot is
-- named under it instead
-- Example: once A is joined to C, slot 2 is named under the number of A's near corner
pub record IsRenamed (corner slot : ℕ) (old new : List Name) : Type 0 where
  pub rise : Rise new
  pub others : (n : Name) → Contains old n → n.corner ≢ corner → Contains new n
  pub renamed : (n : Name) → Contains old n → n.corner ≡ corner → Contains new (record { corner = corner; slot = slot })

-- other is another slot that has a section with cells, and the two share a whole face
-- Example: slots 0 and 1 are beside slot 2
pub record IsBeside (slots : List Cuboid) (slot other : ℕ) : Type 0 where
  pub full : IsFull slots other
  pub differs : other ≢ slot
  pub shares : SharesFace (entry slots slot) (entry slots other)

-- what was found is beside the slot, and no higher than any of this kind that is beside it
-- Example: of slot 2, where all are of the kind: slot 0
pub record IsLeastBeside (Kind : ℕ → Type 0) (slots : List Cuboid) (slot : ℕ) (found : Option ℕ) : Type 0 where
  pub beside : IfSome found (IsBeside slots slot)
  pub least : (other : ℕ) → IsBeside slots slot other → Kind other → IsSomeAnd found (λ f. f ≤ other)

-- the box in the other slot has the corner that a box has which shares the whole face on the axis
abbrev pub IsAtFace : Corner → Axis → List Cuboid → ℕ → ℕ → Type 0
IsAtFace corner axis slots slot other = corner_number corner (entry slots other) ≡ neighbour_number corner axis (entry slots slot)

-- the section in the slot is joined with its neighbours in the whole list of the sections. Where those beyond it had no
-- other neighbours, none from it on has one afterwards. It is no farther on in the list than before, and there are as
-- many slots
pub record IsJoinedAt (slot : ℕ) (old new : List Cuboid) : Type 0 where
  pub joined : IsJoined (place old slot) 0 (length (full old)) (full old) (full new)
  pub settled : Around (full old) (place old slot) → Settled (full new) (place new slot)
  pub no_farther : place new slot ≤ place old slot
  pub as_long : length new ≡ length old
