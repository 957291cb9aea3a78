-- What is known of the rooms of a whole while its free sections are cut anew. A room is a part of the whole, with the
-- boxes that stand in it. Examples are of the room (0,0,0) 10x10x1 with the boxes (1,0,0) 2x3x1 and (5,0,0) 2x1x1.
use Rattle.std.specs.Prelude.{ℕ, ◌≡◌, ◌+◌, ◌-◌, ◌*◌, ◌^◌, ◌<◌, ◌≤◌, ◌⊎◌, min, max, true, List, [], ◌∷◌, ◌++◌, map}
use Rattle.std.specs.Prelude.{length, All, Option, Some, None, IfSome}
use Rattle.std.specs.List.{flat_map}
use Rattle.rectangle_pack_sections.specs.declared.axis.Axis.{Axis}
use Rattle.rectangle_pack_sections.specs.declared.span.Span.{Span}
use Rattle.rectangle_pack_plans.specs.declared.cut_anew.order.Ranked.{Ranked}
use Rattle.rectangle_pack_plans.specs.declared.cut_anew.slabs.Room.{Room}
use Rattle.rectangle_pack_plans.specs.declared.cut_anew.strips.FreeSection.{FreeSection}
use Rattle.rectangle_pack_plans.specs.declared.cut_anew.strips.Side.{Side}
use Rattle.rectangle_pack_plans.specs.declared.cut_anew.strips.Strip.{Strip}
use Rattle.rectangle_pack_sections.specs.Boxes.{Size, Cuboid, FitsU32, IsPartOf, start, end, has_cells, volume_of}
use Rattle.rectangle_pack_sections.specs.CutTrees.{IsFromCuts}
use Rattle.rectangle_pack_sections.specs.LeastSides.{least_side}
use Rattle.rectangle_pack_sections.specs.private.Spans.{span_end}
use Rattle.rectangle_pack_plans.specs.CutPlans.{IsOpenPlane}
use Rattle.rectangle_pack_plans.specs.CuttingAnew.{AreBounds, thickness, side_rank, IsFirstAxis, AreFreeIn}
use Rattle.rectangle_pack_plans.specs.private.CutPlans.{IsClosedOn}

-- straight cuts can part the room round its boxes: with some free sections they are from cuts of it
abbrev pub CanBeCut : List Cuboid → Cuboid → Type 0
CanBeCut boxes room = (free : List Cuboid) × IsFromCuts (free ++ boxes) room

-- the section and its room have ends that fit in 32 bits
pub record HaveBothFit (f : FreeSection) : Type 0 where
  pub section : FitsU32 f.section
  pub room : FitsU32 f.room

-- by thickness in a bin of this size, the thickest first, and then by the volume of the room
abbrev pub thickness_rank : Size → FreeSection → ℕ
thickness_rank bin f = (4294967295 - least_side bin f.section.whd) * 2 ^ 96 + volume_of f.room.whd

-- the section with this rank
abbrev pub ranked : Size → FreeSection → Ranked
ranked bin f = record { rank = thickness_rank bin f; section = f.section }

-- boxes with cells stand in the room, one or more
pub record AreInRoom (room : Cuboid) (boxes : List Cuboid) : Type 0 where
  pub some : 0 < length boxes
  pub inside : All (λ b. IsPartOf b room) boxes
  pub cells : All (λ b. has_cells b ≡ true) boxes

-- from the lower start to the higher end of two boxes on an axis
abbrev pub IsHullOn : Axis → Cuboid → Cuboid → Span → Type 0
IsHullOn a first second span = (span.start ≡ min (start a first) (start a second)) × (span_end span ≡ max (end a first) (end a second))

-- the least box of which both are parts: on each axis from the lower start to the higher end
pub record IsHull (first second hull : Cuboid) : Type 0 where
  pub starts : (a : Axis) → start a hull ≡ min (start a first) (start a second)
  pub ends : (a : Axis) → end a hull ≡ max (end a first) (end a second)

-- the thicker of two strips; the first, where both are equally thick
abbrev pub IsThicker : Strip → Strip → Strip → Type 0
IsThicker first second strip =
    ((strip ≡ first) × (second.thickness ≤ first.thickness)) ⊎ ((strip ≡ second) × (first.thickness < second.thickness))

-- the thickest strip on sides of which the rank is at least `from` and less than `to`; of equally thick ones the first
pub record IsThickestOf (from to : ℕ) (bounds room : Cuboid) (strip : Strip) : Type 0 where
  pub is : strip.thickness ≡ thickness strip.side bounds room
  pub most : (s : Side) → from ≤ side_rank s → side_rank s < to → thickness s bounds room ≤ strip.thickness
  pub first : (s : Side) → from ≤ side_rank s → side_rank s < side_rank strip.side → thickness s bounds room < strip.thickness

-- straight cuts part the room into the strips and the rest. Where they can part the room round boxes in the rest, they
-- can part the rest round them
pub record AreStrips (room rest : Cuboid) (strips : List Cuboid) : Type 0 where
  pub from_cuts : IsFromCuts (strips ++ rest ∷ []) room
  pub cells : All (λ s. has_cells s ≡ true) strips
  pub within : IsPartOf rest room
  pub kept : (boxes : List Cuboid) → All (λ b. IsPartOf b rest) boxes → All (λ b. has_cells b ≡ true) boxes
      → CanBeCut boxes room → CanBeCut boxes rest

-- where an axis is named, no plane on it is open within the bounds of the boxes
abbrev pub AreClosedWithin : Option Axis → List Cuboid → Type 0
AreClosedWithin closed boxes = IfSome closed (λ a. (bounds : Cuboid) → AreBounds boxes bounds → IsClosedOn a bounds boxes)

-- a room with its boxes, and the axis on which these leave no plane open, if one is known
pub record Filled : Type 0 where
  pub section : Cuboid
  pub boxes : List Cuboid
  pub closed : Option Axis

-- the room, and how many boxes it has
abbrev pub counted : Filled → Room
counted f = record { section = f.section; count = length f.boxes; closed = f.closed }

-- where straight cuts can part the first room round its boxes, they can part the other round those in it
pub record IsRoomOf (room : Cuboid) (boxes : List Cuboid) (f : Filled) : Type 0 where
  pub in_room : AreInRoom f.section f.boxes
  pub within : IsPartOf f.section room
  pub kept : CanBeCut boxes room → CanBeCut f.boxes f.section
  pub closed : AreClosedWithin f.closed f.boxes

-- the rooms part the room by straight cuts, and its boxes stand in them one room after another
pub record AreRoomsOf (room : Cuboid) (boxes : List Cuboid) (fs : List Filled) : Type 0 where
  pub from_cuts : IsFromCuts (map (λ (f : Filled). f.section) fs) room
  pub filling : flat_map (λ (f : Filled). f.boxes) fs ≡ boxes
  pub each : All (IsRoomOf room boxes) fs

-- the free sections of rooms, one room after another (`AreFreeIn`)
abbrev pub AreFreeInAll : List Filled → List FreeSection → Type 0
AreFreeInAll [] free = free ≡ []
AreFreeInAll (f ∷ fs) free =
    (one others : List FreeSection) × (free ≡ one ++ others) × AreFreeIn None f.section f.boxes one × AreFreeInAll fs others

-- a plane of the room is open on the axis
abbrev pub HasPlaneOn : Axis → Cuboid → List Cuboid → Type 0
HasPlaneOn a room boxes = (place : ℕ) × IsOpenPlane a place room boxes

-- the rooms are the slabs of the room on the axis: their free sections are its own
abbrev pub AreSlabsOn : Axis → Cuboid → List Cuboid → List Filled → Type 0
AreSlabsOn a room boxes fs = (free : List FreeSection) → AreFreeInAll fs free → AreFreeIn (Some a) room boxes free

-- the rooms are the slabs of the room on the first axis with an open plane
pub record AreFirstSlabs (room : Cuboid) (boxes : List Cuboid) (fs : List Filled) : Type 0 where
  pub axis : Axis
  pub first : IsFirstAxis axis room boxes
  pub slabs : AreSlabsOn axis room boxes fs
