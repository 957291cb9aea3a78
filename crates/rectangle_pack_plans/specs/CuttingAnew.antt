-- The free sections of a bin, parted anew by straight cuts from the boxes that stand in it. A room is a part of the bin, with
-- the boxes that stand in it. Examples are of the bin 10x10x1 with the boxes (1,0,0) 2x3x1 and (5,0,0) 2x1x1.
use Rattle.std.specs.Prelude.{ℕ, ◌≡◌, ◌+◌, ◌-◌, ◌*◌, ◌<◌, ◌≤◌, true, List, [], ◌∷◌, ◌++◌, map, length, All, AllPairs, Any, Option, Some, None}
use Rattle.std.specs.List.Sorted.{IsPermutation}
use Rattle.rectangle_pack_sections.specs.declared.axis.Axis.{Axis}
use Rattle.rectangle_pack_plans.specs.declared.cut_anew.strips.FreeSection.{FreeSection}
use Rattle.rectangle_pack_plans.specs.declared.cut_anew.strips.Side.{Side}
use Rattle.rectangle_pack_plans.specs.declared.cut_anew.strips.Side.TheVariants.{Start, End}
use Rattle.rectangle_pack_sections.specs.Boxes.{Size, Cuboid, IsPartOf, start, end, has_cells, volume_of}
use Rattle.rectangle_pack_sections.specs.CutTrees.{lower, upper, IsFromCuts}
use Rattle.rectangle_pack_sections.specs.LeastSides.{least_side}
use Rattle.rectangle_pack_plans.specs.CutPlans.{axis_rank, IsOpenPlane, lower_boxes, upper_boxes}

-- the bounds of boxes, the least box of which all are parts: on each axis some box starts where it does, and some box
-- ends where it does
-- Example: (1,0,0) 6x3x1
pub record AreBounds (boxes : List Cuboid) (bounds : Cuboid) : Type 0 where
  pub inside : All (λ b. IsPartOf b bounds) boxes
  pub starts : (a : Axis) → Any (λ b. start a b ≡ start a bounds) boxes
  pub ends : (a : Axis) → Any (λ b. end a b ≡ end a bounds) boxes

-- the strip of a room beyond the bounds of its boxes on a side, over all of the room's width
-- Example: at the end on x: (7,0,0) 3x10x1
abbrev pub strip_beyond : Side → Cuboid → Cuboid → Cuboid
strip_beyond (Start a) bounds room = lower a (start a bounds) room
strip_beyond (End a) bounds room = upper a (end a bounds) room

-- what the strip leaves of the room
-- Example: at the end on x: (0,0,0) 7x10x1
abbrev pub rest_beyond : Side → Cuboid → Cuboid → Cuboid
rest_beyond (Start a) bounds room = upper a (start a bounds) room
rest_beyond (End a) bounds room = lower a (end a bounds) room

-- how thick the strip is: how far the room goes beyond the bounds on this side
-- Example: at the start on x: 1; at the end on x: 3; at the start on y: 0; at the end on y: 7; on z: 0
abbrev pub thickness : Side → Cuboid → Cuboid → ℕ
thickness (Start a) bounds room = start a bounds - start a room
thickness (End a) bounds room = end a room - end a bounds

-- where a side stands in the order of the axes, the start on each before the end
abbrev pub side_rank : Side → ℕ
side_rank (Start a) = axis_rank a * 2
side_rank (End a) = axis_rank a * 2 + 1

-- the strip on this side is the thickest; of equally thick ones, the first
-- Example: the one at the end on y
pub record IsThickest (side : Side) (bounds room : Cuboid) : Type 0 where
  pub some : 0 < thickness side bounds room
  pub most : (s : Side) → thickness s bounds room ≤ thickness side bounds room
  pub first : (s : Side) → side_rank s < side_rank side → thickness s bounds room < thickness side bounds room

-- the strips round the bounds, which with them fill the room: the thickest, then those of what it leaves
-- Example: (0,3,0) 10x7x1, then (7,0,0) 3x3x1, then (0,0,0) 1x3x1
abbrev pub AreStripsRound : Cuboid → Cuboid → List Cuboid → Type 0
AreStripsRound bounds room [] = room ≡ bounds
AreStripsRound bounds room (strip ∷ strips) =
    (side : Side) × IsThickest side bounds room × (strip ≡ strip_beyond side bounds room)
    × AreStripsRound bounds (rest_beyond side bounds room) strips

-- the first axis on which a plane of the room is open
-- Example: of the bounds: x, at 3, 4 and 5
pub record IsFirstAxis (a : Axis) (room : Cuboid) (boxes : List Cuboid) : Type 0 where
  pub place : ℕ
  pub is_open : IsOpenPlane a place room boxes
  pub first : (e : Axis) (q : ℕ) → axis_rank e < axis_rank a → ¬ IsOpenPlane e q room boxes

-- a slab of the room ends at this place of an axis: the plane is open, and a box starts there
-- Example: on x: 5. What is free before it belongs to the slab
pub record EndsSlab (a : Axis) (place : ℕ) (room : Cuboid) (boxes : List Cuboid) : Type 0 where
  pub is_open : IsOpenPlane a place room boxes
  pub starts : Any (λ b. start a b ≡ place) boxes

-- the first slab of the room on an axis ends at this place
pub record EndsFirstSlab (a : Axis) (place : ℕ) (room : Cuboid) (boxes : List Cuboid) : Type 0 where
  pub here : EndsSlab a place room boxes
  pub first : (q : ℕ) → q < place → ¬ EndsSlab a q room boxes

-- the strips as free sections, each with the room that it was cut from, which is the whole room of all its strips
-- Example: the three strips of the last example, each with the room (0,0,0) 10x10x1
abbrev pub cut_from : Cuboid → List Cuboid → List FreeSection
cut_from room strips = map (λ s. record { section = s; room = room }) strips

-- the free sections of a room: the strips round the bounds of its boxes, and, where more than one box stands in these, the
-- free sections of the slabs of the bounds on the first axis with an open plane. Each slab is a room. Where an axis is
-- named, the room is bounds, or what earlier slabs left of them, and the free sections are those of its slabs on it
-- Example: the three strips of the last example, then (3,0,0) 2x3x1 of the room (1,0,0) 4x3x1, then (5,1,0) 2x2x1 of the
-- room (5,0,0) 2x3x1
pub data AreFreeIn : Option Axis → Cuboid → List Cuboid → List FreeSection → Type 0 where
  OneBox : {room : Cuboid} {boxes : List Cuboid} (bounds : Cuboid) (strips : List Cuboid) → length boxes ≡ 1 → AreBounds boxes bounds
      → AreStripsRound bounds room strips → AreFreeIn None room boxes (cut_from room strips)
  ManyBoxes : {room : Cuboid} {boxes : List Cuboid} (bounds : Cuboid) (strips : List Cuboid) (free : List FreeSection) (a : Axis)
      → 2 ≤ length boxes → AreBounds boxes bounds → AreStripsRound bounds room strips → IsFirstAxis a bounds boxes
      → AreFreeIn (Some a) bounds boxes free → AreFreeIn None room boxes (cut_from room strips ++ free)
  FirstSlab : {a : Axis} {room : Cuboid} {boxes : List Cuboid} (place : ℕ) (below above : List FreeSection)
      → EndsFirstSlab a place room boxes → AreFreeIn None (lower a place room) (lower_boxes a place boxes) below
      → AreFreeIn (Some a) (upper a place room) (upper_boxes a place boxes) above → AreFreeIn (Some a) room boxes (below ++ above)
  LastSlab : {a : Axis} {room : Cuboid} {boxes : List Cuboid} {free : List FreeSection} → ((q : ℕ) → ¬ EndsSlab a q room boxes)
      → AreFreeIn None room boxes free → AreFreeIn (Some a) room boxes free

-- in some order, the free sections of the room (`AreFreeIn`)
abbrev pub AreFreeInSomeOrder : Cuboid → List Cuboid → List FreeSection → Type 0
AreFreeInSomeOrder room boxes free = (sections : List FreeSection) × AreFreeIn None room boxes sections × IsPermutation sections free

-- the free section a may stand before b in the list of a bin of this size: b is no thicker, by its least side (`least_side`);
-- where both are equally thin the room of a has no more cells; and where both rooms have as many, a has no more
-- Example: 6x8x1 before 3x8x1, whatever their rooms; (5,1,0) 2x2x1 of the room (5,0,0) 2x3x1 before (3,0,0) 2x3x1 of the room
-- (1,0,0) 4x3x1
pub record MayStandBefore (bin : Size) (a b : FreeSection) : Type 0 where
  pub thickness : least_side bin b.section.whd ≤ least_side bin a.section.whd
  pub room : least_side bin a.section.whd ≡ least_side bin b.section.whd → volume_of a.room.whd ≤ volume_of b.room.whd
  pub volume : least_side bin a.section.whd ≡ least_side bin b.section.whd → volume_of a.room.whd ≡ volume_of b.room.whd
      → volume_of a.section.whd ≤ volume_of b.section.whd

-- each free section may stand before all behind it
abbrev pub AreThickestFirst : Size → List FreeSection → Type 0
AreThickestFirst bin free = AllPairs (MayStandBefore bin) free

-- free sections without the rooms that they were cut from
abbrev pub sections_alone : List FreeSection → List Cuboid
sections_alone free = map (λ (f : FreeSection). f.section) free

-- the free sections of the whole as a room: the thickest first, of equally thick ones that of the smallest room, and of those
-- of equally large rooms the smallest
-- Example: (0,3,0) 10x7x1, (7,0,0) 3x3x1, (5,1,0) 2x2x1, (3,0,0) 2x3x1, (0,0,0) 1x3x1
abbrev pub AreFreeInOrder : Cuboid → List Cuboid → List Cuboid → Type 0
AreFreeInOrder whole boxes sections =
    (free : List FreeSection) × AreFreeInSomeOrder whole boxes free × AreThickestFirst whole.whd free × (sections ≡ sections_alone free)

-- free sections that with the boxes are from cuts of the whole. Each has cells. Where no box stands there is one; else they
-- are those of the whole as a room, in order (`AreFreeInOrder`)
pub record IsCutAnew (whole : Cuboid) (boxes free : List Cuboid) : Type 0 where
  pub from_cuts : IsFromCuts (free ++ boxes) whole
  pub cells : All (λ s. has_cells s ≡ true) free
  pub empty : has_cells whole ≡ true → boxes ≡ [] → free ≡ whole ∷ []
  pub parted : 0 < length boxes → AreFreeInOrder whole boxes free
