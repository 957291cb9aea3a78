-- Notes of steps, by which the steps are undone.
use Rattle.std.specs.Prelude.{ℕ, ◌≡◌, ◌+◌, ◌-◌, ◌<◌, ◌≤◌, List, [], ◌∷◌, ◌++◌, length, take, insert, set, Bool, true, false, All, Option, Some, IsSome, MatchBool, if◌then◌else◌}
use Rattle.rectangle_pack_lists.specs.declared.free_list.plain.Taken.{Taken}
use Rattle.rectangle_pack_lists.specs.Joining.{entry}
use Rattle.rectangle_pack_sections.specs.Boxes.{Cuboid}

-- which section a step took out, at which place, how many pieces it pushed, and whether the section left a gap. Without a
-- gap the list closed up
pub record Note : Type 0 where
  pub place : ℕ
  pub section : Cuboid
  pub pushed : ℕ
  pub leaves_gap : Bool

-- the places of gaps, in the order in which steps left them, and for how many more there is room, each below `reach`
pub record NotedPlaces : Type 0 where
  pub all : List ℕ
  pub room : ℕ
  pub reach : ℕ

-- the steps in a list with an index, each by its place and how many pieces it pushed, and for how many more there is room,
-- each at a place below `reach`
pub record GapSteps : Type 0 where
  pub all : List (ℕ × ℕ)
  pub room : ℕ
  pub reach : ℕ

-- the note of a step in a plain list
abbrev pub plain_note : Taken → Note
plain_note taken = record { place = taken.place; section = taken.section; pushed = taken.pushed; leaves_gap = false }

-- the note of a step in a list with an index, of its place and how many pieces it pushed: its section still stands in the
-- gap, under it
abbrev pub gap_note : List Cuboid → ℕ × ℕ → Note
gap_note under step = record { place = step.0; section = entry under step.0; pushed = step.1; leaves_gap = true }

-- the places before a noted step: without the pieces that it pushed, and with the section that it took out, in its gap or
-- put in at its place
abbrev pub before_note : Note → List (Option Cuboid) → List (Option Cuboid)
before_note note places =
    if note.leaves_gap then set (take (length places - note.pushed) places) note.place (Some note.section)
    else insert (take (length places - note.pushed) places) note.place (Some note.section)

-- the places before all noted steps, the last undone first
-- Example: two boxes 4x4x1 go into the plain list [(0,0,0) 8x8x1]. The first step takes out the section at place 0 and
-- pushes two pieces: [(0,4,0) 8x4x1, (4,0,0) 4x4x1]. The second takes out the section at place 1 and pushes none:
-- [(0,4,0) 8x4x1]. To undo the second, (4,0,0) 4x4x1 is put in at place 1. To undo the first, the two pieces are
-- dropped, and (0,0,0) 8x8x1 is put in at place 0. In a list with gaps the steps leave [-, (0,4,0) 8x4x1, -],
-- where - is a gap, and the second note has place 2. To undo the second, (4,0,0) 4x4x1 is set at place 2. To undo the
-- first, the last two places are dropped, and (0,0,0) 8x8x1 is set at place 0
abbrev pub before_notes : List Note → List (Option Cuboid) → List (Option Cuboid)
before_notes [] places = places
before_notes (note ∷ notes) places = before_note note (before_notes notes places)

-- a noted step can be undone: its pieces are there, and so is its gap before them. Or its section goes in before them, no gap
-- stands in the list, and there is room for one section more
abbrev pub CanUndoOne : ℕ → Note → List (Option Cuboid) → Type 0
CanUndoOne room note places =
    MatchBool note.leaves_gap (note.place + note.pushed < length places)
    ((note.place + note.pushed ≤ length places) × (length places < room + note.pushed) × All (λ p. IsSome p) places)

-- all noted steps can be undone, the last first
abbrev pub CanUndo : ℕ → List Note → List (Option Cuboid) → Type 0
CanUndo room [] places = Unit {0}
CanUndo room (note ∷ notes) places = CanUndoOne room note (before_notes notes places) × CanUndo room notes places

-- one step more is noted, which led from the places of before to those now, and can be undone
pub record IsNoted (room : ℕ) (notes next : List Note) (places now : List (Option Cuboid)) : Type 0 where
  pub note : Note
  pub more : next ≡ notes ++ note ∷ []
  pub back : before_note note now ≡ places
  pub can : CanUndoOne room note now
