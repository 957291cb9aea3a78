-- How the boxes of a collection may be turned: a C caller gives a number for each box.
use Rattle.std.specs.Prelude.{◌≡◌, ℕ, ◌-◌, ◌<◌, List, length, unwrap_or, if◌then◌else◌, nat_lt, slice_index_or}
use Rattle.std.specs.BTreeMap.{is_at}
use Rattle.std.specs.Map.{lookup}
use Rattle.std.specs.Ordering.{nat_cmp}
use Rattle.rectangle_pack.specs.declared.Turns.{Turns}
use Rattle.rectangle_pack.specs.Needed.{not_turned}
use Rattle.rectangle_pack_c.specs.declared.collection.RpMember.{RpMember}
use Rattle.rectangle_pack_c.specs.declared.collection.RpCollection.{RpCollection}
use Rattle.rectangle_pack_c.specs.Collections.{all_boxes}
use Rattle.rectangle_pack_c.specs.Judging.{turns_of}

-- the index of the box that is placed at index i: i itself, or behind the boxes the one that the member names
-- Example: of three boxes and a member of box 0: at 1 it is box 1, at 3 it is box 0
abbrev pub box_index : RpCollection → ℕ → ℕ
box_index c i =
    let m : RpMember = slice_index_or c.members.now (i - length c.boxes.now) (record { index = 0; group = 0 }) in
    if nat_lt i (length c.boxes.now) then i else m.index

-- the number that says how the box at index i may be turned: that of its box in the list, or 0 behind the end of the list
-- Example: of the same collection and the numbers 4, 1: 4, 1, 0 and 4
abbrev pub turns_number : RpCollection → List ℕ → ℕ → ℕ
turns_number c numbers i = slice_index_or numbers (box_index c i) 0

-- how the box at index i may be turned (`turns_of`)
abbrev pub turns_at : RpCollection → List ℕ → ℕ → Turns
turns_at c numbers i = turns_of (turns_number c numbers i)

-- under the index of each box, and of each member, stands how it may be turned; where nothing stands it is not turned
abbrev pub AreTurnsOf : RpCollection → List ℕ → List (ℕ × Turns) → Type 0
AreTurnsOf c numbers turns =
    (i : ℕ) → i < length (all_boxes c) → unwrap_or (lookup (is_at (nat_cmp i)) turns) not_turned ≡ turns_at c numbers i
