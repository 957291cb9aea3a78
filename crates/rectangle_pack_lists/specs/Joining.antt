-- Joining sections that share a whole face.
use Rattle.std.specs.Prelude.{ℕ, zero, suc, ◌≡◌, ◌≢◌, ◌-◌, ◌<◌, ◌≤◌, ◌⊎◌, min, max, nat_lt, if◌then◌else◌, List, AllPairs, length, slice_index_or, slice_set}
use Rattle.std.specs.List.{remove}
use Rattle.rectangle_pack_sections.specs.declared.axis.Axis.{Axis}
use Rattle.rectangle_pack_sections.specs.declared.axis.Axis.TheVariants.{X, Y, Z}
use Rattle.rectangle_pack_sections.specs.Boxes.{Cuboid, extent, start, end}

-- two boxes share a whole face: on one axis one ends where the other starts; on the two other axes both have the same
-- start and the same length
-- Example: (0,0,0) 4x10x1 and (4,0,0) 6x10x1, on x; (0,0,0) 10x10x1 and (10,0,0) 0x10x1, too. (0,0,0) 4x10x1 and
-- (4,0,0) 6x5x1 do not: 10 high and 5 high
pub record SharesFace (b other : Cuboid) : Type 0 where
  pub axis : Axis
  pub meet : (end axis b ≡ start axis other) ⊎ (end axis other ≡ start axis b)
  pub alike : (a : Axis) → a ≢ axis → (start a b ≡ start a other) × (extent a b.whd ≡ extent a other.whd)

-- no two of the sections share a whole face
abbrev pub ShareNoFace : List Cuboid → Type 0
ShareNoFace sections = AllPairs (λ b other. ¬ SharesFace b other) sections

-- where the join of two boxes starts on an axis: at the lower start
unfoldable pub join_start : Axis → Cuboid → Cuboid → ℕ
join_start a b other = min (start a b) (start a other)

-- how far the join of two boxes runs on an axis: to the higher end
unfoldable pub join_extent : Axis → Cuboid → Cuboid → ℕ
join_extent a b other = max (end a b) (end a other) - join_start a b other

-- the join of two boxes: on each axis from the lower start to the higher end
-- Example: of (0,0,0) 4x10x1 and (4,0,0) 6x10x1: (0,0,0) 10x10x1
unfoldable pub join : Cuboid → Cuboid → Cuboid
join b other = record {
  x = join_start X b other;
  y = join_start Y b other;
  z = join_start Z b other;
  whd = record {
    width = join_extent X b other;
    height = join_extent Y b other;
    depth = join_extent Z b other;
  };
}

-- the entry at the index i. Past the end it is the box (0,0,0) 0x0x0, of which no rule asks
abbrev pub entry : List Cuboid → ℕ → Cuboid
entry sections i = slice_index_or sections i (record { x = 0; y = 0; z = 0; whd = record { width = 0; height = 0; depth = 0 } })

-- j is an index of the list from lo to before hi, other than idx, and the entries at j and idx share a whole face
pub record IsNeighbour (sections : List Cuboid) (idx lo hi j : ℕ) : Type 0 where
  pub from : lo ≤ j
  pub below : j < hi
  pub within : j < length sections
  pub other : j ≢ idx
  pub shares : SharesFace (entry sections idx) (entry sections j)

-- no entry from lo to before hi, other than the one at idx, shares a whole face with it
abbrev pub IsAlone : List Cuboid → ℕ → ℕ → ℕ → Type 0
IsAlone sections idx lo hi = (j : ℕ) → ¬ IsNeighbour sections idx lo hi j

-- j is the least index from lo to before hi, other than idx, whose entry shares a whole face with the one at idx
pub record IsFirstNeighbour (sections : List Cuboid) (idx lo hi j : ℕ) : Type 0 where
  pub is_one : IsNeighbour sections idx lo hi j
  pub least : (k : ℕ) → k < j → ¬ IsNeighbour sections idx lo hi k

-- the list in which the join of the entries idx and j stands in the place of entry idx, and entry j is left out
unfoldable pub joined_list : List Cuboid → ℕ → ℕ → List Cuboid
joined_list sections idx j = remove (slice_set sections idx (join (entry sections idx) (entry sections j))) j

-- the index of the join in that list: idx - 1 where j is below idx, else idx
-- Example: of 3 and 1: 2; of 1 and 3: 1
unfoldable pub joined_index : ℕ → ℕ → ℕ
joined_index idx j = if nat_lt j idx then idx - 1 else idx

-- the list once the entry at idx is joined with its neighbours from lo to before hi. An index past the end, or one that
-- is alone (`IsAlone`), leaves the list as it is. Else the entry is joined with its first neighbour
-- (`IsFirstNeighbour`), and the same is done anew with what that leaves: the list `joined_list`, the index
-- `joined_index`, and the range from lo to before min(hi, old length) - 1
-- Example: the list (2,0,0) 1x2x1, (0,1,0) 2x1x1, (0,0,0) 1x1x1, (1,0,0) 1x1x1, and the index 3 over 0..4. Entry 3
-- shares no whole face with entry 0, 2 high, or entry 1, 2 wide. With entry 2 it becomes (0,0,0) 2x1x1 at 2, over 0..3;
-- that with entry 1 (0,0,0) 2x2x1 at 1, over 0..2; that with entry 0 (0,0,0) 3x2x1 at 0, alone in the list
pub data IsJoined : ℕ → ℕ → ℕ → List Cuboid → List Cuboid → Type 0 where
  PastEnd : {old : List Cuboid} {idx lo hi : ℕ} → length old ≤ idx → IsJoined idx lo hi old old
  Alone : {old : List Cuboid} {idx lo hi : ℕ} → idx < length old → IsAlone old idx lo hi → IsJoined idx lo hi old old
  Joins : {old new : List Cuboid} {idx lo hi : ℕ} → idx < length old → (j : ℕ) → IsFirstNeighbour old idx lo hi j
      → IsJoined (joined_index idx j) lo (min hi (length old) - 1) (joined_list old idx j) new → IsJoined idx lo hi old new

-- the list once the entries at n - 1 down to 0 are joined with their neighbours, one after another, each in the whole
-- list as it is then
abbrev pub IsSweptBelow : ℕ → List Cuboid → List Cuboid → Type 0
IsSweptBelow zero old new = new ≡ old
IsSweptBelow (suc n) old new = (next : List Cuboid) × IsJoined n 0 (length old) old next × IsSweptBelow n next new

-- the list after a sweep: each entry, from the last to the first, is joined with its neighbours in the whole list as it
-- is then
-- Example: the list in the example of `IsJoined`, with (5,0,0) 1x1x1 and (6,0,0) 1x1x1 at its end, becomes (0,0,0)
-- 3x2x1, (5,0,0) 2x1x1. Upward the join at index 2 would end at 0, in a list of three. The indices 3 to 5 would be past
-- its end, and the last two never joined
abbrev pub IsSwept : List Cuboid → List Cuboid → Type 0
IsSwept old new = IsSweptBelow (length old) old new
