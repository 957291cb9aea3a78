-- What a collection of a C caller means.
use Rattle.std.specs.Prelude.{◌≡◌, ℕ, ◌+◌, ◌^◌, List, [], ◌∷◌, ◌++◌, ◌==◌, Bool, ◌&&◌, not, if◌then◌else◌, nat_lt, nat_le}
use Rattle.std.specs.Prelude.{Option, Some, None, map, filter, length, slice_index_or}
use Rattle.std.specs.declared.cmp.Ordering.{Ordering}
use Rattle.std.specs.List.{enumerate_from, list_any}
use Rattle.std.specs.List.Sorted.{IsStrictlySortedBy}
use Rattle.std.specs.Ordering.{nat_cmp, is_eq}
use Rattle.std.specs.Map.{lookup, keys_of}
use Rattle.std.specs.BTreeMap.{is_at}
use Rattle.rectangle_pack.specs.declared.grouped_rects_to_place.Group.{Group}
use Rattle.rectangle_pack.specs.declared.grouped_rects_to_place.Group.TheVariants.{Ungrouped, Grouped}
use Rattle.rectangle_pack.specs.Exclusions.{are_excluded, are_these}
use Rattle.rectangle_pack.specs.Groups.{Collection, order_of_groups}
use Rattle.rectangle_pack_c.specs.declared.RpBin.{RpBin}
use Rattle.rectangle_pack_c.specs.declared.RpBox.{RpBox}
use Rattle.rectangle_pack_c.specs.declared.collection.RpMember.{RpMember}
use Rattle.rectangle_pack_c.specs.declared.collection.RpExclusion.{RpExclusion}
use Rattle.rectangle_pack_c.specs.declared.collection.RpCollection.{RpCollection}
use Rattle.rectangle_pack_c.specs.Arguments.{box_size}
use Rattle.rectangle_pack_c.specs.Heuristics.{asked}

-- a member as a box: the one that it names, in the group of the member
abbrev pub member_box : List RpBox → RpMember → RpBox
member_box boxes m =
    let b : RpBox = slice_index_or boxes m.index (record { width = 0; height = 0; depth = 0; group = 0 }) in
    record { width = b.width; height = b.height; depth = b.depth; group = m.group }

-- the boxes of a collection that are placed, and behind them its members
-- Example: of three boxes and a member that puts box 0 into group 4: the fourth is of the size of box 0, in group 4
abbrev pub all_boxes : RpCollection → List RpBox
all_boxes c = c.boxes.now ++ map (member_box c.boxes.now) c.members.now

-- there are as many placements as boxes and members of the collection together, and fewer than 2^32
abbrev pub are_as_many : RpCollection → (placement_count : ℕ) → Bool
are_as_many c placement_count = (placement_count == length c.boxes.now + length c.members.now) && nat_lt placement_count (2 ^ 32)

-- the first thing that is wrong with the arguments of a packing, as a status, or 0: there are more or fewer placements
-- than boxes and members, or 2^32 or more (`RP_BAD_LENGTHS`); the heuristic is unknown (`RP_UNKNOWN_HEURISTIC`); a
-- member names no box (`RP_UNKNOWN_BOX`); a group is excluded with itself (`RP_EQUAL_GROUPS`)
-- Example: of three boxes, one member and a known heuristic: 0 for four placements, `RP_BAD_LENGTHS` for three;
-- `RP_UNKNOWN_BOX` where the member names box 3; `RP_EQUAL_GROUPS` where 5 and 5 are excluded
abbrev pub fault_of : RpCollection → (heuristic placement_count : ℕ) → ℕ
fault_of c heuristic placement_count =
    if not (are_as_many c placement_count) then 3 else (
    if length (asked heuristic) == 0 then 10 else (
    if list_any (λ m. nat_le (length c.boxes.now) m.index) c.members.now then 11 else (
    if list_any (λ e. e.one == e.other) c.exclusions.now then 12 else 0)))

-- the same where they are packed into these bins: it is looked at first whether there are fewer than 2^32 of them
abbrev pub fault_in : List RpBin → RpCollection → (heuristic placement_count : ℕ) → ℕ
fault_in bins c heuristic placement_count = if nat_lt (length bins) (2 ^ 32) then fault_of c heuristic placement_count else 3

-- the order of groups: those of one box first, by its index, then the others, by their numbers
abbrev pub group_order : Group ℕ ℕ → Group ℕ ℕ → Ordering
group_order = order_of_groups nat_cmp nat_cmp

-- the group of box i: one of its own where its number is 0, else the one of that number
abbrev pub group_of : ℕ → RpBox → Group ℕ ℕ
group_of i b = if b.group == 0 then Ungrouped i else Grouped b.group

-- the indices of the boxes of a group, in order
-- Example: of two boxes in group 1, one alone and one in group 4: [0, 1] for Grouped 1, [2] for Ungrouped 2, [3] for
-- Grouped 4, and [] for each other group
abbrev pub indices_in : Group ℕ ℕ → List RpBox → List ℕ
indices_in group boxes = map (λ e. e.0) (filter (λ e. is_eq (group_order group (group_of e.0 e.1))) (enumerate_from 0 boxes))

-- a list, where it has entries
abbrev pub unless_empty : List ℕ → Option (List ℕ)
unless_empty [] = None
unless_empty (i ∷ ids) = Some (i ∷ ids)

-- the two groups are those that the exclusion e names, in either order
abbrev pub are_pair : Group ℕ ℕ → Group ℕ ℕ → RpExclusion → Bool
are_pair a b e = are_these group_order (Grouped e.one) (Grouped e.other) a b

-- `all` is the collection of these boxes: each size under the index of its box; each group that has boxes, once, with
-- their indices in order; and those groups are excluded that an exclusion names
pub record IsCollected (boxes : List RpBox) (exclusions : List RpExclusion) (all : Collection ℕ ℕ) : Type 0 where
  pub sizes : all.sizes ≡ enumerate_from 0 (map box_size boxes)
  pub groups : (group : Group ℕ ℕ) → lookup (is_at (group_order group)) all.groups ≡ unless_empty (indices_in group boxes)
  pub ascend : IsStrictlySortedBy group_order (keys_of all.groups)
  pub excluded : (a b : Group ℕ ℕ) → are_excluded group_order all.partners a b ≡ list_any (are_pair a b) exclusions
