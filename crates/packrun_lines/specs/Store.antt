-- A store: a session, and the boxes that its next packing places. What each call makes of it.
use Rattle.std.specs.Prelude.{◌≡◌, ℕ, List, [], length, drop, Option, Some, None, Result, Ok, Err}
use Rattle.std.specs.Cmp.Lexicographic.{slice_cmp}
use Rattle.std.specs.declared.cmp.Ordering.{Ordering}
use Rattle.std.specs.Ordering.{nat_cmp}
use Rattle.std.specs.Option.{option_map}
use Rattle.std.specs.List.Sorted.{IsStrictlySortedBy}
use Rattle.std.specs.Map.{lookup, keys_of}
use Rattle.std.specs.BTreeMap.{is_at}
use Rattle.rectangle_pack.specs.declared.box_size_heuristics.Heuristic.TheVariants.{Volume}
use Rattle.rectangle_pack.specs.declared.grouped_rects_to_place.Group.{Group}
use Rattle.rectangle_pack.specs.declared.session.command.Outstanding.{Outstanding}
use Rattle.rectangle_pack.specs.declared.session.command.Packed.{Packed}
use Rattle.rectangle_pack.specs.declared.session.command.Reply.{Reply}
use Rattle.rectangle_pack.specs.declared.session.command.SessionError.{SessionError}
use Rattle.rectangle_pack.specs.declared.session.command.SessionError.TheVariants.{OutOfMemory}
use Rattle.rectangle_pack.specs.Best.{named_rules}
use Rattle.rectangle_pack.specs.Bins.{Bin}
use Rattle.rectangle_pack.specs.Boxes.{Size, Cuboid}
use Rattle.rectangle_pack.specs.Groups.{Collection, PushesAlone, PushesInto, order_of_groups}
use Rattle.rectangle_pack.specs.Packing.{Rules}
use Rattle.rectangle_pack.specs.Session.{State, Packs, reply_of, packed_reply}

-- a name is its bytes
abbrev pub Name : Type 0
Name = List ℕ

-- names are ordered by their bytes: by the first that differs, and a name stands before those that it begins
-- Example: `A` before `a`, `a` before `aa`
abbrev pub name_cmp : Name → Name → Ordering
name_cmp = slice_cmp nat_cmp

-- the order of groups, by the order of names: boxes that are placed alone first, then the others
abbrev pub group_order : Group Name Name → Group Name Name → Ordering
group_order = order_of_groups name_cmp name_cmp

-- a session, and the boxes that its next packing places
pub record Store : Type 0 where
  pub session : State Name Name
  pub boxes : Collection Name Name

-- no boxes to place, and no pairs of groups
abbrev pub no_boxes : Collection Name Name
no_boxes = record { sizes = []; groups = []; partners = [] }

-- a store without bins and boxes, whose first placement gets this number
abbrev pub empty_store : ℕ → Store
empty_store first = record { session = record { bins = []; outstanding = []; next = first }; boxes = no_boxes }

-- a call changes the session so, by its reply, and leaves the boxes to place as they are
-- Example: with `AddsBin`: a bin is added, or there already, and the boxes stay
abbrev pub ChangesSession : (State Name Name → Reply → State Name Name → Type 0) → Store → Result (Unit {0}) SessionError → Store → Type 0
ChangesSession MayChange old result new = MayChange old.session (reply_of result) new.session × (new.boxes ≡ old.boxes)

-- a call changes the boxes to place so, and leaves the session as it is; or memory is refused, and nothing is changed
abbrev pub ChangesBoxes : (Collection Name Name → Collection Name Name → Type 0) → Store → Result (Unit {0}) SessionError → Store → Type 0
ChangesBoxes MayChange old (Ok done) new = MayChange old.boxes new.boxes × (new.session ≡ old.session)
ChangesBoxes MayChange old (Err error) new = (error ≡ OutOfMemory) × (new ≡ old)

-- a box of this name and size is to be placed: alone (`PushesAlone`); or in these groups, in each as often as it is named
-- (`PushesInto`), and all groups then stand in order, each once
abbrev pub TakesBox : Name → Size → Option (List Name) → Collection Name Name → Collection Name Name → Type 0
TakesBox name size None old new = PushesAlone name_cmp group_order old new name size
TakesBox name size (Some groups) old new =
    PushesInto name_cmp group_order old new name groups size × IsStrictlySortedBy group_order (keys_of new.groups)

-- what a packing goes by: volumes, and the cuts that `contains_smallest_box` prefers by them
-- Example: `named_rules` of `Volume`
abbrev pub volume_rules : Rules Name Name
volume_rules = named_rules name_cmp name_cmp Volume

-- the boxes are packed by these rules (`Packs`), and where that is done they are forgotten, with the pairs of groups;
-- else both are kept
-- Example: after `packed 2` there is nothing to place
abbrev pub PacksBoxes : Store → Result Packed SessionError → Store → Type 0
PacksBoxes old (Ok numbers) new =
    Packs group_order volume_rules old.boxes old.session (packed_reply (Ok numbers)) new.session × (new.boxes ≡ no_boxes)
PacksBoxes old (Err error) new =
    Packs group_order volume_rules old.boxes old.session (packed_reply (Err error)) new.session × (new.boxes ≡ old.boxes)

-- the placements that a packing made: those that are outstanding behind the ones of before
abbrev pub placements_made : Store → Store → List (Outstanding Name Name)
placements_made old new = drop (length old.session.outstanding) new.session.outstanding

-- the free sections of the bin of this name, or none where there is no such bin
abbrev pub sections_in : State Name Name → Name → Option (List Cuboid)
sections_in state name = option_map (λ (bin : Bin). bin.sections) (lookup (is_at (name_cmp name)) state.bins)
