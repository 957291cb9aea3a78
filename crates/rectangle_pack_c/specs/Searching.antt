-- Packings that are searched for, for C: in which sizes boxes stand, which are left, and what is written of them.
use Rattle.std.specs.Prelude.{◌≡◌, ◌≢◌, ◌==◌, ◌⊎◌, ℕ, ◌+◌, ◌<◌, ◌≤◌, ◌^◌, Bool, false, not, List, length, map, count_by}
use Rattle.std.specs.Prelude.{Contains, Option, Some, IsSomeAnd, MatchBool, slice_get, unwrap_or, if◌then◌else◌, Ok}
use Rattle.std.specs.declared.alloc.Global.{Global}
use Rattle.std.specs.Map.{lookup}
use Rattle.std.specs.BTreeMap.{is_at}
use Rattle.std.specs.Ordering.{nat_cmp}
use Rattle.rectangle_pack_packing.specs.Fitting.{names_left}
use Rattle.rectangle_pack_sections.specs.declared.box_size_heuristics.named.Heuristic.{Heuristic}
use Rattle.rectangle_pack.specs.declared.Turns.{Turns}
use Rattle.rectangle_pack.specs.declared.grouped_rects_to_place.Group.{Group}
use Rattle.rectangle_pack.specs.declared.searching.answer.Searched.{Searched}
use Rattle.rectangle_pack.specs.declared.session.command.Packed.{Packed as Numbers}
use Rattle.rectangle_pack.specs.declared.session.command.Reply.{Reply}
use Rattle.rectangle_pack.specs.declared.session.command.Reply.TheVariants.{Done, Packed, Refused}
use Rattle.rectangle_pack.specs.declared.session.command.SessionError.{SessionError}
use Rattle.rectangle_pack.specs.declared.session.command.SessionError.TheVariants.{NotEnoughBinSpace, NumbersUsedUp, OutOfMemory}
use Rattle.rectangle_pack.specs.Best.{named_rules}
use Rattle.rectangle_pack.specs.Boxes.{Size, IsInside, AreApart}
use Rattle.rectangle_pack.specs.Groups.{Collection, entries_of}
use Rattle.rectangle_pack.specs.Promise.{NoBinTakes}
use Rattle.rectangle_pack.specs.Session.{State}
use Rattle.rectangle_pack.specs.SessionSearched.{PacksSearched, SearchedAsPromised}
use Rattle.rectangle_pack_bounds.specs.Turning.{ways}
use Rattle.rectangle_pack_c.specs.declared.RpBin.{RpBin}
use Rattle.rectangle_pack_c.specs.declared.RpBox.{RpBox}
use Rattle.rectangle_pack_c.specs.declared.collection.RpCollection.{RpCollection}
use Rattle.rectangle_pack_c.specs.declared.collection.RpExclusion.{RpExclusion}
use Rattle.rectangle_pack_c.specs.declared.reading.RpSection.{RpSection}
use Rattle.rectangle_pack_c.specs.declared.standing.RpStanding.{RpStanding}
use Rattle.rectangle_pack_c.specs.declared.searching.RpCost.{RpCost}
use Rattle.rectangle_pack_c.specs.declared.searching.RpLocation.{RpLocation}
use Rattle.rectangle_pack_c.specs.declared.searching.RpSearched.{RpSearched}
use Rattle.rectangle_pack_c.specs.declared.searching.RpSearchOptions.{RpSearchOptions}
use Rattle.rectangle_pack_c.specs.Arguments.{bin_size, box_size, new_bins}
use Rattle.rectangle_pack_c.specs.Collections.{IsCollected, all_boxes, fault_in, fault_of, group_of, group_order}
use Rattle.rectangle_pack_c.specs.Fitting.{session_with}
use Rattle.rectangle_pack_c.specs.Reading.{cuboid_of}
use Rattle.rectangle_pack_c.specs.Sessions.{ChangesAs}
use Rattle.rectangle_pack_c.specs.Turning.{AreTurnsOf, turns_at}

-- the first thing that is wrong with a collection alone, as a status, or 0: what `fault_of` says where there are as many
-- placements as boxes and members, and a heuristic is known
abbrev pub fault_alone : RpCollection → ℕ
fault_alone c = fault_of c 0 (length (all_boxes c))

-- the first thing that is wrong with a search: the options have another size than `RpSearchOptions`
-- (`RP_UNKNOWN_OPTIONS`), or this
abbrev pub fault_searching : RpSearchOptions → ℕ → ℕ
fault_searching o fault = if o.size == 64 then fault else 21

-- whether groups may be left
abbrev pub may_leave : RpSearchOptions → Bool
may_leave o = not (o.may_leave == 0)

-- a bin, and what it costs
abbrev pub cost_pair : RpCost → ℕ × ℕ
cost_pair c = (c.bin, c.cost)

-- under the id of each bin stands what the first entry of the list says that it costs; nothing where there is none
-- Example: of (7, 3), (8, 5), (7, 4): 3 for the bin 7, 5 for 8, and nothing for 9
abbrev pub AreCostsOf : List RpCost → List (ℕ × ℕ) → Type 0
AreCostsOf listed costs = (bin : ℕ) → lookup (is_at (nat_cmp bin)) costs ≡ lookup (is_at (nat_cmp bin)) (map cost_pair listed)

-- how many bins are needed, as it is written: `RP_NO_PACKING` where there is no packing of all boxes
abbrev pub least_written : Option ℕ → ℕ
least_written least = unwrap_or least 0xffffffffffffffff

-- a section of 0 cells at (0,0,0)
abbrev pub no_section : RpSection
no_section = record { x = 0; y = 0; z = 0; width = 0; height = 0; depth = 0 }

-- what is written of a box that is left: `RP_LEFT_BIN`, which is no index of a bin, and no section
abbrev pub left_location : RpLocation
left_location = record { bin = 0xffffffff; section = no_section }

-- the same in a session, with `RP_LEFT_NUMBER`, which no placement has
abbrev pub left_standing : RpStanding
left_standing = record { number = 0xffffffffffffffff; index = 0; bin = 0xffffffff; section = no_section }

-- whether a placement says that its box is left
abbrev pub location_says_left : RpLocation → Bool
location_says_left p = p.bin == 0xffffffff

-- whether a placement of a session says so, by its number
abbrev pub standing_says_left : RpStanding → Bool
standing_says_left p = p.number == 0xffffffffffffffff

-- b is box i, and p is its placement
pub record LiesAt {X : Type 0} (boxes : List RpBox) (placements : List X) (i : ℕ) (b : RpBox) (p : X) : Type 0 where
  pub box : slice_get boxes i ≡ Some b
  pub at : slice_get placements i ≡ Some p

-- box i of a collection may stand in this size, where the list says how boxes may be turned
abbrev pub MayStand : RpCollection → List ℕ → ℕ → RpBox → Size → Type 0
MayStand c turns i b size = Contains (ways (record { whd = box_size b; turns = turns_at c turns i })) size

module _ (c : RpCollection) (o : RpSearchOptions) where
  -- a packing of the collection is searched for and kept, as `PacksSearched` and `SearchedAsPromised` say it of these turns
  -- and costs, and this is told of it: how many bins have a box, how many are needed, and whether the packing is optimal.
  -- `names_left found.left` are the groups that are left
  pub record FoundCollection (told : RpSearched) (old new : State ℕ ℕ) : Type 0 where
    pub all : Collection ℕ ℕ
    pub collected : IsCollected (all_boxes c) c.exclusions.now all
    pub turns : List (ℕ × Turns)
    pub turns_are : AreTurnsOf c o.turns.now turns
    pub costs : List (ℕ × ℕ)
    pub costs_are : AreCostsOf o.costs.now costs
    pub found : Searched Numbers (Group ℕ ℕ) Global
    pub packed : PacksSearched group_order nat_cmp nat_cmp all turns (may_leave o) costs old (Ok found) new
    pub promised : SearchedAsPromised group_order nat_cmp nat_cmp all turns (may_leave o) costs old (Ok found) new
    pub used : told.used ≡ found.used
    pub least : told.least ≡ least_written found.least
    pub optimal : told.is_optimal ≡ if found.is_optimal then 1 else 0

  -- with each heuristic that has a number, for some group of the boxes each bin is excluded or does not take all of them, as
  -- the groups before it left the bins (`NoBinTakes`); and nothing may be left
  pub record IsRefusedSearch (bins : List RpBin) : Type 0 where
    pub all : Collection ℕ ℕ
    pub collected : IsCollected (all_boxes c) c.exclusions.now all
    pub whole : may_leave o ≡ false
    pub each : (heuristic : Heuristic) → NoBinTakes group_order (named_rules nat_cmp nat_cmp heuristic) all (new_bins bins)

  -- a search that is refused leaves the session as it was. `NumbersUsedUp`: the next number and the entries of all groups
  -- add up to 2^64 or more. `NotEnoughBinSpace`: nothing may be left, and with each heuristic that has a number
  -- `NoBinTakes`. No error but these and `OutOfMemory` comes
  abbrev pub RefusesSearch : State ℕ ℕ → SessionError → State ℕ ℕ → Type 0
  RefusesSearch old NumbersUsedUp new =
      (all : Collection ℕ ℕ) × IsCollected (all_boxes c) c.exclusions.now all × (2 ^ 64 ≤ old.next + entries_of all) × (new ≡ old)
  RefusesSearch old NotEnoughBinSpace new =
      (all : Collection ℕ ℕ) × IsCollected (all_boxes c) c.exclusions.now all × (may_leave o ≡ false)
      × ((heuristic : Heuristic) → NoBinTakes group_order (named_rules nat_cmp nat_cmp heuristic) all old.bins) × (new ≡ old)
  RefusesSearch old OutOfMemory new = new ≡ old
  RefusesSearch old error new = ⊥

  -- box i is outstanding at this placement, in a size in which it may stand, under a number that was not given before and is
  -- not `RP_LEFT_NUMBER`, and its group is not left
  pub record IsLaidNow (left : List (Group ℕ ℕ)) (old new : State ℕ ℕ) (i : ℕ) (b : RpBox) (p : RpStanding) : Type 0 where
    pub outstanding : Contains new.outstanding (record { number = p.number; id = i; bin = p.bin; location = cuboid_of p.section })
    pub index : p.index ≡ i
    pub stands : MayStand c o.turns.now i b (cuboid_of p.section).whd
    pub fresh : old.next ≤ p.number
    pub number : p.number < 0xffffffffffffffff
    pub taken : ¬ Contains left (group_of i b)

  -- there are as many placements as boxes. Each box is outstanding at its placement (`IsLaidNow`), or its group is left and
  -- its placement says so. Two placements of one number are both of boxes that are left. Boxes of one group above 0 are in
  -- one bin, or all left. `count` is how many placements say so
  -- Example: 4x9x1 and 9x6x1, each alone, into a new bin 7, 9x10x1, where the first may be turned about z: it stands as
  -- 9x4x1, and nothing is left
  pub record AreLaidNow (placements : List RpStanding) (left : List (Group ℕ ℕ)) (count : ℕ) (old new : State ℕ ℕ) : Type 0 where
    pub as_many : length placements ≡ length (all_boxes c)
    pub each : (i : ℕ) (b : RpBox) (p : RpStanding) → LiesAt (all_boxes c) placements i b p
        → IsLaidNow left old new i b p ⊎ (Contains left (group_of i b) × (p ≡ left_standing))
    pub apart : (i j : ℕ) (a b : RpBox) (p q : RpStanding) → LiesAt (all_boxes c) placements i a p → LiesAt (all_boxes c) placements j b q
        → i ≢ j → p.number ≡ q.number → p.number ≡ 0xffffffffffffffff
    pub together : (i j : ℕ) (a b : RpBox) (p q : RpStanding) → LiesAt (all_boxes c) placements i a p → LiesAt (all_boxes c) placements j b q
        → 0 < a.group → a.group ≡ b.group
        → (p.bin ≡ q.bin) × (p.number ≡ 0xffffffffffffffff → q.number ≡ 0xffffffffffffffff)
    pub counted : count ≡ count_by standing_says_left placements

  -- a packing of the collection is searched for and packed into the session, or nothing is, by cases. `Done`: it is packed
  -- (`FoundCollection`), and what is written says where each box is, or that it is left (`AreLaidNow`). Refused:
  -- `RefusesSearch`. `Packed` does not come
  abbrev pub SearchesInto : List RpStanding → RpSearched → State ℕ ℕ → Reply → State ℕ ℕ → Type 0
  SearchesInto placements searched old Done new =
      (it : FoundCollection searched old new) × AreLaidNow placements (names_left it.found.left) searched.left old new
  SearchesInto placements searched old (Refused error) new = RefusesSearch old error new
  SearchesInto placements searched old (Packed numbers) new = ⊥

  -- box i is outstanding in the session as the placement says, under some number, in a size in which it may stand, and its
  -- group is not left
  pub record IsLaid (left : List (Group ℕ ℕ)) (new : State ℕ ℕ) (i : ℕ) (b : RpBox) (p : RpLocation) : Type 0 where
    pub number : ℕ
    pub outstanding : Contains new.outstanding (record { number = number; id = i; bin = p.bin; location = cuboid_of p.section })
    pub stands : MayStand c o.turns.now i b (cuboid_of p.section).whd
    pub bin : p.bin < 0xffffffff
    pub taken : ¬ Contains left (group_of i b)

  -- a packing of the collection is searched for and packed into a new session with these bins (`FoundCollection`). Each box
  -- is placed there (`IsLaid`), or its group is left and its placement says so. How many placements say so is written
  -- Example: the same boxes into a bin 9x10x1 are placed; into a bin 9x9x1, where groups may be left, the first is left
  pub record SearchesNewBins (bins : List RpBin) (placements : List RpLocation) (searched : RpSearched) : Type 0 where
    pub after : State ℕ ℕ
    pub it : FoundCollection searched (session_with bins) after
    pub each : (i : ℕ) (b : RpBox) (p : RpLocation) → LiesAt (all_boxes c) placements i b p
        → IsLaid (names_left it.found.left) after i b p ⊎ (Contains (names_left it.found.left) (group_of i b) × (p ≡ left_location))
    pub counted : searched.left ≡ count_by location_says_left placements

-- there are as many placements as boxes and members. Each box that is not left stands inside the bin that its placement
-- names, in a size in which it may stand; no two of them in one bin share a cell; boxes of one group above 0 are in one bin,
-- or all left
pub record AreLaid (bins : List RpBin) (c : RpCollection) (turns : List ℕ) (placements : List RpLocation) : Type 0 where
  pub as_many : length placements ≡ length (all_boxes c)
  pub inside : (i : ℕ) (b : RpBox) (p : RpLocation) → LiesAt (all_boxes c) placements i b p → p.bin ≢ 0xffffffff
      → IsSomeAnd (slice_get bins p.bin) (λ bin. IsInside (bin_size bin) (cuboid_of p.section))
  pub stands : (i : ℕ) (b : RpBox) (p : RpLocation) → LiesAt (all_boxes c) placements i b p → p.bin ≢ 0xffffffff
      → MayStand c turns i b (cuboid_of p.section).whd
  pub apart : (i j : ℕ) (a b : RpBox) (p q : RpLocation) → LiesAt (all_boxes c) placements i a p → LiesAt (all_boxes c) placements j b q
      → i ≢ j → p.bin ≢ 0xffffffff → p.bin ≡ q.bin → AreApart (cuboid_of p.section) (cuboid_of q.section)
  pub together : (i j : ℕ) (a b : RpBox) (p q : RpLocation) → LiesAt (all_boxes c) placements i a p → LiesAt (all_boxes c) placements j b q
      → 0 < a.group → a.group ≡ b.group → p.bin ≡ q.bin

-- two boxes whose groups, above 0, an exclusion names, and that are not left, are in different bins
abbrev pub LaidApart : List RpBox → List RpExclusion → List RpLocation → Type 0
LaidApart boxes exclusions placements =
    (i j : ℕ) (a b : RpBox) (p q : RpLocation) → LiesAt boxes placements i a p → LiesAt boxes placements j b q
    → 0 < a.group → 0 < b.group → (e : RpExclusion) → Contains exclusions e → a.group ≡ e.one → b.group ≡ e.other
    → p.bin ≢ 0xffffffff → p.bin ≢ q.bin

-- the same of placements with their numbers
abbrev pub StandLaidApart : List RpBox → List RpExclusion → List RpStanding → Type 0
StandLaidApart boxes exclusions placements =
    (i j : ℕ) (a b : RpBox) (p q : RpStanding) → LiesAt boxes placements i a p → LiesAt boxes placements j b q
    → 0 < a.group → 0 < b.group → (e : RpExclusion) → Contains exclusions e → a.group ≡ e.one → b.group ≡ e.other
    → p.number ≢ 0xffffffffffffffff → q.number ≢ 0xffffffffffffffff → p.bin ≢ q.bin

-- what a search for bins of one call answers, by the clauses of `rectangle_pack_searched`, each under its name
pub record AnswersSearch (bins : List RpBin) (c : RpCollection) (o : RpSearchOptions) (status : ℕ) (old new : List RpLocation)
    (before after : RpSearched) : Type 0 where
  pub faults : let fault : ℕ = fault_searching o (fault_in bins c 0 (length old)) in MatchBool (fault == 0) (status ≤ 2) (status ≡ fault)
  pub unchanged : status ≢ 0 → (new ≡ old) × (after ≡ before)
  pub packed : status ≡ 0 → SearchesNewBins c o bins new after
  pub done : status ≡ 0 → AreLaid bins c o.turns.now new
  pub apart : status ≡ 0 → LaidApart (all_boxes c) c.exclusions.now new
  pub refused : status ≡ 1 → IsRefusedSearch c o bins

-- what a search for the bins of a session answers, by the clauses of `rectangle_pack_session_pack_searched`
pub record AnswersSearchInto (c : RpCollection) (o : RpSearchOptions) (state : Option (State ℕ ℕ)) (status : ℕ) (next : Option (State ℕ ℕ))
    (old new : List RpStanding) (before after : RpSearched) : Type 0 where
  pub faults : let fault : ℕ = fault_searching o (fault_of c 0 (length old)) in fault ≢ 0 → (status ≡ fault) × (next ≡ state)
  pub packed : fault_searching o (fault_of c 0 (length old)) ≡ 0 → ChangesAs (SearchesInto c o new after) state status next
  pub apart : status ≡ 0 → StandLaidApart (all_boxes c) c.exclusions.now new
  pub unchanged : status ≢ 0 → (new ≡ old) × (after ≡ before)
