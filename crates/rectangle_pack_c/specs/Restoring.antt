-- Sessions for C that are made of saved parts, and what may be wrong with these.
use Rattle.std.specs.Prelude.{ℕ, ⊤, ◌≡◌, ◌+◌, ◌<◌, ◌≤◌, ◌==◌, not, List, [], ◌∷◌, ◌++◌, length, map, All, AllPairs, Option, Some, None, Err}
use Rattle.std.specs.List.{AllZip, flat_map, sum_by}
use Rattle.std.specs.List.Sorted.{IsStrictlySortedBy}
use Rattle.std.specs.Map.{keys_of}
use Rattle.std.specs.Ordering.{nat_cmp}
use Rattle.rectangle_pack.specs.declared.BinFault.{BinFault}
use Rattle.rectangle_pack.specs.declared.BinFault.TheVariants.{Outside, SharesCell, CellInNone, NotFromCuts}
use Rattle.rectangle_pack.specs.declared.SectionsError.{SectionsError}
use Rattle.rectangle_pack.specs.declared.SectionsError.TheVariants.{Outside as NotInside, SharesCell as Share, OutOfMemory as NoMemory}
use Rattle.rectangle_pack.specs.declared.session.restoring.RestoreError.TheVariants.{NotRising, NotBelowNext, UnknownBin, WrongBin, OutOfMemory}
use Rattle.rectangle_pack.specs.Bins.{Bin, IsSound}
use Rattle.rectangle_pack.specs.Covers.{IsSectionsAnswer}
use Rattle.rectangle_pack.specs.Places.{At}
use Rattle.rectangle_pack.specs.Restoring.{IsRestored}
use Rattle.rectangle_pack.specs.Session.{State, IsSession}
use Rattle.rectangle_pack_c.specs.declared.restoring.RpSaved.{RpSaved}
use Rattle.rectangle_pack_c.specs.declared.restoring.RpSavedBin.{RpSavedBin}
use Rattle.rectangle_pack_c.specs.declared.restoring.RpWrong.{RpWrong}
use Rattle.rectangle_pack_c.specs.declared.restoring.SavedError.{SavedError}
use Rattle.rectangle_pack_c.specs.declared.restoring.SavedError.TheVariants.{Counts, Ids, Sections, Parts}
use Rattle.rectangle_pack_c.specs.Arguments.{bin_size}
use Rattle.rectangle_pack_c.specs.Reading.{section_of, standing_of}

-- a bin of a session, under its id, is saved so: with its id, its size, how many free sections it has, and a number that is 0
-- exactly where it does not count as coalesced
pub record IsSavedBin (entry : ℕ × Bin) (saved : RpSavedBin) : Type 0 where
  pub id : entry.0 ≡ saved.id
  pub size : entry.1.size ≡ bin_size saved.size
  pub coalesced : entry.1.coalesced ≡ not (saved.coalesced == 0)
  pub count : length entry.1.sections ≡ saved.section_count

-- a state has these parts: its bins are saved so, and their ids rise; and, as the calls that read a session write them, the free
-- sections of its bins, one bin after another, are the sections, its outstanding placements are the placements, and its next
-- number is the next number
-- Example: a new bin 7, 10x10x1, without placements: the bin 7, 10x10x1, 0 and one section; the section (0,0,0) 10x10x1; no
-- placements
pub record HasParts (saved : RpSaved) (state : State ℕ ℕ) : Type 0 where
  pub bins : AllZip IsSavedBin state.bins saved.bins.now
  pub rising : IsStrictlySortedBy nat_cmp (keys_of state.bins)
  pub sections : flat_map (λ e. map section_of e.1.sections) state.bins ≡ saved.sections.now
  pub outstanding : map standing_of state.outstanding ≡ saved.placements.now
  pub next : state.next ≡ saved.next_number

-- a session of these parts: it has them, and what always holds of a session holds of it
pub record IsSavedSession (saved : RpSaved) (state : State ℕ ℕ) : Type 0 where
  pub parts : HasParts saved state
  pub always : IsSession nat_cmp state

-- as many free sections as the bins say they have
abbrev pub AreCounted : RpSaved → Type 0
AreCounted saved = sum_by (λ b. b.section_count) saved.bins.now ≡ length saved.sections.now

-- the ids of the bins rise
abbrev pub IdsRise : List RpSavedBin → Type 0
IdsRise bins = AllPairs (λ a b. a.id < b.id) bins

-- the first bin whose id is not above that of the bin before it stands at this place
-- Example: of the ids 3, 7, 7 and 4: the place 2
pub record IsFirstFallen (bins : List RpSavedBin) (place : ℕ) : Type 0 where
  pub before : List RpSavedBin
  pub last : RpSavedBin
  pub one : RpSavedBin
  pub after : List RpSavedBin
  pub splits : bins ≡ before ++ last ∷ one ∷ after
  pub place_is : place ≡ length before + 1
  pub rising : IdsRise (before ++ last ∷ [])
  pub fallen : one.id ≤ last.id

-- the free sections of the bin are inside it, and no two share a cell
abbrev pub HasSound : ℕ × Bin → Type 0
HasSound entry = IsSound entry.1.size entry.1.sections

-- what is wrong first with saved parts, looked for in this order: the counts of the bins are not those of the free sections; an id
-- does not rise; the free sections of a bin are wrong, as `bin_of_free_sections` says it of them; or what `Session::restore` says
-- of the state that has these parts. Of want of memory nothing is said
abbrev pub IsSavedFault : RpSaved → SavedError → Type 0
IsSavedFault saved Counts = ¬ AreCounted saved
IsSavedFault saved (Ids bin) = AreCounted saved × IsFirstFallen saved.bins.now bin
IsSavedFault saved (Sections bin error) =
    (state : State ℕ ℕ) × HasParts saved state × (at : At state.bins bin) × All HasSound at.before
    × IsSectionsAnswer at.one.1.size at.one.1.sections (Err error)
IsSavedFault saved (Parts OutOfMemory) = ⊤
IsSavedFault saved (Parts error) =
    (state : State ℕ ℕ) × HasParts saved state × All HasSound state.bins × IsRestored nat_cmp state (Err error)

-- what is written of a fault of a bin's boxes, by the place of the bin
abbrev pub wrong_in_bin : ℕ → BinFault → RpWrong
wrong_in_bin bin (Outside index) = record { kind = 6; bin = bin; first = index; second = 0 }
wrong_in_bin bin (SharesCell first second) = record { kind = 7; bin = bin; first = first; second = second }
wrong_in_bin bin CellInNone = record { kind = 8; bin = bin; first = 0; second = 0 }
wrong_in_bin bin NotFromCuts = record { kind = 9; bin = bin; first = 0; second = 0 }

-- what is written of a fault of free sections, by the place of their bin; of want of memory nothing
abbrev pub wrong_in_sections : ℕ → SectionsError → Option RpWrong
wrong_in_sections bin (NotInside index) = Some (wrong_in_bin bin (Outside index))
wrong_in_sections bin (Share first second) = Some (wrong_in_bin bin (SharesCell first second))
wrong_in_sections bin NoMemory = None

-- what is written of a fault; of want of memory nothing
abbrev pub wrong_written : SavedError → Option RpWrong
wrong_written Counts = Some (record { kind = 1; bin = 0; first = 0; second = 0 })
wrong_written (Ids bin) = Some (record { kind = 2; bin = bin; first = 0; second = 0 })
wrong_written (Sections bin error) = wrong_in_sections bin error
wrong_written (Parts (NotRising placement)) = Some (record { kind = 3; bin = 0; first = placement; second = 0 })
wrong_written (Parts (NotBelowNext placement)) = Some (record { kind = 4; bin = 0; first = placement; second = 0 })
wrong_written (Parts (UnknownBin placement)) = Some (record { kind = 5; bin = 0; first = placement; second = 0 })
wrong_written (Parts (WrongBin bin fault)) = Some (wrong_in_bin bin fault)
wrong_written (Parts OutOfMemory) = None

-- this is written of the first thing that is wrong with saved parts
-- Example: the bin 7, 10x10x1, has one free section, (0,0,0) 10x10x1, and a placement at (0,0,0) 4x10x1: kind 7, bin 0, and the
-- boxes 0 and 1
pub record IsWrong (saved : RpSaved) (wrong : RpWrong) : Type 0 where
  pub error : SavedError
  pub written : wrong_written error ≡ Some wrong
  pub fault : IsSavedFault saved error
