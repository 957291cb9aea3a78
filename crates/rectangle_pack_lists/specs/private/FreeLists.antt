-- A list of free sections while a packing lasts, and one trial in it.
use Rattle.std.specs.Prelude.{ℕ, ◌≡◌, ◌-◌, ◌/◌, [], ◌∷◌, ◌++◌, List, length, map, min, All, Option, Some, None, Result, Ok, Err, Vec, if◌then◌else◌}
use Rattle.std.specs.Vec.{vec_capacity}
use Rattle.rectangle_pack_lists.specs.declared.free_list.End.{End}
use Rattle.rectangle_pack_lists.specs.declared.free_list.End.TheVariants.{Keep, Undo}
use Rattle.rectangle_pack_lists.specs.declared.free_list.plain.Taken.{Taken}
use Rattle.rectangle_pack_lists.specs.declared.free_list.Sections.{Sections}
use Rattle.rectangle_pack_lists.specs.declared.free_list.Sections.TheVariants.{Plain, Gapped}
use Rattle.rectangle_pack_lists.specs.declared.trial.Trial.{Trial}
use Rattle.rectangle_pack_sections.specs.Boxes.{Size, Cuboid, Holds}
use Rattle.rectangle_pack_sections.specs.Closures.{Answers}
use Rattle.rectangle_pack_lists.specs.Trials.{IsTrial}
use Rattle.rectangle_pack_lists.specs.private.Notes.{Note, plain_note, gap_note, before_notes}
use Rattle.rectangle_pack_lists.specs.private.Places.{sections_of}

-- the places of the sections: all sections of a plain list, or those of a list with gaps
abbrev pub places_in : {A : Type 0} → Sections A → List (Option Cuboid)
places_in (Plain sections) = map (λ s. Some s) sections.items
places_in (Gapped indexed) = indexed.value.list.all

-- the notes of the steps since an index was set
abbrev pub gaps_in : {A : Type 0} → Sections A → List Note
gaps_in (Plain sections) = []
gaps_in (Gapped indexed) = map (gap_note indexed.value.list.under) indexed.value.steps.all

-- the notes of all steps: first those without an index, of which is known what each took
abbrev pub notes_in : {A : Type 0} → List Taken → Sections A → List Note
notes_in taken sections = map plain_note taken ++ gaps_in sections

-- for how many sections the list has room
abbrev pub room_in : {A : Type 0} → Sections A → ℕ
room_in (Plain sections) = vec_capacity sections
room_in (Gapped indexed) = indexed.value.list.capacity

-- for how many steps there is room. In a plain list a step takes one section out and pushes three at most; in a list
-- with gaps the place of the one that it takes out stays, and it has to be one that can be noted
abbrev pub steps_in : {A : Type 0} → Vec Taken A → Sections A → ℕ
steps_in taken (Plain sections) =
    min ((vec_capacity sections - length sections.items) / 2) (vec_capacity taken - length taken.items)
steps_in taken (Gapped indexed) =
    min ((min indexed.value.list.room indexed.value.steps.reach - length indexed.value.list.all) / 3) indexed.value.steps.room

-- a list at work: its places, the notes of the steps that can be undone, for how many sections it has room, and for how
-- many steps more
pub record AtWork : Type 0 where
  pub places : List (Option Cuboid)
  pub notes : List Note
  pub room : ℕ
  pub steps : ℕ

-- its sections as they are now
abbrev pub now_of : AtWork → List Cuboid
now_of work = sections_of work.places

-- its sections before all noted steps
abbrev pub start_of : AtWork → List Cuboid
start_of work = sections_of (before_notes work.notes work.places)

-- what is left of it at the end: where its steps are kept the sections as they are now, and else those at the start
abbrev pub left_of : End → AtWork → List Cuboid
left_of Keep work = now_of work
left_of Undo work = start_of work

-- what a trial answers, and what it leaves of a list of sections, as `IsTrial` says; want of memory leaves the list
abbrev pub IsTried : {E : Type 0} → Answers → List Cuboid → List Size → Result Trial E → List Cuboid → List Cuboid → Type 0
IsTried may old members (Ok trial) locations new =
    IsTrial may old members (if trial.is_done then Some locations else None) new trial.tests
IsTried may old members (Err error) locations new = new ≡ old

-- a trial is stuck at its first member: no section holds it, and there is one test for each section
pub record IsStuckAtOnce (sections : List Cuboid) (members : List Size) (tests : ℕ) : Type 0 where
  pub first : Size
  pub others : List Size
  pub members_are : members ≡ first ∷ others
  pub none : All (λ s. ¬ Holds s first) sections
  pub tests_are : tests ≡ length sections
