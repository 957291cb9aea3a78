-- The state that saved parts say, and what is made of one of their bins.
use Rattle.std.specs.Prelude.{ℕ, ⊤, ◌≡◌, ◌==◌, not, List, [], ◌∷◌, map, take, drop, All, Err}
use Rattle.std.specs.BTreeMap.{insert_entry}
use Rattle.std.specs.Ordering.{nat_cmp}
use Rattle.rectangle_pack.specs.declared.session.command.Outstanding.{Outstanding}
use Rattle.rectangle_pack.specs.declared.session.restoring.RestoreError.TheVariants.{OutOfMemory}
use Rattle.rectangle_pack.specs.Bins.{Bin, IsSound}
use Rattle.rectangle_pack.specs.Covers.{IsSectionsAnswer}
use Rattle.rectangle_pack.specs.Session.{State}
use Rattle.rectangle_pack_c.specs.declared.reading.RpSection.{RpSection}
use Rattle.rectangle_pack_c.specs.declared.standing.RpStanding.{RpStanding}
use Rattle.rectangle_pack_c.specs.declared.restoring.RpSaved.{RpSaved}
use Rattle.rectangle_pack_c.specs.declared.restoring.RpSavedBin.{RpSavedBin}
use Rattle.rectangle_pack_c.specs.declared.restoring.SavedError.{SavedError}
use Rattle.rectangle_pack_c.specs.declared.restoring.SavedError.TheVariants.{Sections, Parts}
use Rattle.rectangle_pack_c.specs.Arguments.{bin_size}
use Rattle.rectangle_pack_c.specs.Restoring.{AreCounted, HasSound, IdsRise}
use Rattle.rectangle_pack_c.specs.Reading.{cuboid_of}

-- a saved bin with these free sections
abbrev pub bin_saved : RpSavedBin → List RpSection → Bin
bin_saved b own = record { size = bin_size b.size; sections = map cuboid_of own; coalesced = not (b.coalesced == 0) }

-- the saved bins under their ids: each has as many of the sections as it says, behind those of the bins before it
abbrev pub bins_saved : List RpSavedBin → List RpSection → List (ℕ × Bin)
bins_saved [] sections = []
bins_saved (b ∷ bins) sections = (b.id, bin_saved b (take b.section_count sections)) ∷ bins_saved bins (drop b.section_count sections)

-- the placement that is saved so
abbrev pub outstanding_of : RpStanding → Outstanding ℕ ℕ
outstanding_of s = record { number = s.number; id = s.index; bin = s.bin; location = cuboid_of s.section }

-- the state that has these parts, if one has them
abbrev pub state_saved : RpSaved → State ℕ ℕ
state_saved saved = record {
  bins = bins_saved saved.bins.now saved.sections.now;
  outstanding = map outstanding_of saved.placements.now;
  next = saved.next_number;
}

-- these are the saved bins: there are as many sections as they say, their ids rise, and those of each are sound
pub record AreBinsSaved (saved : RpSaved) (bins : List (ℕ × Bin)) : Type 0 where
  pub counted : AreCounted saved
  pub rising : IdsRise saved.bins.now
  pub sound : All HasSound bins
  pub are : bins ≡ bins_saved saved.bins.now saved.sections.now

-- a saved bin is put into a map, under its id, with these free sections, which are sound
pub record IsBinPut (b : RpSavedBin) (own : List RpSection) (old new : List (ℕ × Bin)) : Type 0 where
  pub sound : IsSound (bin_size b.size) (map cuboid_of own)
  pub put : new ≡ insert_entry nat_cmp old b.id (bin_saved b own)

-- why the saved bin at this place is not put into a map
abbrev pub IsFaultOfBin : ℕ → RpSavedBin → List RpSection → SavedError → Type 0
IsFaultOfBin place b own (Sections bin error) = (bin ≡ place) × IsSectionsAnswer (bin_size b.size) (map cuboid_of own) (Err error)
IsFaultOfBin place b own (Parts OutOfMemory) = ⊤
IsFaultOfBin place b own _ = ⊥
