-- Calls of a session by its handle: what each answers, and what it makes of the session. Ids of bins are the caller's
-- numbers; a box's id is its index in the list of the packing that placed it.
use Rattle.std.specs.Prelude.{◌≡◌, ◌≢◌, ℕ, ◌+◌, ◌*◌, ◌^◌, ◌<◌, ◌≤◌, List, length, Contains, Option, Some, MatchOption, slice_get, map, Ok, Err}
use Rattle.std.specs.Ordering.{nat_cmp}
use Rattle.rectangle_pack_sections.specs.declared.box_size_heuristics.named.Heuristic.{Heuristic}
use Rattle.rectangle_pack.specs.declared.session.command.Outstanding.{Outstanding}
use Rattle.rectangle_pack.specs.declared.session.command.Reply.{Reply}
use Rattle.rectangle_pack.specs.declared.session.command.Reply.TheVariants.{Done, Packed, Refused}
use Rattle.rectangle_pack.specs.declared.session.command.SessionError.TheVariants.{DuplicateBin, UnknownBin, UnknownPlacement}
use Rattle.rectangle_pack.specs.declared.session.command.SessionError.TheVariants.{NumbersUsedUp, NotEnoughBinSpace, BinInUse, TooLarge, NotFree, NotFromCuts}
use Rattle.rectangle_pack.specs.declared.session.command.SessionError.TheVariants.{OutOfMemory}
use Rattle.rectangle_pack.specs.declared.session.stats.BinStats.{BinStats}
use Rattle.rectangle_pack.specs.Groups.{Collection}
use Rattle.rectangle_pack.specs.Session.{State, IsSession}
use Rattle.rectangle_pack.specs.SessionBest.{PacksBest, PacksBestAsPromised}
use Rattle.rectangle_pack.specs.Stats.{stats_in}
use Rattle.rectangle_pack_c.specs.declared.RpBox.{RpBox}
use Rattle.rectangle_pack_c.specs.declared.session.RpOutstanding.{RpOutstanding}
use Rattle.rectangle_pack_c.specs.declared.session.RpVolume.{RpVolume}
use Rattle.rectangle_pack_c.specs.declared.session.RpStats.{RpStats}
use Rattle.rectangle_pack_c.specs.declared.collection.RpExclusion.{RpExclusion}
use Rattle.rectangle_pack_c.specs.Collections.{group_order, IsCollected}
use Rattle.rectangle_pack_c.specs.Heuristics.{asked, heuristic_number}
use Rattle.rectangle_pack_c.specs.Answers.{box_at, KeepApart}

-- the status that says this reply: `RP_DONE` for one that is done, else that of the refusal, which the header has under
-- its name
abbrev pub reply_status : Reply → ℕ
reply_status Done = 0
reply_status (Packed numbers) = 0
reply_status (Refused NotEnoughBinSpace) = 1
reply_status (Refused OutOfMemory) = 2
reply_status (Refused DuplicateBin) = 4
reply_status (Refused UnknownBin) = 5
reply_status (Refused UnknownPlacement) = 6
reply_status (Refused NumbersUsedUp) = 7
reply_status (Refused BinInUse) = 13
reply_status (Refused TooLarge) = 14
reply_status (Refused NotFree) = 15
reply_status (Refused NotFromCuts) = 17

-- the handle has a session before the call and after it. There is a reply with which the session may have been changed
-- so (`MayChange`, which is `AddsBin`, `Releases` or another of these), and the status is that of this reply
-- (`reply_status`). Of the session after the call holds what always holds (`IsSession`)
pub record ChangesAs (MayChange : State ℕ ℕ → Reply → State ℕ ℕ → Type 0) (old : Option (State ℕ ℕ)) (status : ℕ) (new : Option (State ℕ ℕ)) : Type 0 where
  pub before : State ℕ ℕ
  pub after : State ℕ ℕ
  pub reply : Reply
  pub had : old ≡ Some before
  pub has : new ≡ Some after
  pub status_is : status ≡ reply_status reply
  pub changed : MayChange before reply after
  pub always : IsSession nat_cmp after

-- there are as many placements as boxes, and fewer than 2^32
pub record AreAsMany (boxes : List RpBox) (placements : List RpOutstanding) : Type 0 where
  pub same : length placements ≡ length boxes
  pub few_boxes : length boxes < 2 ^ 32

-- the collection of the boxes is packed, or refused, as `PacksBest` and `PacksBestAsPromised` say it of the heuristics
-- that are asked for; where it is packed, `chosen` is the number of the one that it was packed with. Of want of memory
-- only that the session is as it was. `Done` does not come
abbrev pub PacksCollection : (heuristic : ℕ) → List RpBox → List RpExclusion → (chosen : ℕ) → State ℕ ℕ → Reply → State ℕ ℕ → Type 0
PacksCollection heuristic boxes exclusions chosen old (Packed numbers) new =
    (all : Collection ℕ ℕ) × (best : Heuristic) × IsCollected boxes exclusions all × (chosen ≡ heuristic_number best)
    × PacksBest group_order nat_cmp nat_cmp (asked heuristic) all old (Ok (best, numbers)) new
    × PacksBestAsPromised group_order nat_cmp nat_cmp (asked heuristic) all old (Ok (best, numbers)) new
PacksCollection heuristic boxes exclusions chosen old (Refused OutOfMemory) new = new ≡ old
PacksCollection heuristic boxes exclusions chosen old (Refused error) new =
    (all : Collection ℕ ℕ) × IsCollected boxes exclusions all
    × PacksBest group_order nat_cmp nat_cmp (asked heuristic) all old (Err error) new
    × PacksBestAsPromised group_order nat_cmp nat_cmp (asked heuristic) all old (Err error) new
PacksCollection heuristic boxes exclusions chosen old Done new = ⊥

-- b is box i, and p is its placement with its number
pub record IsAt (boxes : List RpBox) (placements : List RpOutstanding) (i : ℕ) (b : RpBox) (p : RpOutstanding) : Type 0 where
  pub box : slice_get boxes i ≡ Some b
  pub at : slice_get placements i ≡ Some p

-- box i at this placement, as an outstanding placement of the session
abbrev pub record_of : ℕ → RpBox → RpOutstanding → Outstanding ℕ ℕ
record_of i b p = record { number = p.number; id = i; bin = p.placement.bin; location = box_at b p.placement }

-- there are as many placements as boxes; each box is outstanding at its placement, under a number of its own that was
-- not given before; boxes of one group above 0 are in one bin
-- Example: one box 4x10x1 is packed into a new bin 7, 10x10x1: number 0, bin 7 and the corner (0,0,0) are written, and
-- 0, box 0, bin 7, (0,0,0) 4x10x1 is outstanding
pub record AreOutstanding (boxes : List RpBox) (placements : List RpOutstanding) (old new : State ℕ ℕ) : Type 0 where
  pub as_many : length placements ≡ length boxes
  pub outstanding : (i : ℕ) (b : RpBox) (p : RpOutstanding) → IsAt boxes placements i b p → Contains new.outstanding (record_of i b p)
  pub fresh : (i : ℕ) (b : RpBox) (p : RpOutstanding) → IsAt boxes placements i b p → old.next ≤ p.number
  pub apart : (i j : ℕ) (a b : RpBox) (p q : RpOutstanding) → IsAt boxes placements i a p → IsAt boxes placements j b q
      → i ≢ j → p.number ≢ q.number
  pub together : (i j : ℕ) (a b : RpBox) (p q : RpOutstanding) → IsAt boxes placements i a p → IsAt boxes placements j b q
      → 0 < a.group → a.group ≡ b.group → p.placement.bin ≡ q.placement.bin

-- the same of what a handle has before and after: it has a session both times, and `AreOutstanding` holds of the two
pub record ArePackedNow (boxes : List RpBox) (placements : List RpOutstanding) (old new : Option (State ℕ ℕ)) : Type 0 where
  pub before : State ℕ ℕ
  pub after : State ℕ ℕ
  pub had : old ≡ Some before
  pub has : new ≡ Some after
  pub are : AreOutstanding boxes placements before after

-- two boxes whose groups, above 0, are excluded are in different bins: what `KeepApart` says, of placements with their
-- numbers
abbrev pub StandApart : List RpBox → List RpExclusion → List RpOutstanding → Type 0
StandApart boxes exclusions placements = KeepApart boxes exclusions (map (λ p. p.placement) placements)

-- the number whose lower 64 bits, and whose other bits, these are
abbrev pub volume : RpVolume → ℕ
volume v = v.low + v.high * 2 ^ 64

-- the statistics that are written so
abbrev pub stats_written : RpStats → BinStats
stats_written s = record {
  bin_volume = volume s.bin_volume;
  free_volume = volume s.free_volume;
  placed_volume = volume s.placed_volume;
  free_sections = s.free_sections;
  placements = s.placements;
}

-- the statistics of the bin are written, and free and placed volume add up to the bin's; or the bin is not there, and
-- nothing is written
pub record TellsStats (held : Option (State ℕ ℕ)) (bin status : ℕ) (old new : RpStats) : Type 0 where
  pub state : State ℕ ℕ
  pub has : held ≡ Some state
  pub told : MatchOption (stats_in nat_cmp state bin) ((status ≡ 5) × (new ≡ old)) (λ stats. (status ≡ 0) × (stats_written new ≡ stats))
  pub whole : status ≡ 0 → volume new.free_volume + volume new.placed_volume ≡ volume new.bin_volume
