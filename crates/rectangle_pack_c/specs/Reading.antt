-- What C reads of a session: lists that go to arrays of the caller's.
use Rattle.std.specs.Prelude.{◌≡◌, ◌⊎◌, ◌==◌, ℕ, ◌<◌, ◌≤◌, List, ◌++◌, length, drop, filter, map, MatchOption, if◌then◌else◌}
use Rattle.std.specs.Ordering.{nat_cmp}
use Rattle.std.specs.Map.{lookup}
use Rattle.std.specs.BTreeMap.{is_at}
use Rattle.rectangle_pack.specs.declared.session.command.Outstanding.{Outstanding}
use Rattle.rectangle_pack.specs.declared.CutStep.{CutStep}
use Rattle.rectangle_pack.specs.declared.CutStep.TheVariants.{Cut as CutAt, Leaf as LeafHere}
use Rattle.rectangle_pack.specs.Bins.{Bin, whole}
use Rattle.rectangle_pack.specs.Boxes.{Cuboid}
use Rattle.rectangle_pack.specs.CutPlans.{IsCutPlan, axis_rank}
use Rattle.rectangle_pack.specs.CutTrees.{IsFromCuts}
use Rattle.rectangle_pack.specs.Session.{State, boxes_of}
use Rattle.rectangle_pack_c.specs.declared.RpBin.{RpBin}
use Rattle.rectangle_pack_c.specs.declared.reading.RpCutStep.{RpCutStep}
use Rattle.rectangle_pack_c.specs.declared.reading.RpSection.{RpSection}
use Rattle.rectangle_pack_c.specs.declared.standing.RpStanding.{RpStanding}
use Rattle.rectangle_pack_c.specs.Arguments.{bin_size}

-- what is written of a box of cells: its corner and its sides
abbrev pub section_of : Cuboid → RpSection
section_of c = record { x = c.x; y = c.y; z = c.z; width = c.whd.width; height = c.whd.height; depth = c.whd.depth }

-- the box of cells that has this corner and these sides
abbrev pub cuboid_of : RpSection → Cuboid
cuboid_of s = record { x = s.x; y = s.y; z = s.z; whd = record { width = s.width; height = s.height; depth = s.depth } }

-- what is written of an outstanding placement, with its box
abbrev pub standing_of : Outstanding ℕ ℕ → RpStanding
standing_of o = record { number = o.number; index = o.id; bin = o.bin; section = section_of o.location }

-- a list goes to an array of the caller's: `count` is how many entries it has. Where the array holds as many, they
-- stand at its beginning, the rest of it is as before, and the status is `RP_DONE`; where it is too short, it is as
-- before, and the status is `RP_SHORT_ARRAY`
-- Example: the section (4,0,0) 6x10x1 goes to an array of three entries: the first is the section, the others stay, and
-- the count is 1; to an array without entries: `RP_SHORT_ARRAY`, and the count is 1
pub record Tells {X : Type 0} (there : List X) (status : ℕ) (old new : List X) (count : ℕ) : Type 0 where
  pub counted : count ≡ length there
  pub enough : length there ≤ length old → (status ≡ 0) × (new ≡ there ++ drop (length there) old)
  pub short : length old < length there → (status ≡ 8) × (new ≡ old)

-- the free sections of a bin go to an array (`Tells`); or the bin is not there (`RP_UNKNOWN_BIN`), and nothing is
-- written
abbrev pub TellsSections : State ℕ ℕ → (bin status : ℕ) (old new : List RpSection) (old_count new_count : ℕ) → Type 0
TellsSections state bin status old new old_count new_count =
    MatchOption (lookup (is_at (nat_cmp bin)) state.bins) ((status ≡ 5) × (new ≡ old) × (new_count ≡ old_count))
    (λ (b : Bin). Tells (map section_of b.sections) status old new new_count)

-- the outstanding placements that stand in a bin, in their order
-- Example: 0 and 2 stand in bin 7, and 1 in bin 8: in bin 7 these are 0 and 2
abbrev pub standing_in : (bin : ℕ) → List (Outstanding ℕ ℕ) → List (Outstanding ℕ ℕ)
standing_in bin outstanding = filter (λ o. o.bin == bin) outstanding

-- the outstanding placements of one bin go to an array (`Tells`); or the bin is not there (`RP_UNKNOWN_BIN`), and nothing
-- is written
abbrev pub TellsStanding : State ℕ ℕ → (bin status : ℕ) (old new : List RpStanding) (old_count new_count : ℕ) → Type 0
TellsStanding state bin status old new old_count new_count =
    MatchOption (lookup (is_at (nat_cmp bin)) state.bins) ((status ≡ 5) × (new ≡ old) × (new_count ≡ old_count))
    (λ (b : Bin). Tells (map standing_of (standing_in bin state.outstanding)) status old new new_count)

-- 1 is written where the bin counts as coalesced, else 0; or the bin is not there (`RP_UNKNOWN_BIN`), and nothing is
-- written
abbrev pub TellsCoalesced : State ℕ ℕ → (bin status old new : ℕ) → Type 0
TellsCoalesced state bin status old new =
    MatchOption (lookup (is_at (nat_cmp bin)) state.bins) ((status ≡ 5) × (new ≡ old))
    (λ (b : Bin). (status ≡ 0) × (new ≡ if b.coalesced then 1 else 0))

-- the size of a bin is written; or the bin is not there (`RP_UNKNOWN_BIN`), and nothing is written
-- Example: of a new bin 10x20x1: 10, 20 and 1
abbrev pub TellsSize : State ℕ ℕ → (bin status : ℕ) (old new : RpBin) → Type 0
TellsSize state bin status old new =
    MatchOption (lookup (is_at (nat_cmp bin)) state.bins) ((status ≡ 5) × (new ≡ old))
    (λ (b : Bin). (status ≡ 0) × (bin_size new ≡ b.size))

-- what is written of a step of a plan: the axis of the cut, 0 for x, 1 for y and 2 for z, and its place; or 3 where the
-- part is not cut
abbrev pub step_of : CutStep → RpCutStep
step_of (CutAt axis place) = record { axis = axis_rank axis; place = place }
step_of LeafHere = record { axis = 3; place = 0 }

-- the cutting plan of a bin goes to an array; or no tree of cuts has the boxes of the bin as its leaves (`RP_NO_PLAN`);
-- or the answer is want of memory (`RP_OUT_OF_MEMORY`); or the bin is not there (`RP_UNKNOWN_BIN`). Nothing is written
-- but in the first case
abbrev pub TellsPlan : State ℕ ℕ → (bin status : ℕ) (old new : List RpCutStep) (old_count new_count : ℕ) → Type 0
TellsPlan state bin status old new old_count new_count =
    MatchOption (lookup (is_at (nat_cmp bin)) state.bins) ((status ≡ 5) × (new ≡ old) × (new_count ≡ old_count))
    (λ (b : Bin). ((plan : List CutStep) × IsCutPlan (boxes_of nat_cmp state.outstanding bin b) (whole b.size) plan
    × Tells (map step_of plan) status old new new_count)
    ⊎ ((status ≡ 9) × ¬ IsFromCuts (boxes_of nat_cmp state.outstanding bin b) (whole b.size) × (new ≡ old) × (new_count ≡ old_count))
    ⊎ ((status ≡ 2) × (new ≡ old) × (new_count ≡ old_count)))
