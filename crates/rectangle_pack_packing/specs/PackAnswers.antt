-- What a packing answers, and what it counts.
use Rattle.std.specs.Prelude.{◌≡◌, ℕ, ◌+◌, ◌-◌, ◌*◌, ◌≤◌, List, length, Result, Ok, Err}
use Rattle.std.specs.declared.cmp.Ordering.{Ordering}
use Rattle.std.specs.List.{sum_by}
use Rattle.rectangle_pack_sections.specs.declared.group.Group.{Group}
use Rattle.rectangle_pack_packing.specs.declared.answer.RectanglePackOk.{RectanglePackOk}
use Rattle.rectangle_pack_packing.specs.declared.answer.RectanglePackError.{RectanglePackError}
use Rattle.rectangle_pack_packing.specs.declared.answer.RectanglePackError.TheVariants.{NotEnoughBinSpace, OutOfMemory}
use Rattle.rectangle_pack_sections.specs.Bins.{Bin}
use Rattle.rectangle_pack_sections.specs.Groups.{Collection, entries_of}
use Rattle.rectangle_pack_lists.specs.Numbers.{saturated}
use Rattle.rectangle_pack_packing.specs.Packing.{Rules, PackingDone, PackingRefused}
use Rattle.rectangle_pack_packing.specs.Placed.{AreLastPlacements, placements_of, locations_of}

-- how many free sections the bins have in all
abbrev pub sections_in : {B : Type 0} → List (B × Bin) → ℕ
sections_in bins = sum_by (λ b. length b.1.sections) bins

-- the fit tests of a packing are added to a count, which stays at 2^128 - 1. With N entries, B bins and S free sections
-- the tests are at most N · S + B · N · (N - 1)
-- Example: 2 entries into 2 bins with a section each: at most 2 · 2 + 2 · 2 · 1 = 8; into one of them at most 2 · 1 + 1
-- · 2 · 1 = 4
pub record AreCounted {Id B G : Type 0} (all : Collection Id G) (old : List (B × Bin)) (tests before after : ℕ) : Type 0 where
  pub most : tests ≤ entries_of all * sections_in old + length old * (entries_of all * (entries_of all - 1))
  pub added : after ≡ saturated (before + tests)

module _ {Id B G : Type 0} (group_cmp : Group G Id → Group G Id → Ordering) (rules : Rules Id B) where
  -- what a packing answers where it is done: one placement for each entry of a group, and where each id was placed last
  pub record IsPacked {A : Type 0} (all : Collection Id G) (old : List (B × Bin)) (ok : RectanglePackOk Id B A) (new : List (B × Bin)) : Type 0 where
    pub done : PackingDone group_cmp rules all old (placements_of ok) new
    pub counted : length (placements_of ok) ≡ entries_of all
    pub last : AreLastPlacements rules.id_cmp rules.bin_cmp (placements_of ok) (locations_of ok)

  -- what a packing answers, by cases. Done: `IsPacked`. `NotEnoughBinSpace`: `PackingRefused`, where the groups before
  -- the refused one stay placed. `OutOfMemory`: the bins are as they were
  abbrev pub IsPackAnswer : {A : Type 0} → Collection Id G → List (B × Bin)
      → Result (RectanglePackOk Id B A) RectanglePackError → List (B × Bin) → Type 0
  IsPackAnswer all old (Ok ok) new = IsPacked all old ok new
  IsPackAnswer all old (Err NotEnoughBinSpace) new = PackingRefused group_cmp rules all old new
  IsPackAnswer all old (Err OutOfMemory) new = new ≡ old

  -- the same, and exactly the packing's fit tests are added to the count (`AreCounted`). On `OutOfMemory` some number
  -- of tests within the bound is added
  -- Example: by `volume_heuristic` and `contains_smallest_box`, One 4x4x1 and Two 2x2x1, each alone, go into the bins
  -- a 4x4x1 and b 3x3x1. One has the key 16 and goes before Two with 4; b has the key 9 and is tried before a with 16.
  -- One is stuck in b (4 > 3) and done in a, which is left with []. Two is done in b, at (0,0,0), and leaves
  -- [(0,2,0) 3x1x1, (2,0,0) 1x2x1]. This makes 2 placements, and 2 + 1 = 3 tests. Into a alone the packing is refused:
  -- One is done in a with 1 test, and Two is stuck in the empty list with 0 tests. So a is left with [], and 1 test is
  -- counted
  abbrev pub IsCountedAnswer : {A : Type 0} → Collection Id G → List (B × Bin) → ℕ
      → Result (RectanglePackOk Id B A) RectanglePackError → List (B × Bin) → ℕ → Type 0
  IsCountedAnswer all old before (Ok ok) new after =
      (packed : IsPacked all old ok new) × AreCounted all old packed.done.tests before after
  IsCountedAnswer all old before (Err NotEnoughBinSpace) new after =
      (refused : PackingRefused group_cmp rules all old new) × AreCounted all old refused.tests before after
  IsCountedAnswer all old before (Err OutOfMemory) new after =
      (new ≡ old) × ((tests : ℕ) × AreCounted all old tests before after)
