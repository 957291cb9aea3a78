-- One box where it fits best: the section of which it leaves the least, and what a placing there answers.
use Rattle.std.specs.Prelude.{◌≡◌, ℕ, ◌≤◌, ◌<◌, Option, Some, None, List, [], ◌∷◌, ◌++◌, All}
use Rattle.rectangle_pack_sections.specs.Boxes.{Size, Cuboid, Holds}
use Rattle.rectangle_pack_sections.specs.Bins.{Bin}
use Rattle.rectangle_pack_sections.specs.Closures.{Answers}
use Rattle.rectangle_pack_sections.specs.LeastSides.{least_rest}
use Rattle.rectangle_pack_lists.specs.Steps.{IsStep}

-- of each of these sections that holds the box, it leaves at least so much on its tightest side (`least_rest`), in a bin of
-- this size
abbrev pub LeavesAtLeast : ℕ → Size → Size → List Cuboid → Type 0
LeavesAtLeast rest bin_size box sections = All (λ s. Holds s box → rest ≤ least_rest bin_size s box) sections

-- of each of these sections that holds the box, it leaves more than so much on its tightest side
abbrev pub LeavesMore : ℕ → Size → Size → List Cuboid → Type 0
LeavesMore rest bin_size box sections = All (λ s. Holds s box → rest < least_rest bin_size s box) sections

-- `best` is the section that the box fits best, in a bin of this size: of those that hold the box, it leaves the least of
-- this one on its tightest side; of several such this is the newest
-- Example: in a bin 20x10x1 with [(0,0,0) 6x10x1, (6,0,0) 8x10x1, (14,0,0) 6x10x1] the box 5x4x1 leaves 1, 3 and 1. It fits
-- the last best. Its depth does not count
pub record IsBestFit (bin_size : Size) (sections : List Cuboid) (box : Size) (best : Cuboid) : Type 0 where
  pub before : List Cuboid
  pub after : List Cuboid
  pub splits : sections ≡ before ++ best ∷ after
  pub held : Holds best box
  pub older : LeavesAtLeast (least_rest bin_size best box) bin_size box before
  pub newer : LeavesMore (least_rest bin_size best box) bin_size box after

module _ (may : Answers) where
  -- what a placing where a box fits best answers, by cases. A location: the section that the box fits best (`IsBestFit`)
  -- goes to the end of the list, and the box is placed into it there by a step (`IsStep`); all else in the bin stays. `None`:
  -- no section holds the box, and the bin is as it was
  -- Example: in a bin 20x10x1 with [(0,0,0) 6x10x1, (6,0,0) 14x10x1] the box 6x4x1 is placed at (0,0,0), and leaves
  -- [(6,0,0) 14x10x1, (0,4,0) 6x6x1]
  abbrev pub IsPlacedBest : Bin → Size → Option Cuboid → Bin → Type 0
  IsPlacedBest old box (Some location) new =
      (best : Cuboid) × (at : IsBestFit old.size old.sections box best)
      × (left : List Cuboid) × IsStep may (at.before ++ at.after ++ best ∷ []) box location left 1
      × (new ≡ record old { sections = left })
  IsPlacedBest old box None new = All (λ s. ¬ Holds s box) old.sections × (new ≡ old)
