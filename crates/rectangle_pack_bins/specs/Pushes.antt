-- What a checked push answers, and what it leaves.
use Rattle.std.specs.Prelude.{◌≡◌, List, [], ◌∷◌, ◌++◌, All, Result, Ok, Err}
use Rattle.rectangle_pack_bins.specs.declared.target_bin.PushBinSectionError.{PushBinSectionError}
use Rattle.rectangle_pack_bins.specs.declared.target_bin.PushBinSectionError.TheVariants.{OutOfBounds, Overlaps, OutOfMemory}
use Rattle.rectangle_pack_sections.specs.Boxes.{Cuboid, SharesCell, AreApart, IsInside}
use Rattle.rectangle_pack_sections.specs.Bins.{Bin, IsAccepted}

-- `first` is the first of the sections that shares a cell with the box: each section before it is apart from the box
pub record IsFirstSharing (sections : List Cuboid) (box first : Cuboid) : Type 0 where
  pub before : List Cuboid
  pub after : List Cuboid
  pub splits : sections ≡ before ++ first ∷ after
  pub shares : SharesCell first box
  pub apart : All (λ s. AreApart s box) before

-- what a checked push answers, by cases. Accepted: the old bin accepts the box (`IsAccepted`), and it stands last in
-- the new list. `OutOfBounds`: the box is not inside the bin. `Overlaps`: it is inside, and the answer names the first
-- section that shares a cell with it (`IsFirstSharing`). `OutOfMemory`: the bin would accept it. Each refusal names the
-- box and leaves the bin as it was
-- Example: in a bin 100x100x1 a push of (101,0,0) 1x1x1 is `OutOfBounds`: 101 + 1 > 100. In a bin 3x1x1 with [(0,0,0)
-- 2x1x1, (2,0,0) 1x1x1] a push of (1,0,0) 2x1x1 `Overlaps` (0,0,0) 2x1x1, the first of the two that share a cell with
-- it
abbrev pub IsPushAnswer : Bin → Cuboid → Result (Unit {0}) PushBinSectionError → Bin → Type 0
IsPushAnswer old box (Ok u) new = IsAccepted old box × (new ≡ record old { sections = old.sections ++ box ∷ [] })
IsPushAnswer old box (Err (OutOfBounds refused)) new = (¬ IsInside old.size box) × (refused ≡ box) × (new ≡ old)
IsPushAnswer old box (Err (Overlaps remaining refused)) new =
    IsInside old.size box × IsFirstSharing old.sections box remaining × (refused ≡ box) × (new ≡ old)
IsPushAnswer old box (Err (OutOfMemory refused)) new = IsAccepted old box × (refused ≡ box) × (new ≡ old)
