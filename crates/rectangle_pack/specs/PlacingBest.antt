-- A box that is placed where it fits best, in a bin of a session.
use Rattle.std.specs.Prelude.{◌≡◌, ℕ, ◌+◌, ◌<◌, ◌≤◌, ◌^◌, Option, Some, None, List, [], ◌∷◌, ◌++◌, All, IsSome, IfSome, IsSomeAnd, Result, Ok, Err}
use Rattle.std.specs.declared.cmp.Ordering.{Ordering}
use Rattle.std.specs.declared.cmp.Ordering.TheVariants.{Equal}
use Rattle.std.specs.Map.{lookup, set_value}
use Rattle.std.specs.BTreeMap.{is_at}
use Rattle.rectangle_pack.specs.declared.session.command.SessionError.{SessionError}
use Rattle.rectangle_pack.specs.declared.session.command.SessionError.TheVariants.{UnknownBin, NumbersUsedUp, NotEnoughBinSpace, OutOfMemory}
use Rattle.rectangle_pack_sections.specs.Boxes.{Size, Cuboid, Holds}
use Rattle.rectangle_pack_sections.specs.Bins.{Bin}
use Rattle.rectangle_pack_sections.specs.Closures.{Answers}
use Rattle.rectangle_pack_sections.specs.LeastSides.{least_rest}
use Rattle.rectangle_pack_bins.specs.BestFit.{LeavesAtLeast, LeavesMore, IsBestFit, IsPlacedBest}
use Rattle.rectangle_pack.specs.Session.{State}

module _ {B : Type 0} (bin_cmp : B → B → Ordering) where
  -- of all bins this one, under a key that equals the id, is the first of those in which the box leaves the least: of each
  -- section of a bin before it that holds the box it leaves more, and of each section of a bin after it at least as much
  pub record IsFirstBest (box : Size) (rest : ℕ) (bins : List (B × Bin)) (id : B) (bin : Bin) : Type 0 where
    pub before : List (B × Bin)
    pub key : B
    pub after : List (B × Bin)
    pub splits : bins ≡ before ++ (key, bin) ∷ after
    pub same : bin_cmp id key ≡ Equal
    pub earlier : All (λ e. LeavesMore rest e.1.size box e.1.sections) before
    pub later : All (λ e. LeavesAtLeast rest e.1.size box e.1.sections) after

  -- the bin of this id is the one into which the box goes: the one that is named, or, where none is, the first of those in
  -- which the box leaves the least (`IsFirstBest`)
  abbrev pub IsChosen : Option B → Size → ℕ → List (B × Bin) → B → Bin → Type 0
  IsChosen (Some name) box rest bins id bin = bin_cmp name id ≡ Equal
  IsChosen None box rest bins id bin = IsFirstBest box rest bins id bin

  -- where the box goes: the bin of this id is there, it is the one that is chosen (`IsChosen`), and `best` is the section of
  -- it that the box fits best
  pub record IsBestBin (named : Option B) (box : Size) (bins : List (B × Bin)) (id : B) (bin : Bin) (best : Cuboid) : Type 0 where
    pub there : lookup (is_at (bin_cmp id)) bins ≡ Some bin
    pub fits : IsBestFit bin.size bin.sections box best
    pub chosen : IsChosen named box (least_rest bin.size best box) bins id bin

  -- no section holds the box: of the bin that is named, or, where none is, of any bin
  abbrev pub HasNoPlace : Option B → Size → List (B × Bin) → Type 0
  HasNoPlace (Some name) box bins =
      (bin : Bin) × (lookup (is_at (bin_cmp name)) bins ≡ Some bin) × All (λ s. ¬ Holds s box) bin.sections
  HasNoPlace None box bins = All (λ e. All (λ s. ¬ Holds s box) e.1.sections) bins

  -- the bin is there, where one is named
  abbrev pub IsThere : Option B → List (B × Bin) → Type 0
  IsThere named bins = IfSome named (λ name. IsSome (lookup (is_at (bin_cmp name)) bins))

  -- a bin is named, and is not there
  abbrev pub IsUnknown : Option B → List (B × Bin) → Type 0
  IsUnknown named bins = IsSomeAnd named (λ name. lookup (is_at (bin_cmp name)) bins ≡ None)

  module _ (may : Answers) where
    -- a box is placed at this location in the bin of this id, where it fits best (`IsPlacedBest`); the other bins stay
    abbrev pub PlacesBestIn : Option B → Size → B → Cuboid → List (B × Bin) → List (B × Bin) → Type 0
    PlacesBestIn named box id location old new =
        (bin : Bin) × (best : Cuboid) × IsBestBin named box old id bin best
        × (after : Bin) × IsPlacedBest may bin box (Some location) after × (new ≡ set_value (is_at (bin_cmp id)) old after)

    -- what a placing where a box fits best is answered, by cases. A number: the box is placed (`PlacesBestIn`). The answer is
    -- the old next number; under it the box stands last among the outstanding placements, and the next number is greater
    -- by 1. Else one of these, the first that is so: the bin that is named is not there; the next number and 1 add up to 2^64
    -- or more; no section holds the box; memory is refused. What is refused changes nothing
    -- Example: in new bins "a" 20x20x1 and "b" 10x8x1 the box 9x5x1 goes into "b": in "a" it leaves 11 on its tightest side,
    -- in "b" 1. Where "a" is named, it goes into "a"
    abbrev pub PlacesBest : {Id : Type 0} → Option B → Id → Size → State Id B → Result ℕ SessionError → State Id B → Type 0
    PlacesBest named id box old (Ok number) new =
        (old.next + 1 < 2 ^ 64) × (number ≡ old.next)
        × (bin : B) × (location : Cuboid) × PlacesBestIn named box bin location old.bins new.bins
        × (new.outstanding ≡ old.outstanding ++ record { number = number; id = id; bin = bin; location = location } ∷ [])
        × (new.next ≡ old.next + 1)
    PlacesBest named id box old (Err UnknownBin) new = IsUnknown named old.bins × (new ≡ old)
    PlacesBest named id box old (Err NumbersUsedUp) new = IsThere named old.bins × (2 ^ 64 ≤ old.next + 1) × (new ≡ old)
    PlacesBest named id box old (Err NotEnoughBinSpace) new =
        IsThere named old.bins × (old.next + 1 < 2 ^ 64) × HasNoPlace named box old.bins × (new ≡ old)
    PlacesBest named id box old (Err OutOfMemory) new =
        IsThere named old.bins × (old.next + 1 < 2 ^ 64)
        × (id : B) × (bin : Bin) × (best : Cuboid) × IsBestBin named box old.bins id bin best × (new ≡ old)
    PlacesBest named id box old _ new = ⊥
