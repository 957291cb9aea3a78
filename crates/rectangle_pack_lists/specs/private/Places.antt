-- A list of sections in which one that is taken out may leave a gap.
use Rattle.std.specs.Prelude.{◌≡◌, ℕ, ◌+◌, Bool, true, false, List, [], ◌∷◌, ◌++◌, length, All, Option, Some, None}
use Rattle.rectangle_pack_sections.specs.Boxes.{Cuboid, Size, Holds}

-- the places in order, the section that stands at each, in a gap the one that was taken out; for how many places an index
-- has room too, and for how many sections the list has room
pub record Places : Type 0 where
  pub all : List (Option Cuboid)
  pub under : List Cuboid
  pub room : ℕ
  pub capacity : ℕ

-- the places of a list of sections, of which those with `true` beside them are gaps; beyond the flags there are none
abbrev pub places_of : List Cuboid → List Bool → List (Option Cuboid)
places_of [] gaps = []
places_of (section ∷ sections) [] = Some section ∷ places_of sections []
places_of (section ∷ sections) (true ∷ gaps) = None ∷ places_of sections gaps
places_of (section ∷ sections) (false ∷ gaps) = Some section ∷ places_of sections gaps

-- the list of the sections: those of the places that are no gaps, in order
abbrev pub sections_of : List (Option Cuboid) → List Cuboid
sections_of [] = []
sections_of (None ∷ places) = sections_of places
sections_of (Some section ∷ places) = section ∷ sections_of places

-- the section at this place holds the size, and none after it does; `tests` is how many sections stand from there on
pub record IsLastHolding (places : List (Option Cuboid)) (size : Size) (place tests : ℕ) : Type 0 where
  pub before : List (Option Cuboid)
  pub section : Cuboid
  pub after : List (Option Cuboid)
  pub splits : places ≡ before ++ Some section ∷ after
  pub place_is : place ≡ length before
  pub held : Holds section size
  pub newest : All (λ s. ¬ Holds s size) (sections_of after)
  pub tests_are : tests ≡ 1 + length (sections_of after)

-- no section holds the size; `tests` is how many sections there are
-- Example: places 0 to 7 have seven sections, none higher than 4, place 8 has 6x3x1, and place 9 is a gap: none holds
-- 5x5x1, and `tests` is 8
pub record NoneHolds (places : List (Option Cuboid)) (size : Size) (tests : ℕ) : Type 0 where
  pub none : All (λ s. ¬ Holds s size) (sections_of places)
  pub tests_are : tests ≡ length (sections_of places)
