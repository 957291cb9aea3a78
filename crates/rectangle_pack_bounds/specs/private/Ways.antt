-- The ways in which boxes fit into a bin, box by box.
use Rattle.std.specs.Prelude.{◌≡◌, Bool, true, false, List, [], ◌∷◌, flat_map, map}
use Rattle.rectangle_pack_bounds.specs.declared.ways.FittingWays.{FittingWays}
use Rattle.rectangle_pack_bounds.specs.Turning.{ways_in}

-- which element of a list is its first
-- Example: of a list of three: true, false, false
abbrev pub firsts : {X : Type 0} → List X → List Bool
firsts [] = []
firsts (x ∷ xs) = true ∷ map (λ _. false) xs

-- the sizes are the ways in which the boxes fit into the bin, box by box, and the first one of each box is known
-- Example: 4x9x1 and 2x3x1, which may be turned about z, in 10x5x1: 9x4x1, 2x3x1 and 3x2x1, of which the first two are the first of
-- their box
pub record IsFitting {A : Type 0} (fitting : FittingWays A) : Type 0 where
  pub sizes_are : fitting.sizes.items ≡ flat_map (ways_in fitting.bin) fitting.boxes.now
  pub first_are : fitting.are_first.items ≡ flat_map (λ b. firsts (ways_in fitting.bin b)) fitting.boxes.now
