-- How a box may stand: as it is, or turned.
use Rattle.std.specs.Prelude.{Bool, true, false, List, [], ◌∷◌, filter, ◌&&◌, nat_le}
use Rattle.rectangle_pack_sections.specs.Boxes.{Size}
use Rattle.rectangle_pack_bounds.specs.declared.turning.TurningBox.{TurningBox}

-- a size, turned about x: height and depth change places
abbrev pub about_x : Size → Size
about_x s = record { width = s.width; height = s.depth; depth = s.height }

-- a size, turned about y: width and depth change places
abbrev pub about_y : Size → Size
about_y s = record { width = s.depth; height = s.height; depth = s.width }

-- a size, turned about z: width and height change places
abbrev pub about_z : Size → Size
about_z s = record { width = s.height; height = s.width; depth = s.depth }

-- the sizes in which a box may stand that may be turned about x, y or z, where these say `true`: about one axis two of
-- them; about two axes or three all six, since turns one after another reach them
-- Example: 1x2x3 about z: 1x2x3 and 2x1x3
unfoldable pub ways_by : Bool → Bool → Bool → Size → List Size
ways_by false false false s = s ∷ []
ways_by true false false s = s ∷ about_x s ∷ []
ways_by false true false s = s ∷ about_y s ∷ []
ways_by false false true s = s ∷ about_z s ∷ []
ways_by true true z s = s ∷ about_x s ∷ about_y s ∷ about_z s ∷ about_x (about_z s) ∷ about_z (about_x s) ∷ []
ways_by true false true s = s ∷ about_x s ∷ about_y s ∷ about_z s ∷ about_x (about_z s) ∷ about_z (about_x s) ∷ []
ways_by false true true s = s ∷ about_x s ∷ about_y s ∷ about_z s ∷ about_x (about_z s) ∷ about_z (about_x s) ∷ []

-- the sizes in which the box may stand
abbrev pub ways : TurningBox → List Size
ways b = ways_by b.turns.about_x b.turns.about_y b.turns.about_z b.whd

-- whether a size is no greater than the other on any axis
abbrev pub fits_in : Size → Size → Bool
fits_in other s = nat_le s.width other.width && nat_le s.height other.height && nat_le s.depth other.depth

-- the sizes in which the box may stand in a bin of this size
-- Example: 4x9x1, which may be turned about z, in 10x5x1: 9x4x1 alone
abbrev pub ways_in : Size → TurningBox → List Size
ways_in bin b = filter (fits_in bin) (ways b)
