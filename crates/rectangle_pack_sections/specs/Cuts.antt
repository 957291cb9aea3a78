-- The straight cuts of a section round a box that is placed at its corner. A cut is an order of the axes: for each in
-- turn, what is left beyond the box is cut off as one piece.
use Rattle.std.specs.Prelude.{ℕ, ◌+◌, ◌-◌, Bool, true, false, List, [], ◌∷◌, map, if◌then◌else◌}
use Rattle.rectangle_pack_sections.specs.declared.axis.Axis.{Axis}
use Rattle.rectangle_pack_sections.specs.declared.axis.Axis.TheVariants.{X, Y, Z}
use Rattle.rectangle_pack_sections.specs.Boxes.{Size, Cuboid, extent, start}

-- whether two axes are one
abbrev pub is_same : Axis → Axis → Bool
is_same X X = true
is_same Y Y = true
is_same Z Z = true
is_same _ _ = false

-- whether the axis a stands before the axis b in the order
-- Example: in z, y, x: z is before y, and x is not
abbrev pub is_before : List Axis → Axis → Axis → Bool
is_before [] a b = false
is_before (c ∷ order) a b = if is_same c b then false else if is_same c a then true else is_before order a b

-- the box of this size at the section's corner
-- Example: of 50x25x10 in (0,0,0) 100x100x100: (0,0,0) 50x25x10
abbrev pub placed : Cuboid → Size → Cuboid
placed section size = record section { whd = size }

-- where the piece of the axis a starts on the axis b: beyond the box on its own axis, else at the section's corner
-- Example: of 50x25x10 in (0,0,0) 100x100x100 the piece of x: 50 on x, 0 on y and z
unfoldable pub piece_start : Cuboid → Size → Axis → Axis → ℕ
piece_start section size a b = if is_same a b then start b section + extent b size else start b section

-- how far the piece of the axis a runs on the axis b: on its own axis over what is left beyond the box, on an axis that
-- stands before a in the order over the box, else over the section
-- Example: of 50x25x10 in (0,0,0) 100x100x100 the piece of y in the order z, y, x: on y 100 - 25 = 75, on z the box's
-- 10, on x the section's 100
unfoldable pub piece_extent : Cuboid → Size → List Axis → Axis → Axis → ℕ
piece_extent section size order a b =
    if is_same a b then extent b section.whd - extent b size else if is_before order b a then extent b size else extent b section.whd

-- the piece that a cut in this order of the axes cuts off on the axis a
-- Example: of 50x25x10 in (0,0,0) 100x100x100 on y in the order z, y, x: (0,25,0) 100x75x10
unfoldable pub piece : Cuboid → Size → List Axis → Axis → Cuboid
piece section size order a = record {
  x = piece_start section size a X;
  y = piece_start section size a Y;
  z = piece_start section size a Z;
  whd = record {
    width = piece_extent section size order a X;
    height = piece_extent section size order a Y;
    depth = piece_extent section size order a Z;
  };
}

-- right, above and behind: the pieces on the axes x, y and z
-- Example: of 50x25x10 in (0,0,0) 100x100x100 in the order z, y, x: (50,0,0) 50x25x10, (0,25,0) 100x75x10, (0,0,10)
-- 100x100x90. A cell (i,j,k) of the section is in behind where k ≥ 10, else in above where j ≥ 25, else in right where
-- i ≥ 50, else in the box
unfoldable pub pieces : Cuboid → Size → List Axis → List Cuboid
pieces section size order = piece section size order X ∷ piece section size order Y ∷ piece section size order Z ∷ []

-- the six orders of the axes, as they are listed
abbrev pub orders : List (List Axis)
orders =
    (X ∷ Y ∷ Z ∷ []) ∷ (Y ∷ X ∷ Z ∷ [])
    ∷ (X ∷ Z ∷ Y ∷ []) ∷ (Z ∷ X ∷ Y ∷ [])
    ∷ (Y ∷ Z ∷ X ∷ []) ∷ (Z ∷ Y ∷ X ∷ []) ∷ []

-- the pieces of each of the six cuts
-- Example: the sizes of right, above and behind, of 50x25x10 in (0,0,0) 100x100x100:
-- cut 0, in the order x, y, z: 50x100x100, 50x75x100, 50x25x90;
-- cut 1, in the order y, x, z: 50x25x100, 100x75x100, 50x25x90;
-- cut 2, in the order x, z, y: 50x100x100, 50x75x10, 50x100x90;
-- cut 3, in the order z, x, y: 50x100x10, 50x75x10, 100x100x90;
-- cut 4, in the order y, z, x: 50x25x10, 100x75x100, 100x25x90;
-- cut 5, in the order z, y, x: 50x25x10, 100x75x10, 100x100x90.
-- In each cut the three volumes and the 12500 of the box add up to 1000000
unfoldable pub cuts : Cuboid → Size → List (List Cuboid)
cuts section size = map (pieces section size) orders

-- the sizes of a list of boxes
abbrev pub sizes_of : List Cuboid → List Size
sizes_of boxes = map (λ b. b.whd) boxes
