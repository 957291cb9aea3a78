-- A box at a corner of the caller's choice: the section that it goes into, what straight cuts leave of that round it, and
-- what a placing at a corner answers.
use Rattle.std.specs.Prelude.{◌≡◌, ◌+◌, ◌-◌, Bool, true, false, List, [], ◌∷◌, ◌++◌, All, filter}
use Rattle.rectangle_pack_sections.specs.Boxes.{Cuboid, IsPartOf, has_cells}
use Rattle.rectangle_pack_sections.specs.Bins.{Bin}

-- the six pieces that straight cuts leave of a section round a box in it: left of the box and right of it, over the whole
-- height and depth of the section; below it and above it, over the width of the box; in front of it and behind it, over
-- its width and height
-- Example: of (0,0,0) 10x10x1 round (4,3,0) 2x2x1: (0,0,0) 4x10x1, (6,0,0) 4x10x1, (4,0,0) 2x3x1, (4,5,0) 2x5x1,
-- (4,3,0) 2x2x0, (4,3,1) 2x2x0. The last two have no cells
abbrev pub pieces_round : Cuboid → Cuboid → List Cuboid
pieces_round section box =
    record {
      x = section.x;
      y = section.y;
      z = section.z;
      whd = record { width = box.x - section.x; height = section.whd.height; depth = section.whd.depth };
    } ∷ record {
      x = box.x + box.whd.width;
      y = section.y;
      z = section.z;
      whd = record {
        width = (section.x + section.whd.width) - (box.x + box.whd.width);
        height = section.whd.height;
        depth = section.whd.depth;
      };
    } ∷ record {
      x = box.x;
      y = section.y;
      z = section.z;
      whd = record { width = box.whd.width; height = box.y - section.y; depth = section.whd.depth };
    } ∷ record {
      x = box.x;
      y = box.y + box.whd.height;
      z = section.z;
      whd = record {
        width = box.whd.width;
        height = (section.y + section.whd.height) - (box.y + box.whd.height);
        depth = section.whd.depth;
      };
    } ∷ record {
      x = box.x;
      y = box.y;
      z = section.z;
      whd = record { width = box.whd.width; height = box.whd.height; depth = box.z - section.z };
    } ∷ record {
      x = box.x;
      y = box.y;
      z = box.z + box.whd.depth;
      whd = record {
        width = box.whd.width;
        height = box.whd.height;
        depth = (section.z + section.whd.depth) - (box.z + box.whd.depth);
      };
    } ∷ []

-- `first` is the first of the sections that the box is a part of: it is a part of no section before it
pub record IsFirstAround (sections : List Cuboid) (box first : Cuboid) : Type 0 where
  pub before : List Cuboid
  pub after : List Cuboid
  pub splits : sections ≡ before ++ first ∷ after
  pub around : IsPartOf box first
  pub not_before : All (λ s. ¬ IsPartOf box s) before

-- what a placing at a corner answers, by cases. `true`: the first section that the box is a part of (`IsFirstAround`) is
-- taken out, and the pieces of it round the box that have cells stand at the end of the list, in their order. `false`: the
-- box is a part of no section, and the bin is as it was
-- Example: in a bin 10x10x1 with [(0,0,0) 10x10x1] the box (4,3,0) 2x2x1 leaves [(0,0,0) 4x10x1, (6,0,0) 4x10x1, (4,0,0)
-- 2x3x1, (4,5,0) 2x5x1]. There the box (5,3,0) 2x2x1 is a part of no section: `false`
abbrev pub IsPlacedAt : Bin → Cuboid → Bool → Bin → Type 0
IsPlacedAt old box true new =
    (first : Cuboid) × (at : IsFirstAround old.sections box first)
    × (new ≡ record old { sections = at.before ++ at.after ++ filter has_cells (pieces_round first box) })
IsPlacedAt old box false new = All (λ s. ¬ IsPartOf box s) old.sections × (new ≡ old)
