-- Bins whose cells a packing keeps.
use Rattle.std.specs.Prelude.{◌≡◌, List, ◌++◌, Some, None, map, filter}
use Rattle.std.specs.declared.cmp.Ordering.{Ordering}
use Rattle.std.specs.Map.{lookup}
use Rattle.std.specs.BTreeMap.{is_at}
use Rattle.rectangle_pack_packing.specs.declared.answer.Placement.{Placement}
use Rattle.rectangle_pack_sections.specs.Boxes.{Cuboid}
use Rattle.rectangle_pack_sections.specs.Bins.{Bin}
use Rattle.rectangle_pack_sections.specs.Counting.{AreAllApart}
use Rattle.rectangle_pack_sections.specs.Keeping.{KeepCells}

-- the locations in the bin of this id
abbrev pub locations_in : {Id B : Type 0} → (B → B → Ordering) → List (Placement Id B) → B → List Cuboid
locations_in bin_cmp placements id = map (λ p. p.location) (filter (λ p. is_at (bin_cmp p.bin) id) placements)

-- each old bin of which no two free sections share a cell is there afterwards, in its old size. Its new free sections,
-- together with the locations that were placed in it, keep the cells of its old free sections (`KeepCells`). No bin is
-- added
pub record KeepsEachBin {Id B : Type 0} (bin_cmp : B → B → Ordering)
    (old : List (B × Bin)) (placements : List (Placement Id B)) (new : List (B × Bin)) : Type 0 where
  pub each : (id : B) (before : Bin) → lookup (is_at (bin_cmp id)) old ≡ Some before → AreAllApart before.sections
      → (after : Bin) × (lookup (is_at (bin_cmp id)) new ≡ Some after) × (after.size ≡ before.size)
      × KeepCells before.sections (after.sections ++ locations_in bin_cmp placements id)
  pub absent : (id : B) → lookup (is_at (bin_cmp id)) old ≡ None → lookup (is_at (bin_cmp id)) new ≡ None
