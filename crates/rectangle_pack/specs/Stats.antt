-- Statistics of a bin: sums over its boxes as they are.
use Rattle.std.specs.Prelude.{List, length, Option}
use Rattle.std.specs.declared.cmp.Ordering.{Ordering}
use Rattle.std.specs.Option.{option_map}
use Rattle.std.specs.Map.{lookup}
use Rattle.std.specs.BTreeMap.{is_at}
use Rattle.rectangle_pack.specs.declared.session.stats.BinStats.{BinStats}
use Rattle.rectangle_pack_sections.specs.Boxes.{Cuboid, volume_of}
use Rattle.rectangle_pack_sections.specs.Bins.{Bin}
use Rattle.rectangle_pack_sections.specs.Counting.{total_volume}
use Rattle.rectangle_pack.specs.Session.{State, outstanding_in}

-- the statistics of a bin in which these boxes stand: the volume of the bin; the volumes of its free sections, added up
-- (`total_volume`); those of the boxes, added up; how many free sections there are; how many boxes there are. Boxes
-- without cells have the volume 0 and are counted
-- Example: in a bin 10x10x1 (0,4,0) 10x6x1 and (4,0,0) 6x4x1 are free, (0,0,0) 4x4x1 and (4,0,0) 0x2x1 stand: volume
-- 100, free 60 + 24 = 84 in 2 sections, placed 16 + 0 = 16 by 2 placements
abbrev pub stats_of : Bin → List Cuboid → BinStats
stats_of bin boxes = record {
  bin_volume = volume_of bin.size;
  free_volume = total_volume bin.sections;
  placed_volume = total_volume boxes;
  free_sections = length bin.sections;
  placements = length boxes;
}

-- the statistics of the bin of this id in a session, or none where there is no such bin
abbrev pub stats_in : {Id B : Type 0} → (B → B → Ordering) → State Id B → B → Option BinStats
stats_in bin_cmp state id =
    option_map (λ (bin : Bin). stats_of bin (outstanding_in bin_cmp state.outstanding id)) (lookup (is_at (bin_cmp id)) state.bins)
