-- What lists of bins and of boxes mean. Ids of boxes and of bins are their indices in these lists.
use Rattle.std.specs.Prelude.{◌≡◌, ℕ, List, ◌<◌, ◌^◌, map, length}
use Rattle.std.specs.List.{enumerate_from}
use Rattle.rectangle_pack.specs.Boxes.{Size}
use Rattle.rectangle_pack.specs.Bins.{Bin, new_bin}
use Rattle.rectangle_pack_c.specs.declared.RpBin.{RpBin}
use Rattle.rectangle_pack_c.specs.declared.RpBox.{RpBox}
use Rattle.rectangle_pack_c.specs.declared.RpPlacement.{RpPlacement}

-- there are as many placements as boxes, and fewer than 2^32 boxes and bins
pub record HaveLengths (bins : List RpBin) (boxes : List RpBox) (placements : List RpPlacement) : Type 0 where
  pub same : length placements ≡ length boxes
  pub few_boxes : length boxes < 2 ^ 32
  pub few_bins : length bins < 2 ^ 32

-- the size of a bin
abbrev pub bin_size : RpBin → Size
bin_size b = record { width = b.width; height = b.height; depth = b.depth }

-- the size of a box
abbrev pub box_size : RpBox → Size
box_size b = record { width = b.width; height = b.height; depth = b.depth }

-- new bins of these sizes, each under its index
abbrev pub new_bins : List RpBin → List (ℕ × Bin)
new_bins bins = enumerate_from 0 (map (λ b. new_bin (bin_size b)) bins)
