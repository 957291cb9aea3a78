-- What a packing answers.
use Rattle.std.specs.Prelude.{◌≡◌, ◌≢◌, ℕ, ◌<◌, List, length, All, Contains, Some, IsSomeAnd, slice_get}
use Rattle.std.specs.Ordering.{nat_cmp}
use Rattle.rectangle_pack_sections.specs.declared.box_size_heuristics.named.Heuristic.{Heuristic}
use Rattle.rectangle_pack.specs.declared.pack.Placement.{Placement}
use Rattle.rectangle_pack.specs.Best.{IsBestOf, named_rules, use_of}
use Rattle.rectangle_pack.specs.Bins.{Bin}
use Rattle.rectangle_pack.specs.Boxes.{Cuboid, IsInside, AreApart}
use Rattle.rectangle_pack.specs.Groups.{Collection}
use Rattle.rectangle_pack.specs.Packing.{PackingDone}
use Rattle.rectangle_pack.specs.Promise.{NoBinTakes}
use Rattle.rectangle_pack_c.specs.declared.RpBin.{RpBin}
use Rattle.rectangle_pack_c.specs.declared.RpBox.{RpBox}
use Rattle.rectangle_pack_c.specs.declared.RpPlacement.{RpPlacement}
use Rattle.rectangle_pack_c.specs.declared.collection.RpExclusion.{RpExclusion}
use Rattle.rectangle_pack_c.specs.Arguments.{bin_size, box_size, new_bins}
use Rattle.rectangle_pack_c.specs.Collections.{group_order, IsCollected}
use Rattle.rectangle_pack_c.specs.Heuristics.{heuristic_number}

-- the box with its corner where the placement says
abbrev pub box_at : RpBox → RpPlacement → Cuboid
box_at b p = record { x = p.x; y = p.y; z = p.z; whd = box_size b }

-- a location in a bin as a placement: the corner of a box
abbrev pub corner_of : ℕ → Cuboid → RpPlacement
corner_of bin location = record { bin = bin; x = location.x; y = location.y; z = location.z }

-- b is box i, and p is placement i
pub record Stands (boxes : List RpBox) (placements : List RpPlacement) (i : ℕ) (b : RpBox) (p : RpPlacement) : Type 0 where
  pub box : slice_get boxes i ≡ Some b
  pub at : slice_get placements i ≡ Some p

-- there are as many placements as boxes; each box stands inside the bin that its placement names; no two boxes in one
-- bin share a cell; boxes of one group above 0 are in one bin
pub record ArePlaced (bins : List RpBin) (boxes : List RpBox) (placements : List RpPlacement) : Type 0 where
  pub as_many : length placements ≡ length boxes
  pub inside : (i : ℕ) (b : RpBox) (p : RpPlacement) → Stands boxes placements i b p
      → IsSomeAnd (slice_get bins p.bin) (λ bin. IsInside (bin_size bin) (box_at b p))
  pub apart : (i j : ℕ) (a b : RpBox) (p q : RpPlacement) → Stands boxes placements i a p → Stands boxes placements j b q
      → i ≢ j → p.bin ≡ q.bin → AreApart (box_at a p) (box_at b q)
  pub together : (i j : ℕ) (a b : RpBox) (p q : RpPlacement) → Stands boxes placements i a p → Stands boxes placements j b q
      → 0 < a.group → a.group ≡ b.group → p.bin ≡ q.bin

-- two boxes whose groups, above 0, an exclusion names are in different bins
-- Example: where 1 and 4 are excluded, no box of group 1 is in the bin of a box of group 4; where 4 and 5 are, and no
-- box is in 5, nothing is kept apart
abbrev pub KeepApart : List RpBox → List RpExclusion → List RpPlacement → Type 0
KeepApart boxes exclusions placements =
    (i j : ℕ) (a b : RpBox) (p q : RpPlacement) → Stands boxes placements i a p → Stands boxes placements j b q
    → 0 < a.group → 0 < b.group → (e : RpExclusion) → Contains exclusions e → a.group ≡ e.one → b.group ≡ e.other → p.bin ≢ q.bin

module _ (bins : List RpBin) (boxes : List RpBox) (exclusions : List RpExclusion) where
  -- a done packing (`PackingDone`) of the collection of the boxes into the new bins, with this heuristic, whose
  -- placements stand each at the index of its box; there are as many as boxes
  pub record IsDonePacking (heuristic : Heuristic) (placements : List RpPlacement) : Type 0 where
    pub all : Collection ℕ ℕ
    pub collected : IsCollected boxes exclusions all
    pub made : List (Placement ℕ ℕ)
    pub left : List (ℕ × Bin)
    pub done : PackingDone group_order (named_rules nat_cmp nat_cmp heuristic) all (new_bins bins) made left
    pub written : All (λ p. slice_get placements p.id ≡ Some (corner_of p.bin p.location)) made
    pub as_many : length placements ≡ length boxes

  -- such a packing with the best of these heuristics (`IsBestOf`), of which `chosen` is the number
  pub record IsBestPacking (heuristics : List Heuristic) (chosen : ℕ) (placements : List RpPlacement) : Type 0 where
    pub best : Heuristic
    pub number : chosen ≡ heuristic_number best
    pub packing : IsDonePacking best placements
    pub best_of : IsBestOf group_order nat_cmp nat_cmp packing.all (new_bins bins) heuristics best (use_of nat_cmp packing.made (new_bins bins))

  -- with this heuristic, for some group of the boxes each bin is excluded or does not take all of them, as the groups
  -- before it left the bins (`NoBinTakes`)
  pub record IsRefusedPacking (heuristic : Heuristic) : Type 0 where
    pub all : Collection ℕ ℕ
    pub collected : IsCollected boxes exclusions all
    pub refused : NoBinTakes group_order (named_rules nat_cmp nat_cmp heuristic) all (new_bins bins)
