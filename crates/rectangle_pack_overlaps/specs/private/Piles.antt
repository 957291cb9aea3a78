-- The boxes of each bin, with their places in the list of all.
use Rattle.std.specs.Prelude.{◌≡◌, ℕ, ◌<◌, ◌≤◌, List, length, take, All, AllPairs, Any, slice_index_or}
use Rattle.std.specs.declared.vec.Vec.{Vec}
use Rattle.rectangle_pack_overlaps.specs.declared.overlaps.Standing.{Standing}
use Rattle.rectangle_pack_overlaps.specs.declared.parting.Numbered.{Numbered}
use Rattle.rectangle_pack_overlaps.specs.Overlaps.{AreClear}
use Rattle.rectangle_pack_overlaps.specs.private.Parting.{AreRising}

module _ (boxes : List Standing) where
  -- one of the first `count` boxes, in this bin, at its place in the list
  pub record IsOf (count bin : ℕ) (p : Numbered) : Type 0 where
    pub within : p.index < count
    pub is : (d : Standing) → slice_index_or boxes p.index d ≡ record { bin = bin; section = p.section }

  -- those of the first `count` boxes that are in this bin, in their order
  pub record IsPile (count bin : ℕ) (parts : List Numbered) : Type 0 where
    pub rising : AreRising parts
    pub of_bin : All (IsOf count bin) parts
    pub all : (i : ℕ) (d : Standing) → i < count → (slice_index_or boxes i d).bin ≡ bin → Any (λ p. p.index ≡ i) parts

  -- a pile for each bin
  pub record ArePiles {A : Type 0} (count bins : ℕ) (piles : List (Vec Numbered A)) : Type 0 where
    pub as_many : length piles ≡ bins
    pub each : (k : ℕ) (d : Vec Numbered A) → k < bins → IsPile count k (slice_index_or piles k d).items

  -- the first box that clashes with an earlier one, as far as these are in the first `bins` bins; else the number of boxes
  pub record IsFirstBadIn (bins found : ℕ) : Type 0 where
    pub at_most : found ≤ length boxes
    pub clear : (i j : ℕ) (d : Standing) → i < j → j < found → (slice_index_or boxes j d).bin < bins
        → AreClear (slice_index_or boxes i d) (slice_index_or boxes j d)
    pub bad : (d : Standing) → found < length boxes → ¬ All (λ b. AreClear b (slice_index_or boxes found d)) (take found boxes)

  -- the same, of all bins
  pub record IsFirstBad (found : ℕ) : Type 0 where
    pub at_most : found ≤ length boxes
    pub clear : AllPairs AreClear (take found boxes)
    pub bad : (d : Standing) → found < length boxes → ¬ All (λ b. AreClear b (slice_index_or boxes found d)) (take found boxes)
