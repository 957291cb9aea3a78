-- When a packing has one result.
use Rattle.std.specs.Prelude.{◌≡◌, List, ◌⊎◌, Any, Contains}
use Rattle.std.specs.List.{AllZip}
use Rattle.std.specs.declared.cmp.Ordering.{Ordering}
use Rattle.std.specs.declared.cmp.Ordering.TheVariants.{Equal}
use Rattle.rectangle_pack_sections.specs.declared.group.Group.{Group}
use Rattle.rectangle_pack_packing.specs.declared.answer.Placement.{Placement}
use Rattle.rectangle_pack_sections.specs.Boxes.{Size, Cuboid, Holds, IsPartOf}
use Rattle.rectangle_pack_sections.specs.Bins.{Bin}
use Rattle.rectangle_pack_sections.specs.Closures.{Answers}
use Rattle.rectangle_pack_sections.specs.Choice.{IsFunction, IsPreorderOnCuts}
use Rattle.rectangle_pack_sections.specs.Groups.{Collection}
use Rattle.rectangle_pack_packing.specs.Packing.{Rules, PackingDone, PackingRefused}
use Rattle.rectangle_pack_sections.specs.Alike.{AreMapsAlike}

-- what may be cut up in a packing into these bins: a free section, or a part of one (`IsPartOf`)
abbrev pub MayBeCut : List Bin → Cuboid → Type 0
MayBeCut bins section = Any (λ (bin : Bin). Any (IsPartOf section) bin.sections) bins

-- what may be rated in a packing of boxes of these sizes into these bins: the size of a box; the size of a bin; any
-- size that a free section holds, and so the size of each part of a free section
abbrev pub MayBeRated : List Size → List Bin → Size → Type 0
MayBeRated boxes bins size = Contains boxes size ⊎ Any (λ (bin : Bin). (size ≡ bin.size) ⊎ Any (λ s. Holds s size) bin.sections) bins

-- the heuristic has at most one answer on each size that may be rated (`IsFunction`). The comparison is a total
-- preorder on the cuts of each section that may be cut, round each box that it holds (`IsPreorderOnCuts`)
pub record ClosuresDecide (boxes : List Size) (bins : List Bin) (may : Answers) : Type 0 where
  pub rates : IsFunction (λ size answer. MayBeRated boxes bins size × may.rate size answer)
  pub prefers : IsPreorderOnCuts (λ section member. MayBeCut bins section × Contains boxes member) may.prefer

-- two bins with the same size and the same list of free sections, whether or not coalescing calls were made
pub record AreSameBins (a b : Bin) : Type 0 where
  pub size : a.size ≡ b.size
  pub sections : a.sections ≡ b.sections

-- maps of bins that are alike (`AreMapsAlike`): equal ids, and the same bins (`AreSameBins`)
abbrev pub AreBinsAlike : {B : Type 0} → (B → B → Ordering) → List (B × Bin) → List (B × Bin) → Type 0
AreBinsAlike bin_cmp xs ys = AreMapsAlike bin_cmp AreSameBins xs ys

-- two lists of placements with the same locations, place by place, under equal ids and in equal bins
abbrev pub ArePlacementsAlike : {Id B : Type 0} → (Id → Id → Ordering) → (B → B → Ordering) → List (Placement Id B) → List (Placement Id B) → Type 0
ArePlacementsAlike cmp bin_cmp ps qs = AllZip (λ p q. (cmp p.id q.id ≡ Equal) × (bin_cmp p.bin q.bin ≡ Equal) × (p.location ≡ q.location)) ps qs

-- answers by id: the same locations, in bins that are equal, under ids that are equal
abbrev pub AreLocationsAlike : {Id B : Type 0} → (Id → Id → Ordering) → (B → B → Ordering) → List (Id × (B × Cuboid)) → List (Id × (B × Cuboid)) → Type 0
AreLocationsAlike cmp bin_cmp xs ys = AreMapsAlike cmp (λ a b. (bin_cmp a.0 b.0 ≡ Equal) × (a.1 ≡ b.1)) xs ys

-- what one pair of closures, or another pair, may answer
abbrev pub either_of : Answers → Answers → Answers
either_of one other = record {
  rate = λ size rate. one.rate size rate ⊎ other.rate size rate;
  prefer = λ first second r. one.prefer first second r ⊎ other.prefer first second r;
}

module _ {Id B G : Type 0} (group_cmp : Group G Id → Group G Id → Ordering) (rules other_rules : Rules Id B) where
  -- of two packings, each of its own collection into its own bins and by its own closures. Where both are done, the
  -- bins and the placements are alike. Where both are refused, the bins are alike. Never is one done and the other
  -- refused. Nothing is said where one of the two is refused for want of memory
  pub record HaveOneResult (all other_all : Collection Id G) (bins other_bins : List (B × Bin)) : Type 0 where
    pub done : (ps qs : List (Placement Id B)) (m n : List (B × Bin)) → PackingDone group_cmp rules all bins ps m
        → PackingDone group_cmp other_rules other_all other_bins qs n
        → AreBinsAlike rules.bin_cmp m n × ArePlacementsAlike rules.id_cmp rules.bin_cmp ps qs
    pub refused : (m n : List (B × Bin)) → PackingRefused group_cmp rules all bins m
        → PackingRefused group_cmp other_rules other_all other_bins n → AreBinsAlike rules.bin_cmp m n
    pub not_done_and_refused : (ps : List (Placement Id B)) (m n : List (B × Bin)) → PackingDone group_cmp rules all bins ps m
        → PackingRefused group_cmp other_rules other_all other_bins n → ⊥
    pub not_refused_and_done : (qs : List (Placement Id B)) (m n : List (B × Bin)) → PackingRefused group_cmp rules all bins m
        → PackingDone group_cmp other_rules other_all other_bins qs n → ⊥
