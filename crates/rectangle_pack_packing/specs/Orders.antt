-- The orders in which a packing takes groups and bins. Each key is chosen once, so an order is a list of pairs of key and name.
use Rattle.std.specs.Prelude.{◌≡◌, ℕ, List, sum, IsSomeAnd}
use Rattle.std.specs.declared.cmp.Ordering.{Ordering}
use Rattle.std.specs.declared.cmp.Ordering.TheVariants.{Equal}
use Rattle.std.specs.List.{AllZip}
use Rattle.std.specs.Ordering.{nat_cmp, ordering_then}
use Rattle.std.specs.List.Sorted.{IsPermutation, IsSorted}
use Rattle.std.specs.Map.{lookup}
use Rattle.std.specs.BTreeMap.{is_at}
use Rattle.rectangle_pack_sections.specs.Boxes.{Size}
use Rattle.rectangle_pack_sections.specs.Bins.{Bin}
use Rattle.rectangle_pack_lists.specs.Numbers.{saturated}

-- pairs of key and name by falling key, and at equal keys by name
abbrev pub falling_then : {K : Type 0} → (K → K → Ordering) → ℕ × K → ℕ × K → Ordering
falling_then cmp a b = ordering_then (nat_cmp b.0 a.0) (cmp a.1 b.1)

-- pairs of key and name by rising key, and at equal keys by name
abbrev pub rising_then : {B : Type 0} → (B → B → Ordering) → ℕ × B → ℕ × B → Ordering
rising_then cmp a b = ordering_then (nat_cmp a.0 b.0) (cmp a.1 b.1)

module _ (MayRate : Size → ℕ → Type 0) where
  -- the key is the saturated sum of rates: one for each entry of the group's list, of the size that its id has
  -- Example: by `volume_heuristic`, of the list [One, One], where One is 4x4x1: 16 + 16 = 32
  abbrev pub IsGroupKey : {Id : Type 0} → (Id → Id → Ordering) → List (Id × Size) → List Id → ℕ → Type 0
  IsGroupKey cmp sizes ids key =
      (rates : List ℕ) × AllZip (λ id rate. IsSomeAnd (lookup (is_at (cmp id)) sizes) (λ size. MayRate size rate)) ids rates
      × (key ≡ saturated (sum rates))

  -- all groups, each once, each with a key of its list (`IsGroupKey`): the greater key first, and at equal keys by the
  -- order of groups
  -- Example: where each size has the rate 1 and each Ungrouped comes before each Grouped: Grouped(1): [5, 6] with the
  -- key 2, then Ungrouped(7): [7], Ungrouped(9): [9] and Grouped(0): [8] with the key 1
  pub record IsGroupOrder {Id K : Type 0} (group_cmp : K → K → Ordering) (cmp : Id → Id → Ordering)
      (sizes : List (Id × Size)) (groups : List (K × List Id)) (order : List (ℕ × K)) : Type 0 where
    pub unsorted : List (ℕ × K)
    pub each : AllZip (λ group entry. (entry.1 ≡ group.0) × IsGroupKey cmp sizes group.1 entry.0) groups unsorted
    pub permutation : IsPermutation unsorted order
    pub falling : IsSorted (falling_then group_cmp) order

  -- all bins, each once, with a rate of its whole size as key: the smaller key first, and at equal keys by id
  -- Example: bin 8, 9x9x1, with the key 81, then the bins 3 and 5, 10x10x1, with the key 100
  pub record IsBinOrder {B : Type 0} (cmp : B → B → Ordering) (bins : List (B × Bin)) (order : List (ℕ × B)) : Type 0 where
    pub unsorted : List (ℕ × B)
    pub each : AllZip (λ bin entry. (cmp bin.0 entry.1 ≡ Equal) × MayRate bin.1.size entry.0) bins unsorted
    pub permutation : IsPermutation unsorted order
    pub rising : IsSorted (rising_then cmp) order
