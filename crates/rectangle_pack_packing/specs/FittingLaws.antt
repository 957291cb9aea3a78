-- What the laws of what fits say, over any rules: those of two closures (`rules_by`, `answers`), or those of a heuristic
-- that has a name (`named_rules`).
use Rattle.std.specs.Prelude.{◌≡◌, ◌↔◌, ◌∷◌, [], ◌++◌, ℕ, List, All, Some, Contains, false, map, reverse}
use Rattle.std.specs.declared.cmp.Ordering.{Ordering}
use Rattle.std.specs.declared.cmp.Ordering.TheVariants.{Equal}
use Rattle.std.specs.List.{AllZip}
use Rattle.std.specs.List.Sorted.{IsPermutation}
use Rattle.std.specs.Map.{lookup}
use Rattle.std.specs.BTreeMap.{is_at}
use Rattle.rectangle_pack_sections.specs.declared.group.Group.{Group}
use Rattle.rectangle_pack_packing.specs.declared.answer.Placement.{Placement}
use Rattle.rectangle_pack_sections.specs.Boxes.{Size, Holds}
use Rattle.rectangle_pack_sections.specs.Bins.{Bin}
use Rattle.rectangle_pack_sections.specs.Groups.{Collection}
use Rattle.rectangle_pack_packing.specs.Fitting.{PackingFits}
use Rattle.rectangle_pack_packing.specs.KeptBins.{KeepsEachBin}
use Rattle.rectangle_pack_packing.specs.Packing.{Rules, excludes_by, AreKeptApart, PackingDone, PackingRefused}
use Rattle.rectangle_pack_packing.specs.Placed.{ArePlacedWhole}
use Rattle.rectangle_pack_packing.specs.Results.{AreBinsAlike, ArePlacementsAlike}

module _ {Id B G : Type 0} (group_cmp : Group G Id → Group G Id → Ordering) (rules : Rules Id B) where
  -- what fits with no group left, with n fit tests, is a packing that is done, with n fit tests, and the other way round
  abbrev pub DoneIsNoneLeft : Type 0
  DoneIsNoneLeft =
      (all : Collection Id G) (old new : List (B × Bin)) (placements : List (Placement Id B)) (n : ℕ)
      → ((fits : PackingFits group_cmp rules all old placements [] new) × (fits.tests ≡ n))
      ↔ ((done : PackingDone group_cmp rules all old placements new) × (done.tests ≡ n))

  -- a packing of the same collection into the same bins is refused at this group, by the same orders. What it placed
  -- before is the beginning of these placements
  pub record IsRefusedAt (all : Collection Id G) (old : List (B × Bin)) (placements : List (Placement Id B)) (new : List (B × Bin))
      (first : Group G Id) (left : List (Group G Id)) (fits : PackingFits group_cmp rules all old placements (first ∷ left) new) : Type 0 where
    pub bins : List (B × Bin)
    pub refused : PackingRefused group_cmp rules all old bins
    pub group_order : refused.group_order ≡ fits.group_order
    pub bin_order : refused.bin_order ≡ fits.bin_order
    pub next : refused.stops.next.0 ≡ first
    pub later : List (Placement Id B)
    pub placements_are : placements ≡ refused.stops.placements ++ later

  -- where groups are left, a packing is refused at the first of them (`IsRefusedAt`)
  abbrev pub FirstLeftIsRefused : Type 0
  FirstLeftIsRefused =
      (all : Collection Id G) (old new : List (B × Bin)) (placements : List (Placement Id B)) (first : Group G Id) (left : List (Group G Id))
      → (fits : PackingFits group_cmp rules all old placements (first ∷ left) new) → IsRefusedAt all old placements new first left fits

  -- what fits keeps the cells of each bin (`KeepsEachBin`)
  abbrev pub FittingsKeepCells : Type 0
  FittingsKeepCells =
      (all : Collection Id G) (old new : List (B × Bin)) (placements : List (Placement Id B)) (left : List (Group G Id))
      → PackingFits group_cmp rules all old placements left new → KeepsEachBin rules.bin_cmp old placements new

  -- groups that fit are placed whole, in the order in which they were placed (`ArePlacedWhole`). They and the groups that
  -- are left are all groups of the order, each once
  pub record FittingsPlaceWhole : Type 0 where
    pub whole : (all : Collection Id G) (old new : List (B × Bin)) (placements : List (Placement Id B)) (left : List (Group G Id))
        → (fits : PackingFits group_cmp rules all old placements left new)
        → ArePlacedWhole rules.id_cmp rules.bin_cmp group_cmp all.sizes all.groups (reverse fits.homes) placements
    pub all_groups : (all : Collection Id G) (old new : List (B × Bin)) (placements : List (Placement Id B)) (left : List (Group G Id))
        → (fits : PackingFits group_cmp rules all old placements left new)
        → IsPermutation (map (λ h. h.0) (reverse fits.homes) ++ left) (map (λ o. o.1) fits.group_order)

  -- groups that are excluded get different bins (`AreKeptApart`), of those that fit
  abbrev pub FittingsKeepApart : Type 0
  FittingsKeepApart =
      (all : Collection Id G) (old new : List (B × Bin)) (placements : List (Placement Id B)) (left : List (Group G Id))
      → (fits : PackingFits group_cmp rules all old placements left new) → AreKeptApart group_cmp rules.bin_cmp all.partners fits.homes

  -- where a group with one entry is left, no free section of a bin that is not excluded for the group holds its box. Bins
  -- and excluded bins are those at the end
  abbrev pub LeftBoxesAreHeldNowhere : Type 0
  LeftBoxesAreHeldNowhere =
      (all : Collection Id G) (old new : List (B × Bin)) (placements : List (Placement Id B)) (left : List (Group G Id))
      → (fits : PackingFits group_cmp rules all old placements left new)
      → (name : Group G Id) (id : Id) (size : Size) → Contains left name → lookup (is_at (group_cmp name)) all.groups ≡ Some (id ∷ [])
      → lookup (is_at (rules.id_cmp id)) all.sizes ≡ Some size
      → (bin_id : B) (bin : Bin) → excludes_by group_cmp rules.bin_cmp all.partners fits.homes name bin_id ≡ false
      → lookup (is_at (rules.bin_cmp bin_id)) new ≡ Some bin → All (λ s. ¬ Holds s size) bin.sections

  -- of two collections, each into its own bins, what fits is alike: the bins at the end and the placements are, and the
  -- groups that are left are equal, one by one
  pub record HaveOneFit (all other_all : Collection Id G) (bins other_bins : List (B × Bin)) : Type 0 where
    pub alike : (ps qs : List (Placement Id B)) (left other_left : List (Group G Id)) (m n : List (B × Bin))
        → PackingFits group_cmp rules all bins ps left m → PackingFits group_cmp rules other_all other_bins qs other_left n
        → AreBinsAlike rules.bin_cmp m n × ArePlacementsAlike rules.id_cmp rules.bin_cmp ps qs × AllZip (λ x y. group_cmp x y ≡ Equal) left other_left
