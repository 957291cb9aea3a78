-- What the laws of packings say, over any rules: those of two closures (`rules_by`, `answers`), or those of a heuristic
-- that has a name (`named_rules`).
use Rattle.std.specs.Prelude.{◌≡◌, ◌↔◌, ◌∷◌, [], ℕ, List, All, Some, false, map, reverse}
use Rattle.std.specs.declared.cmp.Ordering.{Ordering}
use Rattle.std.specs.Map.{lookup}
use Rattle.std.specs.BTreeMap.{is_at}
use Rattle.rectangle_pack_sections.specs.declared.group.Group.{Group}
use Rattle.rectangle_pack_packing.specs.declared.answer.Placement.{Placement}
use Rattle.rectangle_pack_sections.specs.Boxes.{Size, Holds}
use Rattle.rectangle_pack_sections.specs.Bins.{Bin}
use Rattle.rectangle_pack_sections.specs.Exclusions.{are_excluded}
use Rattle.rectangle_pack_sections.specs.Groups.{Collection}
use Rattle.rectangle_pack_packing.specs.KeptBins.{KeepsEachBin}
use Rattle.rectangle_pack_packing.specs.Packing.{Rules, excludes_by, excludes_none, AreKeptApart, PackingDone, PackingDoneBy, PackingRefused, PackingRefusedBy}
use Rattle.rectangle_pack_packing.specs.Placed.{ArePlacedWhole}

module _ {Id B G : Type 0} (group_cmp : Group G Id → Group G Id → Ordering) (rules : Rules Id B) where
  -- each packing that is done keeps the cells of each bin (`KeepsEachBin`)
  abbrev pub PackingsKeepCells : Type 0
  PackingsKeepCells =
      (all : Collection Id G) (old new : List (B × Bin)) (placements : List (Placement Id B))
      → PackingDone group_cmp rules all old placements new → KeepsEachBin rules.bin_cmp old placements new

  -- each packing that is done places its groups whole, in the order of the packing (`ArePlacedWhole`), and these are
  -- all groups of that order
  pub record PackingsPlaceWhole : Type 0 where
    pub whole : (all : Collection Id G) (old new : List (B × Bin)) (placements : List (Placement Id B))
        → (done : PackingDone group_cmp rules all old placements new)
        → ArePlacedWhole rules.id_cmp rules.bin_cmp group_cmp all.sizes all.groups (reverse done.homes) placements
    pub all_groups : (all : Collection Id G) (old new : List (B × Bin)) (placements : List (Placement Id B))
        → (done : PackingDone group_cmp rules all old placements new)
        → map (λ h. h.0) (reverse done.homes) ≡ map (λ o. o.1) done.group_order

  -- groups that are excluded get different bins (`AreKeptApart`), in each packing that is done, and, of the groups that
  -- it placed, in each that is refused
  pub record PackingsKeepApart : Type 0 where
    pub done : (all : Collection Id G) (old new : List (B × Bin)) (placements : List (Placement Id B))
        → (done : PackingDone group_cmp rules all old placements new)
        → AreKeptApart group_cmp rules.bin_cmp all.partners done.homes
    pub refused : (all : Collection Id G) (old new : List (B × Bin))
        → (refused : PackingRefused group_cmp rules all old new)
        → AreKeptApart group_cmp rules.bin_cmp all.partners refused.stops.homes

  -- where no two groups are excluded, a packing with n fit tests is one that excludes no bin (`excludes_none`),
  -- and the other way round, whether it is done or refused
  pub record PackingsExcludeNone : Type 0 where
    pub done : (all : Collection Id G) → ((a b : Group G Id) → are_excluded group_cmp all.partners a b ≡ false)
        → (old new : List (B × Bin)) (placements : List (Placement Id B)) (n : ℕ)
        → ((done : PackingDone group_cmp rules all old placements new) × (done.tests ≡ n))
        ↔ ((done : PackingDoneBy group_cmp rules excludes_none all old placements new) × (done.tests ≡ n))
    pub refused : (all : Collection Id G) → ((a b : Group G Id) → are_excluded group_cmp all.partners a b ≡ false)
        → (old new : List (B × Bin)) (n : ℕ)
        → ((refused : PackingRefused group_cmp rules all old new) × (refused.tests ≡ n))
        ↔ ((refused : PackingRefusedBy group_cmp rules excludes_none all old new) × (refused.tests ≡ n))

  -- where a packing is refused at a group with one entry, no free section of a bin that is not excluded for the group,
  -- as the groups before it left the bins, holds its box
  abbrev pub RefusedBoxesAreHeldNowhere : Type 0
  RefusedBoxesAreHeldNowhere =
      (all : Collection Id G) (old new : List (B × Bin)) (refused : PackingRefused group_cmp rules all old new)
      → let stops = refused.stops in (size : Size) → stops.next.1.sizes ≡ size ∷ []
      → (id : B) (bin : Bin) → excludes_by group_cmp rules.bin_cmp all.partners stops.homes stops.next.0 id ≡ false
      → lookup (is_at (rules.bin_cmp id)) new ≡ Some bin → All (λ s. ¬ Holds s size) bin.sections
