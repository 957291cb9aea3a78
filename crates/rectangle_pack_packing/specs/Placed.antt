-- What a packing placed.
use Rattle.std.specs.Prelude.{◌≡◌, List, [], ◌∷◌, ◌++◌, map, All, Some, MatchOption, false}
use Rattle.std.specs.List.{AllZip}
use Rattle.std.specs.declared.cmp.Ordering.{Ordering}
use Rattle.std.specs.declared.cmp.Ordering.TheVariants.{Equal}
use Rattle.std.specs.List.Sorted.{IsStrictlySortedBy}
use Rattle.std.specs.Map.{lookup, keys_of}
use Rattle.std.specs.BTreeMap.{is_at}
use Rattle.std.specs.Ordering.{is_eq}
use Rattle.rectangle_pack_sections.specs.Boxes.{Size, Cuboid}
use Rattle.rectangle_pack_packing.specs.declared.answer.Placement.{Placement}
use Rattle.rectangle_pack_packing.specs.declared.answer.RectanglePackOk.{RectanglePackOk}

-- the placements that a packing answers, in the order in which they were made
abbrev pub placements_of : {Id B A : Type 0} → RectanglePackOk Id B A → List (Placement Id B)
placements_of ok = ok.placements.items

-- the bin and the location that a packing answers for each id, in the order of ids
abbrev pub locations_of : {Id B A : Type 0} → RectanglePackOk Id B A → List (Id × (B × Cuboid))
locations_of ok = ok.packed_locations.entries

module _ {Id B : Type 0} (cmp : Id → Id → Ordering) (bin_cmp : B → B → Ordering) where
  -- one placement for each id of a group, in order. The first has the first location of the trial, the second the
  -- second, and so on; all are in this bin
  pub record AreNamed (ids : List Id) (here : B) (locations : List Cuboid) (placements : List (Placement Id B)) : Type 0 where
    pub named : AllZip (λ id p. cmp id p.id ≡ Equal) ids placements
    pub together : All (λ p. bin_cmp here p.bin ≡ Equal) placements
    pub at : map (λ p. p.location) placements ≡ locations

  -- one placement for each id, in order, in the size listed for the id, all in the bin `here`
  pub record ArePlacedIn (sizes : List (Id × Size)) (ids : List Id) (here : B) (placements : List (Placement Id B)) : Type 0 where
    pub each : AllZip (λ id p. (cmp id p.id ≡ Equal) × (lookup (is_at (cmp id)) sizes ≡ Some p.location.whd)) ids placements
    pub together : All (λ p. bin_cmp here p.bin ≡ Equal) placements

  -- `homes` lists groups, each with a bin. The placements are those of the first of these groups, then those of the
  -- second, and so on; those of each group are in its bin, one for each id of the group's list (`ArePlacedIn`)
  abbrev pub ArePlacedWhole : {K : Type 0} → (K → K → Ordering) → List (Id × Size) → List (K × List Id)
      → List (K × B) → List (Placement Id B) → Type 0
  ArePlacedWhole group_cmp sizes lists [] placements = placements ≡ []
  ArePlacedWhole group_cmp sizes lists (home ∷ homes) placements =
      (ids : List Id) × (first : List (Placement Id B)) × (later : List (Placement Id B)) × (lookup (is_at (group_cmp home.0)) lists ≡ Some ids)
      × ArePlacedIn sizes ids home.1 first × ArePlacedWhole group_cmp sizes lists homes later × (placements ≡ first ++ later)

  -- this bin and location are those of the last placement of the id
  pub record IsLastOf (placements : List (Placement Id B)) (id : Id) (found : B × Cuboid) : Type 0 where
    pub before : List (Placement Id B)
    pub last : Placement Id B
    pub after : List (Placement Id B)
    pub splits : placements ≡ before ++ last ∷ after
    pub same : cmp id last.id ≡ Equal
    pub later : All (λ p. is_eq (cmp id p.id) ≡ false) after
    pub bin : bin_cmp last.bin found.0 ≡ Equal
    pub location : found.1 ≡ last.location

  -- the ids of `found` ascend. Each id that was placed is there, with its last placement, and no other id is there
  -- Example: One 4x4x1 is pushed in [0, 0], so the list of Grouped(0) is [One, One]. By `volume_heuristic` and
  -- `contains_smallest_box` a packing into a bin 8x8x1 places One at (0,0,0) and then at (4,0,0). `found` has One once,
  -- at (4,0,0)
  pub record AreLastPlacements (placements : List (Placement Id B)) (found : List (Id × (B × Cuboid))) : Type 0 where
    pub ascend : IsStrictlySortedBy cmp (keys_of found)
    pub each : (id : Id) → MatchOption (lookup (is_at (cmp id)) found) (All (λ p. is_eq (cmp id p.id) ≡ false) placements) (IsLastOf placements id)
