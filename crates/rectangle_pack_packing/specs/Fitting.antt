-- What fits of a collection: groups are taken as in a packing, and one that no bin takes is left.
use Rattle.std.specs.Prelude.{◌≡◌, ℕ, ◌+◌, ◌<◌, ◌⊎◌, Bool, List, [], ◌∷◌, ◌++◌, length, map, unwrap_or, Result, Ok, Err}
use Rattle.std.specs.declared.cmp.Ordering.{Ordering}
use Rattle.std.specs.declared.vec.Vec.{Vec}
use Rattle.std.specs.Borrow.{Bor}
use Rattle.std.specs.List.{sum_by}
use Rattle.std.specs.Option.{option_map}
use Rattle.std.specs.Map.{lookup}
use Rattle.std.specs.BTreeMap.{is_at}
use Rattle.rectangle_pack_sections.specs.declared.group.Group.{Group}
use Rattle.rectangle_pack_sections.specs.declared.box_size_heuristics.named.Heuristic.{Heuristic}
use Rattle.rectangle_pack_sections.specs.Boxes.{volume_of}
use Rattle.rectangle_pack_sections.specs.Bins.{Bin}
use Rattle.rectangle_pack_sections.specs.Groups.{Collection}
use Rattle.rectangle_pack_lists.specs.Numbers.{saturated}
use Rattle.rectangle_pack_packing.specs.declared.answer.Fitted.{Fitted}
use Rattle.rectangle_pack_packing.specs.declared.answer.Placement.{Placement}
use Rattle.rectangle_pack_packing.specs.declared.answer.RectanglePackOk.{RectanglePackOk}
use Rattle.rectangle_pack_packing.specs.declared.uses.FitUse.{FitUse}
use Rattle.rectangle_pack_packing.specs.Best.{IsBestBy, IsBetterUse, named_rules, use_of}
use Rattle.rectangle_pack_packing.specs.Orders.{IsGroupOrder, IsBinOrder}
use Rattle.rectangle_pack_packing.specs.Packing.{Rules, Members, Stage, at_start, excludes_by, AreGroups, IsPlaced, IsRefused}
use Rattle.rectangle_pack_packing.specs.Placed.{AreLastPlacements, placements_of, locations_of}

module _ {Id B : Type 0} (rules : Rules Id B) where
  module _ {K : Type 0} (excludes : List (K × B) → K → B → Bool) where
    -- each group in turn is placed, in the bins as the groups before it left them (`IsPlaced`). Or no bin takes it
    -- (`IsRefused`): then it is left, and the bins stay. The placements are those of the groups that are placed, one
    -- group after another; `left` names the groups that are left, in order. The tests are the sum of those of all groups
    -- Example: into the bin 4x4x1 the groups of one box 3x3x1, 2x2x1 and 1x1x1, in this order: the first is placed, the
    -- second is left, and the third is placed
    abbrev pub AreTaken : List B → List (K × Members Id) → Stage K B → List (Placement Id B) → List K → Stage K B → ℕ → Type 0
    AreTaken order [] old placements left new tests = (placements ≡ []) × (left ≡ []) × (new ≡ old) × (tests ≡ 0)
    AreTaken order (g ∷ gs) old placements left new tests =
        ((first : List (Placement Id B)) × (next : List (B × Bin)) × (one : ℕ) × (later : List (Placement Id B)) × (others : ℕ)
        × (placed : IsPlaced rules (excludes old.homes g.0) order g.1 old.bins first next one)
        × AreTaken order gs (record { bins = next; homes = (g.0, placed.here) ∷ old.homes }) later left new others
        × (placements ≡ first ++ later) × (tests ≡ one + others))
        ⊎ ((one : ℕ) × (rest : List K) × (others : ℕ) × IsRefused rules (excludes old.homes g.0) order g.1 old.bins one
        × AreTaken order gs old placements rest new others × (left ≡ g.0 ∷ rest) × (tests ≡ one + others))

-- the names of groups that are given by references
abbrev pub names_left : {K A : Type 0} → Vec (Bor K) A → List K
names_left left = map (λ k. k.now) left.items

module _ {Id B G : Type 0} (group_cmp : Group G Id → Group G Id → Ordering) (rules : Rules Id B) where
  -- what fits of a collection: by one group order and one bin order each group is placed or left (`AreTaken`), where the
  -- collection's excluded pairs exclude bins (`excludes_by`). A packing that is done is one in which none is left
  -- Example: into the bin P 4x4x1 the groups A of a 3x3x1 and B of b 2x2x1. A has the greater key: a is placed at
  -- (0,0,0), and B is left
  pub record PackingFits (all : Collection Id G) (old : List (B × Bin)) (placements : List (Placement Id B)) (left : List (Group G Id))
      (new : List (B × Bin)) : Type 0 where
    pub group_order : List (ℕ × Group G Id)
    pub bin_order : List (ℕ × B)
    pub groups : List (Group G Id × Members Id)
    pub by_groups : IsGroupOrder rules.may.rate group_cmp rules.id_cmp all.sizes all.groups group_order
    pub by_bins : 0 < length groups → IsBinOrder rules.may.rate rules.bin_cmp old bin_order
    pub listed : AreGroups rules.id_cmp group_cmp all.sizes all.groups group_order groups
    pub homes : List (Group G Id × B)
    pub tests : ℕ
    pub taken : AreTaken rules (excludes_by group_cmp rules.bin_cmp all.partners) (map (λ o. o.1) bin_order) groups (at_start old)
        placements left (record { bins = new; homes = homes }) tests

  -- what is answered where groups may be left: what fits (`PackingFits`), and where each id was placed last
  pub record IsFitted {A : Type 0} (all : Collection Id G) (old : List (B × Bin))
      (fitted : Fitted (RectanglePackOk Id B A) (Group G Id) A) (new : List (B × Bin)) : Type 0 where
    pub fits : PackingFits all old (placements_of fitted.packed) (names_left fitted.left) new
    pub last : AreLastPlacements rules.id_cmp rules.bin_cmp (placements_of fitted.packed) (locations_of fitted.packed)

  -- the same, by cases. Done: `IsFitted`. Where memory is refused the bins are as they were
  abbrev pub IsFittedAnswer : {A E : Type 0} → Collection Id G → List (B × Bin)
      → Result (Fitted (RectanglePackOk Id B A) (Group G Id) A) E → List (B × Bin) → Type 0
  IsFittedAnswer all old (Ok fitted) new = IsFitted all old fitted new
  IsFittedAnswer all old (Err error) new = new ≡ old

-- the cells of the box that is listed under this id
abbrev pub cells_of_box : {Id G : Type 0} → (Id → Id → Ordering) → Collection Id G → Id → ℕ
cells_of_box cmp all id = unwrap_or (option_map volume_of (lookup (is_at (cmp id)) all.sizes)) 0

-- the cells of the boxes of a group, one for each entry
abbrev pub cells_in_group : {Id G : Type 0} → (Id → Id → Ordering) → (Group G Id → Group G Id → Ordering) → Collection Id G → Group G Id → ℕ
cells_in_group cmp group_cmp all name = sum_by (cells_of_box cmp all) (unwrap_or (lookup (is_at (group_cmp name)) all.groups) [])

-- the cells of the boxes of these groups, added up, and at most the greatest number of 128 bits
-- Example: of a group of a 2x3x1 and b 4x4x1, and a group of a: 6 + 16 + 6 = 28
abbrev pub cells_in_groups : {Id G : Type 0} → (Id → Id → Ordering) → (Group G Id → Group G Id → Ordering) → Collection Id G → List (Group G Id) → ℕ
cells_in_groups cmp group_cmp all names = saturated (sum_by (cells_in_group cmp group_cmp all) names)

-- of two packings that may leave groups, the one leaves fewer cells, or as many and makes a better use of the bins
-- (`IsBetterUse`)
abbrev pub IsBetterFit : FitUse → FitUse → Type 0
IsBetterFit one other = (one.left < other.left) ⊎ ((one.left ≡ other.left) × IsBetterUse one.made other.made)

module _ {Id B G : Type 0} (group_cmp : Group G Id → Group G Id → Ordering) (cmp : Id → Id → Ordering) (bin_cmp : B → B → Ordering)
    (all : Collection Id G) (old : List (B × Bin)) where
  -- what such packings are compared by: the cells of the groups that are left, and the use that the placements make of
  -- the bins
  abbrev pub fit_use_of : List (Placement Id B) → List (Group G Id) → FitUse
  fit_use_of placements left = record { left = cells_in_groups cmp group_cmp all left; made = use_of bin_cmp placements old }

  -- with this heuristic the packing fits so much (`PackingFits`), and this is what it is compared by
  pub record FitsWith (heuristic : Heuristic) (made : FitUse) : Type 0 where
    pub placements : List (Placement Id B)
    pub left : List (Group G Id)
    pub new : List (B × Bin)
    pub fits : PackingFits group_cmp (named_rules cmp bin_cmp heuristic) all old placements left new
    pub use_is : made ≡ fit_use_of placements left

  -- of the heuristics of the list this is the best (`IsBestBy`): it leaves the fewest cells, and of those that leave as
  -- many it uses the bins best
  abbrev pub IsBestFit : List Heuristic → Heuristic → FitUse → Type 0
  IsBestFit heuristics best made = IsBestBy FitsWith IsBetterFit heuristics best made

  -- what is answered where the best of several is asked for, by cases. A heuristic and what fits with it (`IsFitted`):
  -- it is the best of the list. Where memory is refused the bins are as they were
  abbrev pub IsBestFitAnswer : {A E : Type 0} → List Heuristic
      → Result (Heuristic × Fitted (RectanglePackOk Id B A) (Group G Id) A) E → List (B × Bin) → Type 0
  IsBestFitAnswer heuristics (Ok (best, fitted)) new =
      IsFitted group_cmp (named_rules cmp bin_cmp best) all old fitted new
      × IsBestFit heuristics best (fit_use_of (placements_of fitted.packed) (names_left fitted.left))
  IsBestFitAnswer heuristics (Err error) new = new ≡ old
