-- How many bins a collection needs, whatever packer places it.
use Rattle.std.specs.Prelude.{◌≡◌, ℕ, ◌<◌, ◌≤◌, Bool, true, false, not, ◌&&◌, List, [], ◌∷◌, ◌++◌, length, map, flat_map}
use Rattle.std.specs.Prelude.{All, AllPairs, Option, unwrap_or, MatchBool}
use Rattle.std.specs.declared.cmp.Ordering.{Ordering}
use Rattle.std.specs.declared.cmp.Ordering.TheVariants.{Equal}
use Rattle.std.specs.BTreeMap.{is_at}
use Rattle.std.specs.List.{AllZip, list_all, list_any}
use Rattle.std.specs.Map.{lookup, keys_of, values_of}
use Rattle.rectangle_pack_sections.specs.declared.group.Group.{Group}
use Rattle.rectangle_pack_sections.specs.Boxes.{Size}
use Rattle.rectangle_pack_sections.specs.Bins.{Bin}
use Rattle.rectangle_pack_sections.specs.Exclusions.{listed_at, are_excluded}
use Rattle.rectangle_pack_sections.specs.Groups.{Collection}
use Rattle.rectangle_pack_bounds.specs.declared.turning.Turns.{Turns}
use Rattle.rectangle_pack_bounds.specs.declared.turning.TurningBox.{TurningBox}
use Rattle.rectangle_pack_bounds.specs.Turning.{ways}
use Rattle.rectangle_pack_bounds.specs.Arrangements.{Put, IsArrangement, IsMetBy, bins_used, different}
use Rattle.rectangle_pack_bounds.specs.Bounds.{IsShown}
use Rattle.rectangle_pack_packing.specs.declared.answer.Placement.{Placement}

-- each entry of each group, with the name of the group, in order
-- Example: of Grouped(0): [1, 2] and Grouped(1): [2]: (Grouped(0), 1), (Grouped(0), 2) and (Grouped(1), 2)
abbrev pub entries : {Id K : Type 0} → List (K × List Id) → List (K × Id)
entries groups = flat_map (λ group. map (λ id. (group.0, id)) group.1) groups

-- no turns
abbrev pub not_turned : Turns
not_turned = record { about_x = false; about_y = false; about_z = false }

-- the box of an id: its size, and its turns. An id that is not in `turns` may not be turned
-- Example: of 1, which is 4x9x1 and may be turned about z: 4x9x1, about z
abbrev pub box_of : {Id : Type 0} → (Id → Id → Ordering) → List (Id × Size) → List (Id × Turns) → Id → TurningBox
box_of cmp sizes turns id = record {
  whd = unwrap_or (lookup (is_at (cmp id)) sizes) (record { width = 0; height = 0; depth = 0 });
  turns = unwrap_or (lookup (is_at (cmp id)) turns) not_turned;
}

-- the size of each bin, under its id
abbrev pub sizes_of : {B : Type 0} → List (B × Bin) → List (B × Size)
sizes_of bins = map (λ bin. (bin.0, bin.1.size)) bins

module _ {K : Type 0} (cmp : K → K → Ordering) (partners : List (K × List K)) where
  -- whether these are two groups, and not one, that are excluded
  abbrev pub are_two_excluded : K → K → Bool
  are_two_excluded a b = not (is_at (cmp a) b) && are_excluded cmp partners a b

  -- how many groups are listed as excluded with this one
  abbrev pub number_listed : K → ℕ
  number_listed name = length (listed_at cmp partners name)

  -- the name at which the most are listed, and the first of those at which so many are
  -- Example: of A, B and C, where B and C are excluded: B
  pub record HasMostListed (names : List K) (name : K) : Type 0 where
    pub before : List K
    pub after : List K
    pub names_are : names ≡ before ++ name ∷ after
    pub more : All (λ other. number_listed other < number_listed name) before
    pub not_fewer : All (λ other. number_listed other ≤ number_listed name) after

  -- whether a group is there, and is excluded with each of these, which are other groups
  abbrev pub joins : List K → List K → K → Bool
  joins names taken name = list_any (is_at (cmp name)) names && list_all (are_two_excluded name) taken

  -- of the candidates in turn, each is taken that joins those that were taken before it. `before` are taken already
  -- Example: A is taken, and is excluded with B, C and D; B and C are excluded, too: B and C are taken, and D is not
  abbrev pub AreTakenApart : List K → List K → List K → List K → Type 0
  AreTakenApart names before [] taken = taken ≡ []
  AreTakenApart names before (name ∷ candidates) taken =
      MatchBool (joins names before name)
      ((later : List K) × (taken ≡ name ∷ later) × AreTakenApart names (before ++ name ∷ []) candidates later)
      (AreTakenApart names before candidates taken)

  -- groups of these names that exclude each other in pairs, so that each needs a bin of its own: the one at which the most
  -- are listed, and then of those that are listed there, in their order, each that joins the ones before it
  -- Example: in the example of `AreTakenApart`: A, B and C. Where no groups are excluded, the first one alone
  abbrev pub AreGroupsApart : List K → List K → Type 0
  AreGroupsApart [] apart = apart ≡ []
  AreGroupsApart (name ∷ names) apart =
      (first : K) × (others : List K) × HasMostListed (name ∷ names) first
      × AreTakenApart (name ∷ names) (first ∷ []) (listed_at cmp partners first) others × (apart ≡ first ∷ others)

module _ {Id B G : Type 0} (group_cmp : Group G Id → Group G Id → Ordering) (cmp : Id → Id → Ordering) (bin_cmp : B → B → Ordering)
    (all : Collection Id G) (turns : List (Id × Turns)) (bins : List (B × Bin)) where
  -- what any packer may do with a collection: the boxes of all entries are arranged in bins of these sizes, and boxes of two
  -- groups that are excluded are in different bins. What stands in the bins before does not count
  -- Example: Ungrouped(1) and Ungrouped(2), each 6x1x1, in bins 0 and 4 of 10x1x1: 1 at (0,0,0) in bin 4, 2 at (3,0,0) in bin 0
  pub record IsArrangementOf (puts : List (Put (Group G Id × Id) B)) : Type 0 where
    pub arranged : IsArrangement bin_cmp (λ entry. ways (box_of cmp all.sizes turns entry.1)) (sizes_of bins) (entries all.groups) puts
    pub excluded_apart : AllPairs (λ a b. are_two_excluded group_cmp all.partners a.of.0 b.of.0 ≡ true → is_at (bin_cmp a.bin) b.bin ≡ false) puts

  -- no arrangement of the collection uses fewer bins than `least`; where there is no such number, there is no arrangement
  -- Example: of Ungrouped(1) and Ungrouped(2), each 6x1x1, in bins of 10x1x1: 2; and with one such bin there is none
  abbrev pub AreNeededFor : Option ℕ → Type 0
  AreNeededFor least = (puts : List (Put (Group G Id × Id) B)) → IsArrangementOf puts → IsMetBy least (bins_used bin_cmp puts)

  -- the number that is shown for the collection: by the sizes of the bins, the boxes of the entries, and how many groups
  -- exclude each other
  pub record IsShownFor (least : Option ℕ) : Type 0 where
    pub apart : List (Group G Id)
    pub are_apart : AreGroupsApart group_cmp all.partners (keys_of all.groups) apart
    pub shown : IsShown (values_of (sizes_of bins)) (map (λ entry. box_of cmp all.sizes turns entry.1) (entries all.groups)) (length apart) least

  -- placements that are an arrangement of the collection. Each is read as a put: its bin, its box, and an entry of the
  -- collection whose id equals that of the placement
  pub record AreArranged (placements : List (Placement Id B)) : Type 0 where
    pub puts : List (Put (Group G Id × Id) B)
    pub same : AllZip (λ p put. (cmp put.of.1 p.id ≡ Equal) × (put.bin ≡ p.bin) × (put.box ≡ p.location)) placements puts
    pub arrangement : IsArrangementOf puts

-- how many bins have a placement, or more than one
-- Example: of placements in bins 4, 0 and 4: 2
abbrev pub bins_filled : {Id B : Type 0} → (B → B → Ordering) → List (Placement Id B) → ℕ
bins_filled bin_cmp placements = length (different bin_cmp (map (λ p. p.bin) placements))
