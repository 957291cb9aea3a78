-- Collections of boxes to place, and the groups that they are in.
use Rattle.std.specs.Prelude.{◌≡◌, ℕ, ◌<◌, ◌||◌, List, [], ◌∷◌, ◌++◌, length, map, All, IsSome, IsSomeAnd, count_by, sum, unwrap_or}
use Rattle.std.specs.declared.cmp.Ordering.{Ordering}
use Rattle.std.specs.declared.cmp.Ordering.TheVariants.{Less, Equal, Greater}
use Rattle.std.specs.declared.vec.Vec.{Vec}
use Rattle.std.specs.Map.{lookup, values_of}
use Rattle.std.specs.Ordering.{is_eq}
use Rattle.std.specs.BTreeMap.{is_at, insert_entry}
use Rattle.rectangle_pack_sections.specs.Boxes.{Size}
use Rattle.rectangle_pack_sections.specs.Exclusions.{are_excluded, are_these}
use Rattle.rectangle_pack_sections.specs.declared.group.Group.{Group}
use Rattle.rectangle_pack_sections.specs.declared.group.Group.TheVariants.{Ungrouped, Grouped}

-- what is to be packed: the size of each id, the list of ids of each group, and the groups listed at a group as
-- excluded with it
pub record Collection (Id G : Type 0) : Type 0 where
  pub sizes : List (Id × Size)
  pub groups : List (Group G Id × List Id)
  pub partners : List (Group G Id × List (Group G Id))

-- how many entries the groups of a collection have, in all
abbrev pub entries_of : {Id G : Type 0} → Collection Id G → ℕ
entries_of all = sum (map length (values_of all.groups))

-- the entries of a map, with the items of each vector
abbrev pub lists_of : {K X A : Type 0} → List (K × Vec X A) → List (K × List X)
lists_of es = map (λ e. (e.0, e.1.items)) es

-- each id of the list has a size
abbrev pub HaveSizes : {Id : Type 0} → (Id → Id → Ordering) → List (Id × Size) → List Id → Type 0
HaveSizes cmp sizes ids = All (λ id. IsSome (lookup (is_at (cmp id)) sizes)) ids

-- each group has a member, and each of its members has a size
abbrev pub MembersHaveSizes : {Id K : Type 0} → (Id → Id → Ordering) → List (Id × Size) → List (K × List Id) → Type 0
MembersHaveSizes cmp sizes groups = All (λ ids. (0 < length ids) × HaveSizes cmp sizes ids) (values_of groups)

-- under a key that equals the id stands this size; the sizes of other ids stay
abbrev pub SetsSize : {Id : Type 0} → (Id → Id → Ordering) → List (Id × Size) → List (Id × Size) → Id → Size → Type 0
SetsSize {Id} cmp old new id size = (key : Id) × (cmp id key ≡ Equal) × (new ≡ insert_entry cmp old key size)

-- the order of groups, by that of ids and that of names: boxes that are placed alone first, by their ids, then the
-- others, by their names
abbrev pub order_of_groups : {Id G : Type 0} → (Id → Id → Ordering) → (G → G → Ordering) → Group G Id → Group G Id → Ordering
order_of_groups cmp names (Ungrouped a) (Ungrouped b) = cmp a b
order_of_groups cmp names (Ungrouped a) (Grouped b) = Less
order_of_groups cmp names (Grouped a) (Ungrouped b) = Greater
order_of_groups cmp names (Grouped a) (Grouped b) = names a b

-- how often a group occurs in the given list
abbrev pub times_named : {Id G : Type 0} → (Group G Id → Group G Id → Ordering) → List G → Group G Id → ℕ
times_named group_cmp named group = count_by (λ n. is_eq (group_cmp group (Grouped n))) named

-- the list is `before`, followed by the id `times` times
abbrev pub Appends : {Id : Type 0} → (Id → Id → Ordering) → List Id → Id → ℕ → List Id → Type 0
Appends {Id} cmp before id times list = (tail : List Id) × (list ≡ before ++ tail) × (length tail ≡ times) × All (λ x. cmp id x ≡ Equal) tail

module _ {Id G : Type 0} (cmp : Id → Id → Ordering) (group_cmp : Group G Id → Group G Id → Ordering) where
  -- a push without groups: the size is set, and the entry `Ungrouped(id)` is the list of the id alone,
  -- and the other groups stay
  -- Example: a push of One to an empty collection leaves Ungrouped(One): [One]
  pub record PushesAlone (old new : Collection Id G) (id : Id) (size : Size) : Type 0 where
    pub sizes : SetsSize cmp old.sizes new.sizes id size
    pub partners : new.partners ≡ old.partners
    pub groups : (key : Id) × (member : Id) × (cmp id key ≡ Equal) × (cmp id member ≡ Equal)
        × (new.groups ≡ insert_entry group_cmp old.groups (Ungrouped key) (member ∷ []))

  -- a push with a list of groups: the size is set. Each named group has its old list, or the empty one where it had
  -- none, followed by the id as often as the group is named. Each group that is not named is as before. Both pushes
  -- leave the excluded pairs as they were
  -- Example: with Grouped(0): [One], a push of Two in [1, 0, 1] leaves Grouped(0): [One, Two] and Grouped(1): [Two,
  -- Two]
  pub record PushesInto (old new : Collection Id G) (id : Id) (named : List G) (size : Size) : Type 0 where
    pub sizes : SetsSize cmp old.sizes new.sizes id size
    pub partners : new.partners ≡ old.partners
    pub named_groups : (group : Group G Id) → 0 < times_named group_cmp named group
        → IsSomeAnd (lookup (is_at (group_cmp group)) new.groups)
        (Appends cmp (unwrap_or (lookup (is_at (group_cmp group)) old.groups) []) id (times_named group_cmp named group))
    pub other_groups : (group : Group G Id) → times_named group_cmp named group ≡ 0
        → lookup (is_at (group_cmp group)) new.groups ≡ lookup (is_at (group_cmp group)) old.groups

-- two groups are excluded: sizes and groups stay, and the excluded pairs are this one and those of before. How the lists of
-- partners say so is left open
-- Example: once A and B are excluded, and then B and C, A and C are not
pub record Excludes {Id G : Type 0} (group_cmp : Group G Id → Group G Id → Ordering) (old new : Collection Id G) (a b : Group G Id) : Type 0 where
  pub sizes : new.sizes ≡ old.sizes
  pub groups : new.groups ≡ old.groups
  pub pairs : (x y : Group G Id) → are_excluded group_cmp new.partners x y ≡ (are_excluded group_cmp old.partners x y || are_these group_cmp a b x y)
