-- Orders of groups: as lists of keys and names, and with the sizes of their members.
use Rattle.std.specs.Prelude.{◌≡◌, ℕ, ◌+◌, ◌≤◌, List, [], ◌++◌, length, map, unwrap_or, Some, slice_range}
use Rattle.std.specs.declared.cmp.Ordering.{Ordering}
use Rattle.std.specs.Map.{lookup}
use Rattle.std.specs.List.{AllZip, sum_by}
use Rattle.std.specs.BTreeMap.{is_at}
use Rattle.rectangle_pack_packing.specs.declared.order.OrderedGroup.{OrderedGroup}
use Rattle.rectangle_pack_sections.specs.Boxes.{Size}
use Rattle.rectangle_pack_packing.specs.Packing.{Members}

-- an order of references, as keys and what they point to
abbrev pub keys_of_order : {K Id A : Type 0} → List (OrderedGroup K Id A) → List (ℕ × K)
keys_of_order order = map (λ o. (o.key.0, o.name.now)) order

-- how many entries the list has that an order names
abbrev pub entries_at : {Id K : Type 0} → (K → K → Ordering) → List (K × List Id) → ℕ × K → ℕ
entries_at group_cmp lists o = length (unwrap_or (lookup (is_at (group_cmp o.1)) lists) [])

-- the sizes of a group's ids stand one after another in the list of all sizes, from this index on
pub record SizesStandAt {Id : Type 0} (cmp : Id → Id → Ordering) (sizes : List (Id × Size)) (all : List Size) (ids : List Id) (start : ℕ) : Type 0 where
  pub before : List Size
  pub here : List Size
  pub later : List Size
  pub all_are : all ≡ before ++ (here ++ later)
  pub start_is : start ≡ length before
  pub each : AllZip (λ id size. lookup (is_at (cmp id)) sizes ≡ Some size) ids here

-- a group of an order, as its name, its ids and the sizes that stand for them in the list of all sizes
-- Example: where the order says that the sizes of a group of 2 ids begin at 3, they are those at 3 and 4
abbrev pub members_of : {K Id A : Type 0} → List Size → OrderedGroup K Id A → K × Members Id
members_of all o = (o.name.now, record { ids = o.ids.now.items; sizes = slice_range all o.start (o.start + length o.ids.now.items) })

-- the list of all sizes is long enough: from where those of the group begin, there is one for each of its ids
-- Example: for 2 ids whose sizes begin at 3, it has 5 sizes or more
abbrev pub HasSizes : {K Id A : Type 0} → List Size → OrderedGroup K Id A → Type 0
HasSizes all o = o.start + length o.ids.now.items ≤ length all

-- how many members these groups have together
-- Example: of groups of 2 and 3: 5
abbrev pub members_in : {Id K : Type 0} → List (K × Members Id) → ℕ
members_in {Id} {K} gs = sum_by (λ (g : K × Members Id). length g.1.sizes) gs
