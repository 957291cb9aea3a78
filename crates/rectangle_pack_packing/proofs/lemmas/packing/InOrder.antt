-- What is said of the groups of an order, said of the collection.
use Rattle.rectangle_pack_sections.proofs.Std.{◌≡◌, ◌≤◌, ℕ, List, [], map, refl, sym, ◌∙◌, Some, All, Ordering, IsTotalOrder, IsDistinct, eq_by_cmp, keys_of}
use Rattle.rectangle_pack_sections.proofs.Std.{sum_by, lookup, is_at, Vec, arith, Bool, true, false, Result, Ok, Err, IfOk}
use Rattle.rectangle_pack_sections.specs.declared.group.Group.{Group}
use Rattle.rectangle_pack_sections.specs.Groups.{Collection, entries_of, lists_of}
use Rattle.rectangle_pack_packing.specs.declared.order.OrderedGroup.{OrderedGroup}
use Rattle.rectangle_pack_sections.specs.Bins.{Bin}
use Rattle.rectangle_pack_sections.specs.Boxes.{Size}
use Rattle.rectangle_pack_packing.specs.Orders.{IsBinOrder, IsGroupOrder}
use Rattle.rectangle_pack_packing.specs.Packing.{Rules, excludes_by, AreGroups}
use Rattle.rectangle_pack_packing.specs.private.OnItsWay.{OnItsWay, AreGroupsTried, IsPackingTried, IsFittingTried, AreAllTried}
use Rattle.rectangle_pack_packing.specs.declared.pack.packing.OnRefusal.{OnRefusal}
use Rattle.rectangle_pack_packing.specs.declared.pack.packing.OnRefusal.TheVariants.{Stop, Leave}
use Rattle.rectangle_pack_packing.specs.private.Orders.{keys_of_order, entries_at, members_of, SizesStandAt}
use Rattle.rectangle_pack_packing.proofs.lemmas.packing.Groups.{AreGroups-order, AreGroups-length, AreAllPlaced-length, AreTaken-length}
use Rattle.rectangle_pack_packing.proofs.lemmas.packing.FitTests.{counted-done, counted-refused}
use Rattle.rectangle_pack_packing.proofs.lemmas.packing.Taken.{taken-none}
use Rattle.rectangle_pack_sections.proofs.lemmas.groups.Lists.{list-found}

module _ {Id B G A : Type 0} (group_cmp : Group G Id → Group G Id → Ordering) (rules : Rules Id B) (all : Collection Id G) (old : List (B × Bin))
    (bin_order : List (ℕ × B)) (order : List (OrderedGroup (Group G Id) Id A)) (sizes : List Size) where
  -- the groups and the bins are in order, and the members of each group are known
  pub record AreInOrder : Type 0 where
    pub by_groups : IsGroupOrder rules.may.rate group_cmp rules.id_cmp all.sizes all.groups (keys_of_order order)
    pub by_bins : IsBinOrder rules.may.rate rules.bin_cmp old bin_order
    pub distinct : IsDistinct (eq_by_cmp rules.bin_cmp) (keys_of old)
    pub listed : AreGroups rules.id_cmp group_cmp all.sizes all.groups (keys_of_order order) (map (members_of sizes) order)
    pub entries : sum_by (entries_at group_cmp all.groups) (keys_of_order order) ≡ entries_of all

  -- where the lists of the collection are listed, and the sizes of their ids
  pub AreInOrder-from : (lists : List (Group G Id × Vec Id A)) → lists_of lists ≡ all.groups
      → IsGroupOrder rules.may.rate group_cmp rules.id_cmp all.sizes all.groups (keys_of_order order) → IsBinOrder rules.may.rate rules.bin_cmp old bin_order
      → IsDistinct (eq_by_cmp rules.bin_cmp) (keys_of old) → All (λ o. lookup (is_at (group_cmp o.name.now)) lists ≡ Some o.ids.now) order
      → All (λ o. SizesStandAt rules.id_cmp all.sizes sizes o.ids.now.items o.start) order
      → sum_by (entries_at group_cmp all.groups) (keys_of_order order) ≡ entries_of all → AreInOrder
  AreInOrder-from lists same by_groups by_bins distinct listed stand entries = record {
    by_groups = by_groups;
    by_bins = by_bins;
    distinct = distinct;
    listed = AreGroups-order rules.id_cmp all.sizes sizes group_cmp all.groups order
        (λ k d within. rw (← same) (list-found _ lists _ (listed k d within))) stand;
    entries = entries;
  }

-- where the groups of an order are tried, and none is left, those of the collection are
packing-tried : {Id B G A R E : Type 0} (group_cmp : Group G Id → Group G Id → Ordering) (rules : Rules Id B) (all : Collection Id G)
    (order : List (OrderedGroup (Group G Id) Id A)) (sizes : List Size) → IsTotalOrder rules.bin_cmp
    → (old new : OnItsWay Id B R) (left : List (Group G Id)) (result : Result Bool E)
    → AreInOrder group_cmp rules all old.bins.now old.bins.order order sizes → left ≡ []
    → AreGroupsTried rules (excludes_by group_cmp rules.bin_cmp all.partners) (map (members_of sizes) order) old left result new
    → IsPackingTried rules group_cmp all old.bins.now result new
packing-tried group_cmp rules all order sizes o old new left (Ok true) h none (homes, n, taken, added) =
    let excludes = excludes_by group_cmp rules.bin_cmp all.partners in
    let groups = map (members_of sizes) order in
    let placed = taken-none rules excludes _ groups _ new.placements (record { bins = new.bins.now; homes = homes }) n (rw none at taken) in (
      record {
        group_order = keys_of_order order;
        bin_order = old.bins.order;
        groups = groups;
        by_groups = h.by_groups;
        by_bins = λ some. h.by_bins;
        listed = h.listed;
        homes = homes;
        tests = n;
        placed = placed;
      },
      counted-done group_cmp rules o all old.bins.now h.distinct (keys_of_order order) h.entries old.bins.order h.by_bins n 0 new.tests
          groups new.placements (record { bins = new.bins.now; homes = homes }) h.listed placed (omega (arith, added)),
      AreAllPlaced-length rules excludes _ groups _ _ new.placements n placed
          ∙ sym (AreGroups-length rules.id_cmp group_cmp all.sizes all.groups (keys_of_order order) groups h.listed) ∙ h.entries,
    )
packing-tried group_cmp rules all order sizes o old new left (Ok false) h none (n, stops, added) = (
  record {
    group_order = keys_of_order order;
    bin_order = old.bins.order;
    groups = map (members_of sizes) order;
    by_groups = h.by_groups;
    by_bins = h.by_bins;
    listed = h.listed;
    tests = n;
    stops = stops;
  },
  counted-refused group_cmp rules o all old.bins.now h.distinct (keys_of_order order) h.entries old.bins.order h.by_bins n 0 new.tests
      (map (members_of sizes) order) new.bins.now h.listed stops (omega (arith, added)),
)
packing-tried group_cmp rules all order sizes o old new left (Err error) h none tried = tt

-- where each is placed or left, this is what fits of the collection
fitting-tried : {Id B G A R E : Type 0} (group_cmp : Group G Id → Group G Id → Ordering) (rules : Rules Id B) (all : Collection Id G)
    (order : List (OrderedGroup (Group G Id) Id A)) (sizes : List Size)
    (old new : OnItsWay Id B R) (left : List (Group G Id)) (result : Result Bool E)
    → AreInOrder group_cmp rules all old.bins.now old.bins.order order sizes → IfOk result (λ ended. ended ≡ true)
    → AreGroupsTried rules (excludes_by group_cmp rules.bin_cmp all.partners) (map (members_of sizes) order) old left result new
    → IsFittingTried rules group_cmp all old.bins.now left result new
fitting-tried group_cmp rules all order sizes old new left (Ok true) h ended (homes, n, taken, added) =
    let groups = map (members_of sizes) order in (
      refl,
      record {
        group_order = keys_of_order order;
        bin_order = old.bins.order;
        groups = groups;
        by_groups = h.by_groups;
        by_bins = λ some. h.by_bins;
        listed = h.listed;
        homes = homes;
        tests = n;
        taken = taken;
      },
      omega (
        arith,
        AreTaken-length rules (excludes_by group_cmp rules.bin_cmp all.partners) _ groups _ _ new.placements left n taken,
        AreGroups-length rules.id_cmp group_cmp all.sizes all.groups (keys_of_order order) groups h.listed,
        h.entries,
      ),
    )
fitting-tried group_cmp rules all order sizes old new left (Ok false) h ended tried = absurd (let no = ended in cc)
fitting-tried group_cmp rules all order sizes old new left (Err error) h ended tried = tt

-- so it is by what becomes of a packing where no bin takes a group
pub all-tried : {Id B G A R E : Type 0} (group_cmp : Group G Id → Group G Id → Ordering) (rules : Rules Id B) (all : Collection Id G)
    (order : List (OrderedGroup (Group G Id) Id A)) (sizes : List Size) → IsTotalOrder rules.bin_cmp
    → (old new : OnItsWay Id B R) (on_refusal : OnRefusal) (left : List (Group G Id)) (result : Result Bool E)
    → AreInOrder group_cmp rules all old.bins.now old.bins.order order sizes
    → (on_refusal ≡ Stop → left ≡ []) → (on_refusal ≡ Leave → IfOk result (λ ended. ended ≡ true))
    → AreGroupsTried rules (excludes_by group_cmp rules.bin_cmp all.partners) (map (members_of sizes) order) old left result new
    → AreAllTried rules group_cmp all old.bins.now on_refusal left result new
all-tried group_cmp rules all order sizes o old new Stop left result h none ended tried =
    packing-tried group_cmp rules all order sizes o old new left result h (none refl) tried
all-tried group_cmp rules all order sizes o old new Leave left result h none ended tried =
    fitting-tried group_cmp rules all order sizes old new left result h (ended refl) tried
