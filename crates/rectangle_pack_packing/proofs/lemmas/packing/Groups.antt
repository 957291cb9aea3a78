-- Groups that are placed or left, one after another.
use Rattle.rectangle_pack_sections.proofs.Std.{◌≡◌, ℕ, suc, ◌+◌, ◌<◌, ◌≤◌, List, [], ◌∷◌, ◌++◌, length, take, drop, refl, ap, sym, ◌∙◌, subst, cond, true}
use Rattle.rectangle_pack_sections.proofs.Std.{false, Bool, arith, inl, inr, get_or, append_assoc, append-nil, Option, Some, None, map, sum, All, IsTrue, ◌↔◌}
use Rattle.rectangle_pack_sections.proofs.Std.{MatchOption, Ordering, Equal, is_eq, IsTotalOrder, Equal-is}
use Rattle.rectangle_pack_sections.proofs.Std.{AllZip, sum_by, sum_by-cons, length-append, lookup, keys_of, IsStrictlySortedBy, is_at}
use Rattle.rectangle_pack_sections.proofs.Std.{split_at, take_more, map-append, length-map, Vec, All-push, All-nil, All-head}
use Rattle.rectangle_pack_sections.proofs.Std.{All-tail, All-weaker, sum-map, slice_range, ◌-◌, length-drop, length-take-le, set_value, set_value_same}
use Rattle.rectangle_pack_packing.specs.declared.order.OrderedGroup.{OrderedGroup}
use Rattle.rectangle_pack_sections.specs.Closures.{Answers}
use Rattle.rectangle_pack_sections.specs.Groups.{Collection, lists_of}
use Rattle.rectangle_pack_packing.specs.private.Orders.{keys_of_order, entries_at, SizesStandAt, members_of, members_in, HasSizes}
use Rattle.rectangle_pack_sections.specs.declared.group.Group.{Group}
use Rattle.rectangle_pack_packing.specs.declared.answer.Placement.{Placement}
use Rattle.rectangle_pack_sections.specs.Bins.{Bin}
use Rattle.rectangle_pack_packing.specs.Packing.{Rules, Members, Stage, at_start, IsPlaced, DoesNotTake, IsRefused, AreAllPlaced, AreGroups, StopsAfter}
use Rattle.rectangle_pack_packing.specs.Packing.{PackingDone}
use Rattle.rectangle_pack_packing.specs.Fitting.{AreTaken}
use Rattle.rectangle_pack_sections.specs.Boxes.{Size, Cuboid}
use Rattle.rectangle_pack_lists.specs.Steps.{IsDone}
use Rattle.rectangle_pack_packing.specs.private.BinsAtWork.{IsTriedIn}
use Rattle.rectangle_pack_packing.specs.Placed.{AreNamed, IsLastOf, AreLastPlacements}
use Rattle.rectangle_pack_packing.proofs.lemmas.packing.Orders.{AllZip-more, SizesStandAt-part}
use Rattle.rectangle_pack_sections.proofs.lemmas.util.Zips.{AllZip-equal}
use Rattle.rectangle_pack_sections.proofs.lemmas.util.Zips.{length-zip}
use Rattle.rectangle_pack_sections.proofs.lemmas.util.Maps.{is_at-back, congr_right}

-- the names of an order, split at an index
names-split : {B : Type 0} (order : List (ℕ × B)) (i : ℕ) (o : ℕ × B) → i < length order → o ≡ get_or order i o
    → map (λ (x : ℕ × B). x.1) order ≡ map (λ (x : ℕ × B). x.1) (take i order) ++ o.1 ∷ map (λ (x : ℕ × B). x.1) (drop (suc i) order)
names-split {B} order i o within is =
    let split : order ≡ take i order ++ o ∷ drop (suc i) order = subst
    (λ z. order ≡ take i order ++ z ∷ drop (suc i) order) (sym is) (split_at order i o within) in
    ap (map (λ (x : ℕ × B). x.1)) split ∙ map-append (λ (x : ℕ × B). x.1) (take i order) (o ∷ drop (suc i) order)

-- each location of a done trial has the size of its member
pub IsDone-sizes : (may : Answers) (sections : List Cuboid) (ms : List Size) (ls last : List Cuboid) (n : ℕ) → IsDone may sections ms ls last n
    → map (λ l. l.whd) ls ≡ ms
IsDone-sizes may sections [] ls last n done = ap (map (λ l. l.whd)) done.0
IsDone-sizes may sections (m ∷ ms) [] last n done = absurd done
IsDone-sizes may sections (m ∷ ms) (l ∷ ls) last n (next, one, others, step, done, count) =
    let here : l.whd ≡ m = ap (λ (b : Cuboid). b.whd) step.location_is in
    let rest = IsDone-sizes may next ms ls last others done in
    cc

-- so there are as many
pub IsDone-length : (may : Answers) (sections : List Cuboid) (ms : List Size) (ls last : List Cuboid) (n : ℕ) → IsDone may sections ms ls last n
    → length ms ≡ length ls
IsDone-length may sections ms ls last n done = ap length (sym (IsDone-sizes may sections ms ls last n done)) ∙ length-map ls (λ l. l.whd)

-- where the trial leaves the bin's list, it leaves all bins
pub IsTriedIn-same : {B : Type 0} (cmp : B → B → Ordering) (id : B) (old : List (B × Bin)) (before after : Bin) (new : List (B × Bin))
    → IsTriedIn cmp id old before after new → after.sections ≡ before.sections → new ≡ old
IsTriedIn-same cmp id old before after new tried same =
    let kept : after ≡ before = tried.rest ∙ ap (λ l. record before { sections = l }) same in
    tried.written ∙ ap (set_value (is_at (cmp id)) old) kept ∙ set_value_same (is_at (cmp id)) old before tried.found

-- one more name
pub AreNamed-more : {Id B : Type 0} (cmp : Id → Id → Ordering) (bin_cmp : B → B → Ordering) (ids : List Id) (here : B) (locations : List Cuboid) (i : ℕ)
    (x id : Id) (bin : B) (e : Cuboid) (added : List (Placement Id B))
    → i < length ids → i < length locations → x ≡ get_or ids i x → e ≡ get_or locations i e → cmp x id ≡ Equal → bin_cmp here bin ≡ Equal
    → AreNamed cmp bin_cmp (take i ids) here (take i locations) added
    → AreNamed cmp bin_cmp (take (i + 1) ids) here (take (i + 1) locations) (added ++ record { id = id; bin = bin; location = e } ∷ [])
AreNamed-more {Id} {B} cmp bin_cmp ids here locations i x id bin e added in_ids in_locations is is_location same same_bin h =
    let p : Placement Id B = record { id = id; bin = bin; location = e } in record {
      named = rw (take_more ids i x in_ids) (AllZip-more _ (take i ids) added (get_or ids i x) p h.named (rw (← is) same));
      together = All-push (λ (y : Placement Id B). bin_cmp here y.bin ≡ Equal) added p h.together same_bin;
      at = map-append (λ (y : Placement Id B). y.location) added (p ∷ []) ∙ rw (take_more locations i e in_locations, h.at, ← is_location) refl;
    }

-- the sizes of a list of ids
abbrev pub AreSizesOf : {Id : Type 0} → (Id → Id → Ordering) → List (Id × Size) → List Id → List Size → Type 0
AreSizesOf cmp sizes ids found = AllZip (λ id size. lookup (is_at (cmp id)) sizes ≡ Some size) ids found

module _ {Id B : Type 0} (rules : Rules Id B) where
  -- a group whose trial is done in a bin of an order is placed there, where no bin before it takes the group
  pub IsPlaced-at : (excluded : B → Bool) (order : List (ℕ × B)) (i : ℕ) (o : ℕ × B) (group : Members Id) (old mid new : List (B × Bin)) (v w : Bin)
      (locations : List Cuboid) (counts : List ℕ) (count : ℕ) (added : List (Placement Id B))
      → i < length order → o ≡ get_or order i o → mid ≡ old
      → AllZip (DoesNotTake rules excluded old group) (map (λ (x : ℕ × B). x.1) (take i order)) counts → excluded o.1 ≡ false
      → IsTriedIn rules.bin_cmp o.1 mid v w new → IsDone rules.may v.sections group.sizes locations w.sections count
      → AreNamed rules.id_cmp rules.bin_cmp group.ids o.1 locations added
      → (p : IsPlaced rules excluded (map (λ (x : ℕ × B). x.1) order) group old added new (sum counts + count)) × (p.here ≡ o.1)
  IsPlaced-at excluded order i o group old mid new v w locations counts count added within is same passed allowed tried done named = (
    record {
      before = map (λ (x : ℕ × B). x.1) (take i order);
      here = o.1;
      after = map (λ (x : ℕ × B). x.1) (drop (suc i) order);
      order_is = names-split order i o within is;
      counts = counts;
      passed = passed;
      allowed = allowed;
      bin = v;
      found = rw (← same) tried.found;
      last = w.sections;
      locations = locations;
      count = count;
      done = done;
      named = named;
      new_is = rw (← same, ← tried.rest) tried.written;
      tests_are = refl;
    },
    refl,
  )

  module _ {K : Type 0} (excludes : List (K × B) → K → B → Bool) where
    -- one more group is placed
    pub AreTaken-placed : (order : List B) (gs : List (K × Members Id)) (g : K × Members Id) (old : Stage K B) (mid : List (B × Bin)) (homes : List (K × B))
        (next : List (B × Bin)) (placements added : List (Placement Id B)) (left : List K) (tests one : ℕ)
        → AreTaken rules excludes order gs old placements left (record { bins = mid; homes = homes }) tests
        → (p : IsPlaced rules (excludes homes g.0) order g.1 mid added next one)
        → AreTaken rules excludes order (gs ++ g ∷ []) old (placements ++ added) left (record { bins = next; homes = (g.0, p.here) ∷ homes }) (tests + one)
    AreTaken-placed order [] g old mid homes next placements added left tests one done placed =
        let S : Stage K B = record { bins = mid; homes = homes } in
        subst (λ (s : Stage K B). AreTaken rules excludes order (g ∷ []) s (placements ++ added) left
        (record { bins = next; homes = (g.0, placed.here) ∷ homes }) (tests + one)) done.2
        (inl (
          added,
          next,
          one,
          [],
          0,
          placed,
          (refl, done.1, refl, refl),
          ap (λ ps. ps ++ added) done.0 ∙ sym (append-nil added),
          (let z = done.3 in omega arith),
        ))
    AreTaken-placed order (g' ∷ gs) g old mid homes next placements added left tests one (inl (first, mid', n, rest, m, here, later, joined, counted)) placed =
        inl (
          first,
          mid',
          n,
          rest ++ added,
          m + one,
          here,
          AreTaken-placed order gs g (record { bins = mid'; homes = (g'.0, here.here) ∷ old.homes }) mid homes
              next rest added left m one later placed,
          rw joined (append_assoc first rest added),
          omega arith,
        )
    AreTaken-placed order (g' ∷ gs) g old mid homes next placements added left tests one (inr (n, rest, m, refused, later, named, counted)) placed =
        inr (n, rest, m + one, refused, AreTaken-placed order gs g old mid homes next placements added rest m one later placed, named, omega arith)

    -- or it is left
    pub AreTaken-left : (order : List B) (gs : List (K × Members Id)) (g : K × Members Id) (old : Stage K B) (mid : List (B × Bin)) (homes : List (K × B))
        (placements : List (Placement Id B)) (left : List K) (tests one : ℕ)
        → AreTaken rules excludes order gs old placements left (record { bins = mid; homes = homes }) tests
        → IsRefused rules (excludes homes g.0) order g.1 mid one
        → AreTaken rules excludes order (gs ++ g ∷ []) old placements (left ++ g.0 ∷ []) (record { bins = mid; homes = homes }) (tests + one)
    AreTaken-left order [] g old mid homes placements left tests one done refused =
        let S : Stage K B = record { bins = mid; homes = homes } in
        subst (λ (s : Stage K B). AreTaken rules excludes order (g ∷ []) s placements (left ++ g.0 ∷ []) S (tests + one)) done.2
        (inr (one, [], 0, refused, (done.0, refl, refl, refl), ap (λ ks. ks ++ g.0 ∷ []) done.1, (let z = done.3 in omega arith)))
    AreTaken-left order (g' ∷ gs) g old mid homes placements left tests one (inl (first, mid', n, rest, m, here, later, joined, counted)) refused =
        inl (
          first,
          mid',
          n,
          rest,
          m + one,
          here,
          AreTaken-left order gs g (record { bins = mid'; homes = (g'.0, here.here) ∷ old.homes }) mid homes rest left m one later refused,
          joined,
          omega arith,
        )
    AreTaken-left order (g' ∷ gs) g old mid homes placements left tests one (inr (n, rest, m, first, later, named, counted)) refused =
        inr (
          n,
          rest ++ g.0 ∷ [],
          m + one,
          first,
          AreTaken-left order gs g old mid homes placements rest m one later refused,
          ap (λ ks. ks ++ g.0 ∷ []) named,
          omega arith,
        )

  -- a packing stops at a group that is refused
  pub StopsAfter-at : {K : Type 0} (excludes : List (K × B) → K → B → Bool) (order : List B) (groups gs : List (K × Members Id)) (next : K × Members Id)
      (later : List (K × Members Id)) (names : List B) (old new mid : List (B × Bin)) (homes : List (K × B)) (placements : List (Placement Id B))
      (first count : ℕ) → groups ≡ gs ++ next ∷ later
      → AreAllPlaced rules excludes order gs (at_start old) placements (record { bins = mid; homes = homes }) first
      → names ≡ order → new ≡ mid → IsRefused rules (excludes homes next.0) names next.1 mid count
      → StopsAfter rules excludes order groups old new (first + count)
  StopsAfter-at excludes order groups gs next later names old new mid homes placements first count splits placed same_order same refused =
      record {
        beginning = gs;
        next = next;
        later = later;
        groups_are = splits;
        placements = placements;
        homes = homes;
        first = first;
        placed = rw same placed;
        count = count;
        refused = rw (← same_order, same) refused;
        tests_are = refl;
      }

module _ {Id K A : Type 0} (cmp : Id → Id → Ordering) (sizes : List (Id × Size)) (all : List Size) where
  -- sizes that stand among all are among all
  pub HasSizes-order : (order : List (OrderedGroup K Id A)) → All (λ o. SizesStandAt cmp sizes all o.ids.now.items o.start) order → All (HasSizes all) order
  HasSizes-order order h = All-weaker _ (HasSizes all) (λ o stand. (SizesStandAt-part cmp sizes all o.ids.now.items _ o.start _ refl refl stand).0) order h

  -- the groups of an order are those that it names
  pub AreGroups-order : (group_cmp : K → K → Ordering) (lists : List (K × List Id)) (order : List (OrderedGroup K Id A))
      → All (λ o. lookup (is_at (group_cmp o.name.now)) lists ≡ Some o.ids.now.items) order
      → All (λ o. SizesStandAt cmp sizes all o.ids.now.items o.start) order
      → AreGroups cmp group_cmp sizes lists (keys_of_order order) (map (members_of all) order)
  AreGroups-order group_cmp lists [] listed stand = record { each = tt }
  AreGroups-order group_cmp lists (o ∷ order) listed stand =
      let L : OrderedGroup K Id A → Type 0 = λ o. lookup (is_at (group_cmp o.name.now)) lists ≡ Some o.ids.now.items in
      let S : OrderedGroup K Id A → Type 0 = λ o. SizesStandAt cmp sizes all o.ids.now.items o.start in
      let here = SizesStandAt-part cmp sizes all o.ids.now.items _ o.start _ refl refl (All-head S o order stand) in
      let later = AreGroups-order group_cmp lists order (All-tail L o order listed) (All-tail S o order stand) in
      record { each = ((refl, All-head L o order listed, here.1), later.each) }

-- a group has as many sizes as ids
pub HasSizes-length : {Id K A : Type 0} (all : List Size) (o : OrderedGroup K Id A) (ids : List Id) (long : ℕ) → ids ≡ o.ids.now.items
    → long ≡ length o.ids.now.items → HasSizes all o → length ids ≡ length (slice_range all o.start (o.start + long))
HasSizes-length all o ids long same counted within =
    let cut : o.start + long - o.start ≡ long = omega arith in
    let end : long ≤ length (drop o.start all) = omega (arith, length-drop o.start all) in
    ap length same ∙ sym counted ∙ sym (ap (λ n. length (take n (drop o.start all))) cut ∙ length-take-le long (drop o.start all) end)

-- a map that is not empty has lists
pub lists-some : {K X A : Type 0} (es : List (K × Vec X A)) (b : Bool) → (IsTrue b ↔ (length es ≡ 0)) → b ≡ false → lists_of es ≡ [] → ⊥
lists-some [] b is not_so h = let so = is.1 refl in absurd cc
lists-some (e ∷ es) b is not_so h = absurd cc

-- and one that is has none
pub lists-empty : {K X A : Type 0} (es : List (K × Vec X A)) (b : Bool) → (IsTrue b ↔ (length es ≡ 0)) → b ≡ true → lists_of es ≡ []
lists-empty [] b is so = refl
lists-empty (e ∷ es) b is so = absurd (omega (arith, is.0 so))

-- without groups a packing is done, and makes no test
pub PackingDone-none : {Id B G : Type 0} (group_cmp : Group G Id → Group G Id → Ordering) (rules : Rules Id B) (all : Collection Id G)
    (old : List (B × Bin)) (placements : List (Placement Id B)) → all.groups ≡ [] → placements ≡ []
    → (done : PackingDone group_cmp rules all old placements old) × (done.tests ≡ 0)
PackingDone-none group_cmp rules all old placements none nothing = (
  record {
    group_order = [];
    bin_order = [];
    groups = [];
    by_groups = rw none
        (record { unsorted = []; each = tt; permutation = record { moves = []; below = tt; is = refl }; falling = λ k d low up. absurd (omega arith) });
    by_bins = λ some. absurd (omega arith);
    listed = record { each = tt };
    homes = [];
    tests = 0;
    placed = (nothing, refl, refl);
  },
  refl,
)

-- the last placement of each id, after one more placement, written under an id and a bin that equal its own
pub AreLastPlacements-more : {Id B : Type 0} {cmp : Id → Id → Ordering} (bin_cmp : B → B → Ordering) → IsTotalOrder cmp → (placements : List (Placement Id B))
    (p : Placement Id B) (key : Id) (bin : B) (old new : List (Id × (B × Cuboid))) → IsStrictlySortedBy cmp (keys_of new)
    → cmp p.id key ≡ Equal → bin_cmp p.bin bin ≡ Equal
    → ((id : Id) → lookup (is_at (cmp id)) new ≡ cond (is_at (cmp key) id) (Some (bin, p.location)) (lookup (is_at (cmp id)) old))
    → AreLastPlacements cmp bin_cmp placements old → AreLastPlacements cmp bin_cmp (placements ++ p ∷ []) new
AreLastPlacements-more {Id} {B} {cmp} bin_cmp o placements p key bin old new ascend same same_bin updates h =
    record {
      ascend = ascend;
      each = λ id. rw (updates id) (at id (is_eq (cmp key id)) (ap is_eq (congr_right o p.id key id same) ∙ is_at-back o id key)
          (lookup (is_at (cmp id)) old) (h.each id));
    }
  where
    at : (id : Id) (b : Bool) → is_eq (cmp id p.id) ≡ b → (found : Option (B × Cuboid))
        → MatchOption found (All (λ q. is_eq (cmp id q.id) ≡ false) placements) (IsLastOf cmp bin_cmp placements id)
        → MatchOption (cond b (Some (bin, p.location)) found) (All (λ q. is_eq (cmp id q.id) ≡ false) (placements ++ p ∷ []))
        (IsLastOf cmp bin_cmp (placements ++ p ∷ []) id)
    at id true hit found l = record {
      before = placements;
      last = p;
      after = [];
      splits = refl;
      same = (Equal-is _).0 hit;
      later = All-nil _;
      bin = same_bin;
      location = refl;
    }
    at id false miss None l = All-push (λ (q : Placement Id B). is_eq (cmp id q.id) ≡ false) placements p l miss
    at id false miss (Some x) l = record {
      before = l.before;
      last = l.last;
      after = l.after ++ p ∷ [];
      splits = ap (λ ps. ps ++ p ∷ []) l.splits ∙ append_assoc l.before (l.last ∷ l.after) (p ∷ []);
      same = l.same;
      later = All-push (λ (q : Placement Id B). is_eq (cmp id q.id) ≡ false) l.after p l.later miss;
      bin = l.bin;
      location = l.location;
    }

-- one placement for each member of a group that is placed
IsPlaced-length : {Id B : Type 0} (rules : Rules Id B) (excluded : B → Bool) (order : List B) (group : Members Id) (old : List (B × Bin))
    (placements : List (Placement Id B)) (new : List (B × Bin)) (tests : ℕ) → IsPlaced rules excluded order group old placements new tests
    → length placements ≡ length group.sizes
IsPlaced-length {Id} {B} rules excluded order group old placements new tests placed =
    sym (length-map placements (λ (p : Placement Id B). p.location)) ∙ ap length placed.named.at
    ∙ sym (IsDone-length rules.may placed.bin.sections group.sizes placed.locations placed.last placed.count placed.done)

-- so one for each member, where all are placed
pub AreAllPlaced-length : {Id B K : Type 0} (rules : Rules Id B) (excludes : List (K × B) → K → B → Bool) (order : List B) (gs : List (K × Members Id))
    (old new : Stage K B) (placements : List (Placement Id B)) (tests : ℕ)
    → AreAllPlaced rules excludes order gs old placements new tests → length placements ≡ members_in gs
AreAllPlaced-length rules excludes order [] old new placements tests h = rw h.0 refl
AreAllPlaced-length {Id} {B} {K} rules excludes order (g ∷ gs) old new placements tests (first, next, one, rest, others, placed, later, joined, counted) =
    let here = IsPlaced-length rules (excludes old.homes g.0) order g.1 old.bins first next one placed in
    let tail = AreAllPlaced-length rules excludes order gs (record { bins = next; homes = (g.0, placed.here) ∷ old.homes }) new rest others later in
    omega (arith, ap length joined, length-append first rest, here, tail, sum_by-cons (λ (m : K × Members Id). length m.1.sizes) g gs)

-- and where groups may be left, no more
pub AreTaken-length : {Id B K : Type 0} (rules : Rules Id B) (excludes : List (K × B) → K → B → Bool) (order : List B) (gs : List (K × Members Id))
    (old new : Stage K B) (placements : List (Placement Id B)) (left : List K) (tests : ℕ)
    → AreTaken rules excludes order gs old placements left new tests → length placements ≤ members_in gs
AreTaken-length rules excludes order [] old new placements left tests h = omega (arith, ap length h.0)
AreTaken-length {Id} {B} {K} rules excludes order (g ∷ gs) old new placements left tests
    (inl (first, next, one, rest, others, placed, later, joined, counted)) =
    let here = IsPlaced-length rules (excludes old.homes g.0) order g.1 old.bins first next one placed in
    let tail = AreTaken-length rules excludes order gs (record { bins = next; homes = (g.0, placed.here) ∷ old.homes }) new rest left others later in
    omega (arith, ap length joined, length-append first rest, here, tail, sum_by-cons (λ (m : K × Members Id). length m.1.sizes) g gs)
AreTaken-length {Id} {B} {K} rules excludes order (g ∷ gs) old new placements left tests (inr (one, rest, others, refused, later, named, counted)) =
    let tail = AreTaken-length rules excludes order gs old new placements rest others later in
    omega (arith, tail, sum_by-cons (λ (m : K × Members Id). length m.1.sizes) g gs)

-- the entries that an order names are those of its groups
pub AreGroups-length : {Id K : Type 0} (cmp : Id → Id → Ordering) (group_cmp : K → K → Ordering) (sizes : List (Id × Size)) (lists : List (K × List Id))
    (order : List (ℕ × K)) (gs : List (K × Members Id))
    → AreGroups cmp group_cmp sizes lists order gs → sum_by (entries_at group_cmp lists) order ≡ members_in gs
AreGroups-length {Id} {K} cmp group_cmp sizes lists order gs h =
    let size : K × Members Id → ℕ = λ (g : K × Members Id). length g.1.sizes in
    let same : map size gs ≡ map (entries_at group_cmp lists) order = AllZip-equal _ (entries_at group_cmp lists) size
    (λ o g r. rw r.1 (sym (length-zip _ g.1.ids g.1.sizes r.2))) order gs h.each in
    sym (sum-map (entries_at group_cmp lists) order) ∙ ap sum (sym same) ∙ sum-map size gs
