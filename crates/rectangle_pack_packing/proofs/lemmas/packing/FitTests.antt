-- How many fit tests a packing makes at most.
use Rattle.rectangle_pack_sections.proofs.Std.{◌≡◌, ℕ, zero, suc, ◌+◌, ◌-◌, ◌*◌, ◌≤◌, Bool, true, false, cond, List, [], ◌∷◌, ◌++◌}
use Rattle.rectangle_pack_sections.proofs.Std.{append-nil, length, refl, sym, ◌∙◌, ap, arith, length-append, Option, Some, None}
use Rattle.rectangle_pack_sections.proofs.Std.{IsSomeAnd, MatchBool, map, sum, unwrap_or, Ordering, Equal, length-map, IsTotalOrder, Equal-is, is_eq, eq_by_cmp}
use Rattle.rectangle_pack_sections.proofs.Std.{option_map, AllZip, sum_by, IsDistinct, AllByRecursion, lookup, keys_of, is_at, mul-le-mul_left, sum_by-cons}
use Rattle.rectangle_pack_sections.proofs.Std.{sum_by-append, IsDistinct-head, IsDistinct-tail, sum_by-IsPermutation, IsPermutation-map, length_permutation}
use Rattle.rectangle_pack_sections.proofs.Std.{IsDistinct-cons, IsDistinct-IsPermutation, append_assoc, tied_itself, All-weaker, sum_by_push, All, All-head}
use Rattle.rectangle_pack_sections.proofs.Std.{All-tail}
use Rattle.rectangle_pack_packing.proofs.lemmas.packing.Groups.{AreGroups-length}
use Rattle.rectangle_pack_packing.specs.declared.answer.Placement.{Placement}
use Rattle.rectangle_pack_sections.specs.Boxes.{Size, Cuboid}
use Rattle.rectangle_pack_sections.specs.Bins.{Bin}
use Rattle.rectangle_pack_lists.specs.Steps.{IsDone, IsStuck}
use Rattle.rectangle_pack_packing.specs.Packing.{Rules, Members, Stage, at_start, excludes_by, DoesNotTake, IsPlaced, IsRefused, AreGroups, AreAllPlaced}
use Rattle.rectangle_pack_packing.specs.Packing.{StopsAfter}
use Rattle.rectangle_pack_sections.specs.Groups.{Collection, entries_of}
use Rattle.rectangle_pack_packing.specs.Orders.{IsBinOrder}
use Rattle.rectangle_pack_lists.specs.Numbers.{saturated}
use Rattle.rectangle_pack_packing.specs.PackAnswers.{sections_in, AreCounted}
use Rattle.rectangle_pack_packing.specs.private.Bounds.{free_sections_at, free_sections_of, AreWithin}
use Rattle.rectangle_pack_packing.specs.private.Orders.{entries_at, members_in}
use Rattle.rectangle_pack_sections.specs.declared.group.Group.{Group}
use Rattle.rectangle_pack_sections.proofs.lemmas.groups.Excluded.{is_at-equal}
use Rattle.rectangle_pack_sections.proofs.lemmas.util.Maps.{lookup-equal, is_at-back, congr_right}
use Rattle.rectangle_pack_sections.proofs.lemmas.util.Zips.{length-zip, AllZip-weaker}
use Rattle.rectangle_pack_packing.proofs.lemmas.packing.Placed.{lookup-placed}
use Rattle.rectangle_pack_packing.proofs.lemmas.packing.Orders.{AllZip-more, IsDistinct-apart}
use Rattle.rectangle_pack_lists.proofs.lemmas.trial.FitTests.{square, done-le, stuck-le, grown-le}

-- functions that agree on the elements have the same sum
sum_by-same : {X : Type 0} (f g : X → ℕ) (xs : List X) → All (λ x. f x ≡ g x) xs → sum_by f xs ≡ sum_by g xs
sum_by-same f g [] h = refl
sum_by-same f g (x ∷ xs) h =
    let rest = sum_by-same f g xs (All-tail (λ x. f x ≡ g x) x xs h) in
    omega (arith, All-head (λ x. f x ≡ g x) x xs h, rest, sum_by-cons f x xs, sum_by-cons g x xs)

-- of more entries than were tried there are as few tests
AreWithin-more : {B : Type 0} (bin_cmp : B → B → Ordering) (bins : List (B × Bin)) (order : List B) (some all n : ℕ) → some ≤ all
    → AreWithin bin_cmp bins order some n → AreWithin bin_cmp bins order all n
AreWithin-more bin_cmp bins order some all n le h =
    let e : all ≡ some + (all - some) = omega arith in
    record { most = rw e (by (length order) (free_sections_of bin_cmp bins order) some (all - some) n h.most) }
  where
    by : (k f e d n : ℕ) → n + k * e ≤ e * f + k * (e * e) → n + k * (e + d) ≤ (e + d) * f + k * ((e + d) * (e + d))
    by k f e d n h = omega (arith, h, mul-le-mul_left k (square d))

module _ {Id B : Type 0} (rules : Rules Id B) (o : IsTotalOrder rules.bin_cmp) where
  -- n tests in the bin of this id are no more than m members may make there
  abbrev IsShare : ℕ → List (B × Bin) → B → ℕ → Type 0
  IsShare m bins id n = n + m ≤ m * free_sections_at rules.bin_cmp bins id + m * m

  passed-le : (excluded : B → Bool) (g : Members Id) (bins : List (B × Bin)) (id : B) (n : ℕ) → DoesNotTake rules excluded bins g id n
      → IsShare (length g.sizes) bins id n
  passed-le excluded g bins id n h = at (excluded id) (lookup (is_at (rules.bin_cmp id)) bins) h
    where
      at : (b : Bool) (found : Option Bin) → MatchBool b (n ≡ 0) (IsSomeAnd found (λ (bin : Bin). IsStuck rules.may bin.sections g.sizes n))
          → n + length g.sizes ≤ length g.sizes * unwrap_or (option_map (λ (b : Bin). length b.sections) found) 0 + length g.sizes * length g.sizes
      at true found none = omega (arith, none, square (length g.sizes))
      at false None h = absurd h
      at false (Some bin) h = stuck-le rules.may bin.sections g.sizes n h

  -- so are the tests in a beginning of an order
  shares-le : (m : ℕ) (bins : List (B × Bin)) (before later : List B) (counts : List ℕ) → AllZip (IsShare m bins) before counts
      → AreWithin rules.bin_cmp bins (before ++ later) m (sum counts)
  shares-le m bins [] later [] h = record { most = omega (arith, mul-le-mul_left (length later) (square m)) }
  shares-le m bins [] later (n ∷ counts) h = absurd h
  shares-le m bins (id ∷ before) later [] h = absurd h
  shares-le m bins (id ∷ before) later (n ∷ counts) h =
      let rest = shares-le m bins before later counts h.1 in
      let free = ap (λ k. m * k) (sum_by-cons (free_sections_at rules.bin_cmp bins) id (before ++ later)) in
      record { most = omega (arith, h.0, rest.most, free, sum_by-cons (λ k. k) n counts) }

  module _ (excluded : B → Bool) (g : Members Id) (bins : List (B × Bin)) (before : List B) (counts : List ℕ)
      (passed : AllZip (DoesNotTake rules excluded bins g) before counts) where
    shares : AllZip (IsShare (length g.sizes) bins) before counts
    shares = AllZip-weaker _ _ (passed-le excluded g bins) before counts passed

    -- a group that was tried in a beginning of an order
    begun-le : (order later : List B) → order ≡ before ++ later → AreWithin rules.bin_cmp bins order (length g.sizes) (sum counts)
    begun-le order later splits = rw splits (shares-le (length g.sizes) bins before later counts shares)

    -- and whose trial is done in the bin after it
    tried-le : (order : List B) (here : B) (after : List B) (bin : Bin) (ls last : List Cuboid) (count : ℕ) → order ≡ before ++ here ∷ after
        → lookup (is_at (rules.bin_cmp here)) bins ≡ Some bin → IsDone rules.may bin.sections g.sizes ls last count
        → AreWithin rules.bin_cmp bins order (length g.sizes) (sum counts + count)
    tried-le order here after bin ls last count splits found done =
        let m = length g.sizes in
        let share : IsShare m bins here count = rw found (done-le rules.may bin.sections g.sizes ls last count done) in
        rw (splits, ← append_assoc before (here ∷ []) after, ← sum_by_push (λ k. k) counts count)
        (shares-le m bins (before ++ here ∷ []) after (counts ++ count ∷ []) (AllZip-more (IsShare m bins) before counts here count shares share))

  -- so a group that is placed
  placed-le : (excluded : B → Bool) (order : List B) (g : Members Id) (old : List (B × Bin)) (ps : List (Placement Id B)) (new : List (B × Bin)) (n : ℕ)
      → IsPlaced rules excluded order g old ps new n → AreWithin rules.bin_cmp old order (length g.sizes) n
  placed-le excluded order g old ps new n p = rw p.tests_are
      (tried-le excluded g old p.before p.counts p.passed order p.here p.after p.bin p.locations p.last p.count p.order_is p.found p.done)

  -- and one that is refused
  refused-le : (excluded : B → Bool) (order : List B) (g : Members Id) (bins : List (B × Bin)) (n : ℕ) → IsRefused rules excluded order g bins n
      → AreWithin rules.bin_cmp bins order (length g.sizes) n
  refused-le excluded order g bins n r = rw r.tests_are (begun-le excluded g bins order r.counts r.passed order [] (sym (append-nil order)))

  -- what one element of a list gains
  gained : (f h : B → ℕ) (here : B) (extra : ℕ) (order : List B) → IsDistinct (eq_by_cmp rules.bin_cmp) order
      → ((id : B) → is_at (rules.bin_cmp here) id ≡ true → h id ≤ f id + extra) → ((id : B) → is_at (rules.bin_cmp here) id ≡ false → h id ≡ f id)
      → sum_by h order ≤ sum_by f order + extra
  gained f h here extra [] d at off = omega arith
  gained f h here extra (x ∷ xs) d at off =
      by (is_at (rules.bin_cmp here) x) refl (gained f h here extra xs (IsDistinct-tail (eq_by_cmp rules.bin_cmp) x xs d) at off)
    where
      others : is_at (rules.bin_cmp here) x ≡ true → sum_by h xs ≡ sum_by f xs
      others e = sum_by-same h f xs (All-weaker _ (λ y. h y ≡ f y) (λ y apart. off y (is_at-equal o here x y ((Equal-is _).0 e) ∙ apart)) xs
          (IsDistinct-apart (eq_by_cmp rules.bin_cmp) x xs d))

      by : (b : Bool) → is_at (rules.bin_cmp here) x ≡ b → sum_by h xs ≤ sum_by f xs + extra → sum_by h (x ∷ xs) ≤ sum_by f (x ∷ xs) + extra
      by true e rest = omega (arith, at x e, others e, sum_by-cons h x xs, sum_by-cons f x xs)
      by false e rest = omega (arith, off x e, rest, sum_by-cons h x xs, sum_by-cons f x xs)

  -- the bins have at most two free sections more for each member
  placed-grown : (excluded : B → Bool) (order : List B) (g : Members Id) (old : List (B × Bin)) (ps : List (Placement Id B)) (new : List (B × Bin)) (n : ℕ)
      → IsDistinct (eq_by_cmp rules.bin_cmp) order → IsPlaced rules excluded order g old ps new n
      → free_sections_of rules.bin_cmp new order ≤ free_sections_of rules.bin_cmp old order + 2 * length g.sizes
  placed-grown excluded order g old ps new n d p = gained (free_sections_at rules.bin_cmp old) (free_sections_at rules.bin_cmp new) p.here
      (2 * length g.sizes) order d at off
    where
      seen : (b : Bool) (id : B) → is_at (rules.bin_cmp p.here) id ≡ b → free_sections_at rules.bin_cmp new id
          ≡ cond b (length p.last) (free_sections_at rules.bin_cmp old id)
      seen b id e = rw (lookup-placed rules o excluded order g old ps new n p id, e) (by b)
        where
          by : (b : Bool) → unwrap_or (option_map (λ (b : Bin). length b.sections) (cond b (Some (record p.bin { sections = p.last }))
              (lookup (is_at (rules.bin_cmp id)) old))) 0 ≡ cond b (length p.last) (free_sections_at rules.bin_cmp old id)
          by true = refl
          by false = refl

      at : (id : B) → is_at (rules.bin_cmp p.here) id ≡ true
          → free_sections_at rules.bin_cmp new id ≤ free_sections_at rules.bin_cmp old id + 2 * length g.sizes
      at id e =
          let was : free_sections_at rules.bin_cmp old id ≡ length p.bin.sections =
          rw (← lookup-equal o p.here id ((Equal-is _).0 e) old, p.found) refl in
          omega (arith, seen true id e, was, grown-le rules.may p.bin.sections g.sizes p.locations p.last p.count p.done)

      off : (id : B) → is_at (rules.bin_cmp p.here) id ≡ false → free_sections_at rules.bin_cmp new id ≡ free_sections_at rules.bin_cmp old id
      off = seen false

  module _ {K : Type 0} (excludes : List (K × B) → K → B → Bool) where
    -- n tests are no more than e members may make for f sections in k bins, and f' sections no more than they leave
    record Bounded (k f f' e n : ℕ) : Type 0 where
      pub tests : n + k * e ≤ e * f + k * (e * e)
      pub grown : f' ≤ f + 2 * e
      pub some : e ≤ k * e

    -- and those of more members
    joined-le : (k f f' e m n1 n2 : ℕ) → Bounded k f f' e n1 → n2 + k * m ≤ m * f' + k * (m * m)
        → (n1 + n2) + k * (e + m) ≤ (e + m) * f + k * ((e + m) * (e + m))
    joined-le k f f' e m n1 n2 b last =
        let more : m * f' ≤ m * (f + 2 * e) = mul-le-mul_left m b.grown in
        let some : m * e ≤ m * (k * e) = mul-le-mul_left m b.some in
        omega (arith, b.tests, last, more, some)

    all-le : (order : List B) (gs : List (K × Members Id)) (old : Stage K B) (ps : List (Placement Id B)) (new : Stage K B) (n : ℕ)
        → IsDistinct (eq_by_cmp rules.bin_cmp) order → AreAllPlaced rules excludes order gs old ps new n
        → Bounded (length order) (free_sections_of rules.bin_cmp old.bins order) (free_sections_of rules.bin_cmp new.bins order) (members_in gs) n
    all-le order [] old ps new n d h =
        let e = ap (λ (s : Stage K B). free_sections_of rules.bin_cmp s.bins order) h.1 in
        let z = h.2 in
        record { tests = omega arith; grown = omega arith; some = omega arith }
    all-le order (g ∷ gs) old ps new n d (first, next, one, rest, others, placed, later, joined, counted) =
        let m = length g.1.sizes in
        let tail = all-le order gs (record { bins = next; homes = (g.0, placed.here) ∷ old.homes }) rest new others d later in
        let long : 1 ≤ length order = omega (arith, ap length placed.order_is, length-append placed.before (placed.here ∷ placed.after)) in
        let head : Bounded (length order) (free_sections_of rules.bin_cmp old.bins order) (free_sections_of rules.bin_cmp next order) m one = record {
          tests = (placed-le (excludes old.homes g.0) order g.1 old.bins first next one placed).most;
          grown = placed-grown (excludes old.homes g.0) order g.1 old.bins first next one d placed;
          some = omega (arith, mul-le-mul_left m long);
        } in
        rw (counted, sum_by-cons (λ (g : K × Members Id). length g.1.sizes) g gs) (record {
          tests = joined-le (length order) _ _ m (members_in gs) one others head tail.tests;
          grown = omega (arith, head.grown, tail.grown);
          some = omega (arith, head.some, tail.some);
        })

    module _ (order : List B) (gs : List (K × Members Id)) (old : Stage K B) (ps : List (Placement Id B)) (new : Stage K B) (n : ℕ)
        (d : IsDistinct (eq_by_cmp rules.bin_cmp) order) (placed : AreAllPlaced rules excludes order gs old ps new n) where
      -- groups that are placed
      all-within : AreWithin rules.bin_cmp old.bins order (members_in gs) n
      all-within = record { most = (all-le order gs old ps new n d placed).tests }

      -- and the tests of one more group
      more-within : (g : K × Members Id) (one : ℕ) → AreWithin rules.bin_cmp new.bins order (length g.1.sizes) one
          → AreWithin rules.bin_cmp old.bins order (members_in (gs ++ g ∷ [])) (n + one)
      more-within g one last = rw (sum_by_push (λ (m : K × Members Id). length m.1.sizes) gs g)
          (record { most = joined-le (length order) _ _ (members_in gs) (length g.1.sizes) n one (all-le order gs old ps new n d placed) last.most })

    module _ (group_cmp : K → K → Ordering) (sizes : List (Id × Size)) (lists : List (K × List Id)) where
      -- some groups of an order have no more members than the order's lists
      listed-within : (bins : List (B × Bin)) (names : List B) (order : List (ℕ × K)) (gs some later : List (K × Members Id)) (n : ℕ) → gs ≡ some ++ later
          → AreGroups rules.id_cmp group_cmp sizes lists order gs → AreWithin rules.bin_cmp bins names (members_in some) n
          → AreWithin rules.bin_cmp bins names (sum_by (entries_at group_cmp lists) order) n
      listed-within bins names order gs some later n splits listed h =
          let own = AreGroups-length rules.id_cmp group_cmp sizes lists order gs listed in
          let all = sum_by-append (λ (g : K × Members Id). length g.1.sizes) some later in
          AreWithin-more rules.bin_cmp bins names (members_in some) _ n (omega (arith, own, all, ap members_in splits)) h

  -- these names equal the keys of a map, one after another
  abbrev AreNames : List (B × Bin) → List (ℕ × B) → Type 0
  AreNames es us = AllZip (λ e u. (rules.bin_cmp e.0 u.1 ≡ Equal) × rules.may.rate e.1.size u.0) es us

  -- and name the same bins
  names-free : (bins es : List (B × Bin)) (us : List (ℕ × B)) → AreNames es us
      → free_sections_of rules.bin_cmp bins (map (λ u. u.1) us) ≡ free_sections_of rules.bin_cmp bins (keys_of es)
  names-free bins [] [] h = refl
  names-free bins [] (u ∷ us) h = absurd h
  names-free bins (e ∷ es) [] h = absurd h
  names-free bins (e ∷ es) (u ∷ us) h =
      let f : B → ℕ = free_sections_at rules.bin_cmp bins in
      let one : f u.1 ≡ f e.0 = rw (lookup-equal o e.0 u.1 h.0.0 bins) refl in
      omega (arith, one, names-free bins es us h.1, sum_by-cons f u.1 (map (λ (u : ℕ × B). u.1) us), sum_by-cons f e.0 (keys_of es))

  -- each bin of a map, once
  each-once : (es : List (B × Bin)) → IsDistinct (eq_by_cmp rules.bin_cmp) (keys_of es) → free_sections_of rules.bin_cmp es (keys_of es) ≡ sections_in es
  each-once [] d = refl
  each-once (e ∷ es) d =
      let f : B → ℕ = free_sections_at rules.bin_cmp es in
      let g : B → ℕ = free_sections_at rules.bin_cmp (e ∷ es) in
      let one : g e.0 ≡ length e.1.sections = rw (tied_itself o e.0) refl in
      let others : sum_by g (keys_of es) ≡ sum_by f (keys_of es) = sum_by-same g f (keys_of es)
      (All-weaker (λ y. is_at (rules.bin_cmp e.0) y ≡ false) (λ y. g y ≡ f y) (λ y apart. rw (is_at-back o y e.0, apart) refl) (keys_of es)
      (IsDistinct-apart (eq_by_cmp rules.bin_cmp) e.0 (keys_of es) d)) in
      omega (
        arith,
        one,
        others,
        each-once es (IsDistinct-tail (eq_by_cmp rules.bin_cmp) e.0 (keys_of es) d),
        sum_by-cons g e.0 (keys_of es),
        sum_by-cons (λ (e : B × Bin). length e.1.sections) e es,
      )

  -- names that equal keys that differ
  names-differ : (es : List (B × Bin)) (us : List (ℕ × B)) → IsDistinct (eq_by_cmp rules.bin_cmp) (keys_of es) → AreNames es us
      → IsDistinct (eq_by_cmp rules.bin_cmp) (map (λ u. u.1) us)
  names-differ [] [] d h = d
  names-differ [] (u ∷ us) d h = absurd h
  names-differ (e ∷ es) [] d h = absurd h
  names-differ (e ∷ es) (u ∷ us) d h =
      IsDistinct-cons (eq_by_cmp rules.bin_cmp) u.1 _ (apart es us (IsDistinct-head (eq_by_cmp rules.bin_cmp) e.0 (keys_of es) d) h.1)
      (names-differ es us (IsDistinct-tail (eq_by_cmp rules.bin_cmp) e.0 (keys_of es) d) h.1)
    where
      apart : (es : List (B × Bin)) (us : List (ℕ × B)) → AllByRecursion (λ y. eq_by_cmp rules.bin_cmp e.0 y ≡ false) (keys_of es) → AreNames es us
          → AllByRecursion (λ y. eq_by_cmp rules.bin_cmp u.1 y ≡ false) (map (λ (u : ℕ × B). u.1) us)
      apart [] [] a h = tt
      apart [] (v ∷ us) a h = absurd h
      apart (f ∷ es) [] a h = absurd h
      apart (f ∷ es) (v ∷ us) a h' =
          (ap is_eq (sym (o.congr e.0 u.1 v.1 h.0.0) ∙ sym (congr_right o f.0 v.1 e.0 h'.0.0)) ∙ a.0, apart es us a.1 h'.1)

  record Ordered (bins : List (B × Bin)) (order : List B) : Type 0 where
    pub free : free_sections_of rules.bin_cmp bins order ≡ sections_in bins
    pub long : length order ≡ length bins
    pub distinct : IsDistinct (eq_by_cmp rules.bin_cmp) order

  ordered-from : (bins : List (B × Bin)) (order : List (ℕ × B)) → IsDistinct (eq_by_cmp rules.bin_cmp) (keys_of bins)
      → IsBinOrder rules.may.rate rules.bin_cmp bins order → Ordered bins (map (λ (u : ℕ × B). u.1) order)
  ordered-from bins order d p =
      let name : ℕ × B → B = λ (u : ℕ × B). u.1 in
      let moved = IsPermutation-map name p.unsorted order p.permutation in
      record {
        free = sum_by-IsPermutation (free_sections_at rules.bin_cmp bins) (map name p.unsorted) (map name order) moved
            ∙ names-free bins bins p.unsorted p.each ∙ each-once bins d;
        long = length-map order name ∙ length_permutation p.unsorted order p.permutation ∙ sym (length-zip _ bins p.unsorted p.each);
        distinct = IsDistinct-IsPermutation (eq_by_cmp rules.bin_cmp) (λ x y. is_at-back o x y) (map name p.unsorted) (map name order) moved
            (names-differ bins p.unsorted d p.each);
      }

  -- no bin is named twice in an order of a map
  pub order-differs : (bins : List (B × Bin)) (order : List (ℕ × B)) → IsDistinct (eq_by_cmp rules.bin_cmp) (keys_of bins)
      → IsBinOrder rules.may.rate rules.bin_cmp bins order
      → IsDistinct (eq_by_cmp rules.bin_cmp) (map (λ (u : ℕ × B). u.1) order)
  order-differs bins order d p = (ordered-from bins order d p).distinct

-- a count that began at none, added to another
pub AreCounted-added : {Id B G : Type 0} (all : Collection Id G) (old : List (B × Bin)) (tests made before after : ℕ)
    → AreCounted all old tests 0 made → after ≡ saturated (before + made) → AreCounted all old tests before after
AreCounted-added all old tests made before after h added = record { most = h.most; added = omega (arith, h.added, added) }

-- where no test was made
pub counted-none : {Id B G : Type 0} (all : Collection Id G) (old : List (B × Bin)) (before : ℕ) → before ≡ saturated (before + 0)
    → (tests : ℕ) × AreCounted all old tests before before
counted-none all old before small = (0, record { most = omega arith; added = small })

module _ {Id B G : Type 0} (group_cmp : Group G Id → Group G Id → Ordering) (rules : Rules Id B) (o : IsTotalOrder rules.bin_cmp) (all : Collection Id G)
    (old : List (B × Bin)) (d : IsDistinct (eq_by_cmp rules.bin_cmp) (keys_of old)) (group_order : List (ℕ × Group G Id))
    (entries : sum_by (entries_at group_cmp all.groups) group_order ≡ entries_of all) (order : List (ℕ × B))
    (by_bins : IsBinOrder rules.may.rate rules.bin_cmp old order) (n before after : ℕ) where
  abbrev names : List B
  names = map (λ (u : ℕ × B). u.1) order

  -- as many tests as the entries of a collection may make
  counted-within : AreWithin rules.bin_cmp old names (sum_by (entries_at group_cmp all.groups) group_order) n → after ≡ saturated (before + n)
      → AreCounted all old n before after
  counted-within h added =
      let b = ordered-from rules o old order d by_bins in
      record { most = by (entries_of all) n (length old) (sections_in old) (rw (← b.free, ← b.long, ← entries) h.most); added = added }
    where
      by : (e n k f : ℕ) → n + k * e ≤ e * f + k * (e * e) → n ≤ e * f + k * (e * (e - 1))
      by zero n k f h = omega arith
      by (suc e) n k f h = let z : suc e - 1 ≡ e = omega arith in rw z (omega arith)

  -- a packing that is done
  pub counted-done : (gs : List (Group G Id × Members Id)) (placements : List (Placement Id B)) (new : Stage (Group G Id) B)
      → AreGroups rules.id_cmp group_cmp all.sizes all.groups group_order gs
      → AreAllPlaced rules (excludes_by group_cmp rules.bin_cmp all.partners) names gs (at_start old) placements new n
      → after ≡ saturated (before + n) → AreCounted all old n before after
  counted-done gs placements new listed placed = counted-within
      (listed-within rules o (excludes_by group_cmp rules.bin_cmp all.partners) group_cmp all.sizes all.groups old names group_order gs gs [] n
      (sym (append-nil gs)) listed
      (all-within rules o (excludes_by group_cmp rules.bin_cmp all.partners) names gs (at_start old) placements new n
      (ordered-from rules o old order d by_bins).distinct placed))

  -- and one that is refused
  pub counted-refused : (gs : List (Group G Id × Members Id)) (new : List (B × Bin))
      → AreGroups rules.id_cmp group_cmp all.sizes all.groups group_order gs
      → StopsAfter rules (excludes_by group_cmp rules.bin_cmp all.partners) names gs old new n
      → after ≡ saturated (before + n) → AreCounted all old n before after
  counted-refused gs new listed s =
      let excludes = excludes_by group_cmp rules.bin_cmp all.partners in
      let last = refused-le rules o (excludes s.homes s.next.0) names s.next.1 new s.count s.refused in
      counted-within (rw s.tests_are
      (listed-within rules o excludes group_cmp all.sizes all.groups old names group_order gs (s.beginning ++ s.next ∷ []) s.later _
      (s.groups_are ∙ sym (append_assoc s.beginning (s.next ∷ []) s.later)) listed
      (more-within rules o excludes names s.beginning (at_start old) s.placements (record { bins = new; homes = s.homes }) s.first
      (ordered-from rules o old order d by_bins).distinct s.placed s.next s.count last)))
