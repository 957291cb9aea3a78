-- Which bins are excluded, by the homes that are kept.
use Rattle.rectangle_pack_sections.proofs.Std.{◌≡◌, ◌↔◌, ℕ, suc, zero, ◌+◌, ◌-◌, ◌<◌, Bool, true, false, cond, ◌&&◌, ◌||◌, List, [], ◌∷◌, ◌++◌, length, take}
use Rattle.rectangle_pack_sections.proofs.Std.{get_or, refl, sym, ◌∙◌, ap, subst, arith, Some, All, AllPairs, map, reverse, Ordering, Equal, Bor}
use Rattle.rectangle_pack_sections.proofs.Std.{eq_by_cmp, IsTotalOrder, Equal-is, list_any, IsDistinct, lookup, is_at, unwrap_or, option_map, All-nil, All-cons, All-head, All-tail}
use Rattle.rectangle_pack_sections.proofs.Std.{All-weaker, get_or-map, get_or-reverse, length-map, length-reverse, IsDistinct-tail, fun_ext}
use Rattle.rectangle_pack_sections.proofs.Std.{AllPairs-cons, or_comm, or-false, and-or_distrib_right, take-map, list_any_none, or-true}
use Rattle.rectangle_pack_packing.specs.declared.order.OrderedGroup.{OrderedGroup}
use Rattle.rectangle_pack_packing.specs.declared.answer.Placement.{Placement}
use Rattle.rectangle_pack_sections.specs.Groups.{Collection}
use Rattle.rectangle_pack_sections.specs.Exclusions.{listed_at, is_listed, are_excluded}
use Rattle.rectangle_pack_sections.specs.private.Exclusions.{AreMutual}
use Rattle.rectangle_pack_packing.specs.private.Excluded.{are_in, went_to, bars, KeptHomes, IsHomeKept}
use Rattle.rectangle_pack_packing.specs.Packing.{Rules, AreKeptApart, excludes_by, excludes_none, Members, Stage, AreAllPlaced, PackingDone, PackingDoneBy}
use Rattle.rectangle_pack_packing.specs.Packing.{PackingRefused, PackingRefusedBy}
use Rattle.rectangle_pack_sections.specs.Bins.{Bin}
use Rattle.rectangle_pack_sections.specs.declared.group.Group.{Group}
use Rattle.rectangle_pack_sections.proofs.lemmas.util.Lists.{All-front, All-middle}
use Rattle.rectangle_pack_sections.proofs.lemmas.util.Searches.{none_pass}
use Rattle.rectangle_pack_sections.proofs.lemmas.util.Maps.{is_at-back}
use Rattle.rectangle_pack_sections.proofs.lemmas.groups.Excluded.{list_any-alike, is_at-equal, excluded-listed}
use Rattle.rectangle_pack_packing.proofs.lemmas.packing.Orders.{map-take_more, IsDistinct-apart}

-- tests that agree on the elements find the same
list_any-on : {X : Type 0} (p q : X → Bool) (xs : List X) → All (λ x. p x ≡ q x) xs → list_any p xs ≡ list_any q xs
list_any-on p q [] h = refl
list_any-on p q (x ∷ xs) h = rw (All-head (λ x. p x ≡ q x) x xs h, list_any-on p q xs (All-tail (λ x. p x ≡ q x) x xs h)) refl

or-swap : (a b c d : Bool) → ((a || b) || (c || d)) ≡ ((a || c) || (b || d))
or-swap true b c d = refl
or-swap false true true d = refl
or-swap false true false d = refl
or-swap false false c d = refl

list_any-or : {X : Type 0} (p q : X → Bool) (xs : List X) → list_any (λ x. p x || q x) xs ≡ (list_any p xs || list_any q xs)
list_any-or p q [] = refl
list_any-or p q (x ∷ xs) = rw (list_any-or p q xs) (or-swap (p x) (q x) (list_any p xs) (list_any q xs))

list_any-and : {X : Type 0} (p : X → Bool) (c : Bool) (xs : List X) → list_any (λ x. p x && c) xs ≡ (list_any p xs && c)
list_any-and p c [] = refl
list_any-and p c (x ∷ xs) = rw (list_any-and p c xs) (sym (and-or_distrib_right (p x) (list_any p xs) c))

-- a list that differs from its later elements differs at an element from those before it
pub distinct-before : {K : Type 0} (e : K → K → Bool) (xs : List K) (i : ℕ) (x : K) → IsDistinct e xs → i < length xs → x ≡ get_or xs i x
    → All (λ y. e y x ≡ false) (take i xs)
distinct-before e [] i x h within is = absurd (omega arith)
distinct-before e (y ∷ ys) zero x h within is = All-nil _
distinct-before e (y ∷ ys) (suc i) x h within is =
    let later : i < length ys = omega arith in
    let apart : e y x ≡ false = rw is (IsDistinct-apart e y ys h i x later) in
    All-cons (λ z. e z x ≡ false) y (take i ys) apart (distinct-before e ys i x (IsDistinct-tail e y ys h) later is)

-- one more bin
pub excluded-more : {B : Type 0} {bin_cmp : B → B → Ordering} → IsTotalOrder bin_cmp → (old new : List (Bor B)) (bin : Bor B) (found now : Bool) (id : B)
    → are_in bin_cmp new id ≡ cond (is_at (bin_cmp bin.now) id) true (are_in bin_cmp old id) → are_in bin_cmp old id ≡ found → now ≡ is_at (bin_cmp id) bin.now
    → are_in bin_cmp new id ≡ (found || now)
excluded-more {B} {bin_cmp} o old new bin found now id updates was is =
    updates ∙ rw (was, is, is_at-back o bin.now id) (by (is_at (bin_cmp id) bin.now))
  where
    by : (b : Bool) → cond b true found ≡ (found || b)
    by true = sym (or-true found)
    by false = sym (or-false found)

-- a list without elements
none_long : {X : Type 0} (xs : List X) → length xs ≡ 0 → xs ≡ []
none_long [] none = refl
none_long (x ∷ xs) none = absurd (omega (arith, none))

module _ {K B : Type 0} (cmp : K → K → Ordering) (bin_cmp : B → B → Ordering) (o : IsTotalOrder cmp) where
  -- the home of a group without partners need not be kept
  pub IsHomeKept-alone : (homes : KeptHomes K B) (group : K) (here : B) → AreMutual cmp homes.partners → length (listed_at cmp homes.partners group) ≡ 0
      → IsHomeKept cmp bin_cmp homes group here homes
  IsHomeKept-alone homes group here m none = record {
    partners = refl;
    barred = λ q id. rw (apart q) refl;
    others = λ q apart id. refl;
  }
    where
      apart : (q : K) → are_excluded cmp homes.partners q group ≡ false
      apart q = excluded-listed o homes.partners m q group ∙ m q group ∙ ap (λ xs. list_any (is_at (cmp q)) xs) (none_long _ none)

  -- that of another group is, where it had none
  pub IsHomeKept-kept : (partners : List (K × List K)) (group : K) (here : Bor B) (old new : List (Bor K × Bor B)) → AreMutual cmp partners
      → ((q : K) → lookup (λ k. is_at (cmp q) k.now) new ≡ cond (is_at (cmp group) q) (Some here) (lookup (λ k. is_at (cmp q) k.now) old))
      → ((id : B) → went_to cmp bin_cmp old group id ≡ false)
      → IsHomeKept cmp bin_cmp (record { partners = partners; bins = old }) group here.now (record { partners = partners; bins = new })
  IsHomeKept-kept partners group here old new m updates fresh =
      record { partners = refl; barred = barred; others = λ q apart id. rw (updates q, apart) refl }
    where
      more : (p : K) (id : B) (b : Bool) → is_at (cmp p) group ≡ b
          → went_to cmp bin_cmp new p id ≡ ((b && is_at (bin_cmp id) here.now) || went_to cmp bin_cmp old p id)
      more p id true e =
          let tests : (λ (k : Bor K). is_at (cmp p) k.now) ≡ (λ (k : Bor K). is_at (cmp group) k.now) =
          fun_ext (λ k. is_at-equal o p group k.now ((Equal-is _).0 e)) in
          let none : went_to cmp bin_cmp old p id ≡ false =
          ap (λ (t : Bor K → Bool). unwrap_or (option_map (λ b. is_at (bin_cmp id) b.now) (lookup t old)) false) tests ∙ fresh id in
          rw (none, updates p, is_at-back o group p, e) (sym (or-false (is_at (bin_cmp id) here.now)))
      more p id false e = rw (updates p, is_at-back o group p, e) refl

      barred : (q : K) (id : B) → list_any (λ p. went_to cmp bin_cmp new p id) (listed_at cmp partners q)
          ≡ ((are_excluded cmp partners q group && is_at (bin_cmp id) here.now) || list_any (λ p. went_to cmp bin_cmp old p id) (listed_at cmp partners q))
      barred q id =
          let xs = listed_at cmp partners q in
          let c = is_at (bin_cmp id) here.now in
          let listed : list_any (λ p. is_at (cmp p) group) xs ≡ are_excluded cmp partners q group =
          list_any-alike (λ p. is_at (cmp p) group) (is_at (cmp group)) (λ p. is_at-back o p group) xs ∙ sym (excluded-listed o partners m q group) in
          list_any-alike (λ p. went_to cmp bin_cmp new p id) (λ p. (is_at (cmp p) group && c) || went_to cmp bin_cmp old p id)
          (λ p. more p id (is_at (cmp p) group) refl) xs
          ∙ list_any-or (λ p. is_at (cmp p) group && c) (λ p. went_to cmp bin_cmp old p id) xs
          ∙ ap (λ b. b || list_any (λ p. went_to cmp bin_cmp old p id) xs)
          (list_any-and (λ p. is_at (cmp p) group) c xs ∙ ap (λ b. b && c) listed)

  -- at first no bin is barred
  pub bars-none : (partners : List (K × List K)) (homes : KeptHomes K B) → homes ≡ record { partners = partners; bins = [] }
      → bars cmp bin_cmp homes ≡ excludes_by cmp bin_cmp partners []
  bars-none partners homes none =
      fun_ext (λ q. fun_ext (λ id. rw none (list_any_none (λ p. false) (listed_at cmp partners q) (λ k d within. refl))))

  -- with each home that is kept, the bins that are barred are those that are excluded
  pub bars-more : (partners : List (K × List K)) (placed : List (K × B)) (old new : KeptHomes K B) (group : K) (here there : B) → old.partners ≡ partners
      → there ≡ here → IsHomeKept cmp bin_cmp old group here new → bars cmp bin_cmp old ≡ excludes_by cmp bin_cmp partners placed
      → bars cmp bin_cmp new ≡ excludes_by cmp bin_cmp partners ((group, there) ∷ placed)
  bars-more partners placed old new group here there same at kept is =
      fun_ext (λ q. fun_ext (λ id.
      kept.barred q id
      ∙ ap (λ (ps : List (K × List K)). (are_excluded cmp ps q group && is_at (bin_cmp id) here) || bars cmp bin_cmp old q id) same
      ∙ ap (λ (b : B). (are_excluded cmp partners q group && is_at (bin_cmp id) b) || bars cmp bin_cmp old q id) (sym at)
      ∙ ap (λ (f : K → B → Bool). (are_excluded cmp partners q group && is_at (bin_cmp id) there) || f q id) is))

  -- the groups that have homes are among those that an order named before
  abbrev pub Named : {X Y : Type 0} → List (OrderedGroup K X Y) → KeptHomes K B → Type 0
  Named order homes = (q : K) → All (λ n. is_at (cmp n) q ≡ false) (map (λ x. x.name.now) order) → (id : B) → went_to cmp bin_cmp homes.bins q id ≡ false

  -- and they are so with the next group
  pub Named-more : {X Y : Type 0} (order : List (OrderedGroup K X Y)) (i : ℕ) (x : OrderedGroup K X Y) (old new : KeptHomes K B) (here : B)
      → i < length order → x ≡ get_or order i x → IsHomeKept cmp bin_cmp old x.name.now here new → Named (take i order) old → Named (take (i + 1) order) new
  Named-more {X} {Y} order i x old new here within is kept named q h id =
      let f : OrderedGroup K X Y → K = λ y. y.name.now in
      let P : K → Type 0 = λ n. is_at (cmp n) q ≡ false in
      let all : All P (map f (take i order) ++ f x ∷ []) = subst (All P) (map-take_more f order i x within is) h in
      kept.others q (All-middle P (map f (take i order) ++ f x ∷ []) (map f (take i order)) [] (f x) refl all) id
      ∙ named q (All-front P (map f (take i order)) (f x ∷ []) all) id

  -- also where that gets none
  pub Named-left : {X Y : Type 0} (order : List (OrderedGroup K X Y)) (i : ℕ) (x : OrderedGroup K X Y) (homes : KeptHomes K B)
      → i < length order → x ≡ get_or order i x → Named (take i order) homes → Named (take (i + 1) order) homes
  Named-left {X} {Y} order i x homes within is named q h id =
      let f : OrderedGroup K X Y → K = λ y. y.name.now in
      let P : K → Type 0 = λ n. is_at (cmp n) q ≡ false in
      let all : All P (map f (take i order) ++ f x ∷ []) = subst (All P) (map-take_more f order i x within is) h in
      named q (All-front P (map f (take i order)) (f x ∷ []) all) id

  -- and a group that the order names once has none yet
  pub Named-fresh : {X Y : Type 0} (order : List (OrderedGroup K X Y)) (i : ℕ) (x : OrderedGroup K X Y) (homes : KeptHomes K B)
      → IsDistinct (eq_by_cmp cmp) (map (λ y. y.name.now) order) → i < length order → x ≡ get_or order i x → Named (take i order) homes
      → (id : B) → went_to cmp bin_cmp homes.bins x.name.now id ≡ false
  Named-fresh {X} {Y} order i x homes distinct within is named =
      let f : OrderedGroup K X Y → K = λ y. y.name.now in
      let at : f x ≡ get_or (map f order) i (f x) = ap f is ∙ sym (get_or-map f order i x (f x) within) in
      named (f x) (subst (All (λ n. is_at (cmp n) (f x) ≡ false)) (take-map f i order)
      (distinct-before (eq_by_cmp cmp) (map f order) i (f x) distinct (rw length-map within) at))

-- equal bins are excluded alike
pub excludes-alike : {K B : Type 0} (cmp : K → K → Ordering) {bin_cmp : B → B → Ordering} → IsTotalOrder bin_cmp → (partners : List (K × List K)) (homes : List
    (K × B)) (group : K) (x y : B) → bin_cmp x y ≡ Equal → excludes_by cmp bin_cmp partners homes group x ≡ excludes_by cmp bin_cmp partners homes group y
excludes-alike cmp {bin_cmp} o partners homes group x y e =
    list_any-alike (λ h. are_excluded cmp partners group h.0 && is_at (bin_cmp x) h.1) (λ h. are_excluded cmp partners group h.0 && is_at (bin_cmp y) h.1)
    (λ h. ap (λ b. are_excluded cmp partners group h.0 && b) (is_at-equal o x y h.1 e)) homes

-- where no two groups are excluded no bin is excluded
excludes-without : {K B : Type 0} (cmp : K → K → Ordering) (bin_cmp : B → B → Ordering) (partners : List (K × List K))
    → ((a b : K) → are_excluded cmp partners a b ≡ false) → excludes_by cmp bin_cmp partners ≡ excludes_none
excludes-without {K} {B} cmp bin_cmp partners none =
    fun_ext (λ homes.
    fun_ext (λ group.
    fun_ext (λ id. list_any_none {X = K × B} (λ h. are_excluded cmp partners group h.0 && is_at (bin_cmp id) h.1) homes
    (λ k d within. rw (none group (get_or homes k d).0) refl))))

-- what holds of all pairs in both orders holds of them from the end on
AllPairs-reverse : {X : Type 0} (R : X → X → Type 0) → ((a b : X) → R a b → R b a) → (xs : List X) → AllPairs R xs → AllPairs R (reverse xs)
AllPairs-reverse R back xs h i j d lt within =
    let long = length-reverse xs in
    rw (get_or-reverse xs i d (omega arith), get_or-reverse xs j d (omega arith))
    (back _ _ (h (length xs - 1 - j) (length xs - 1 - i) d (omega arith) (omega arith)))

module _ {Id K B : Type 0} (group_cmp : K → K → Ordering) (rules : Rules Id B) (partners : List (K × List K)) where
  abbrev Apart : K × B → K × B → Type 0
  Apart a b = are_excluded group_cmp partners a.0 b.0 ≡ true → is_at (rules.bin_cmp a.1) b.1 ≡ false

  -- groups that are excluded do not share a bin
  pub placed_apart : (order : List B) (gs : List (K × Members Id)) (old : Stage K B) (placements : List (Placement Id B)) (new : Stage K B) (tests : ℕ)
      → AreAllPlaced rules (excludes_by group_cmp rules.bin_cmp partners) order gs old placements new tests
      → AreKeptApart group_cmp rules.bin_cmp partners old.homes → AreKeptApart group_cmp rules.bin_cmp partners new.homes
  placed_apart order [] old placements new n h was = subst (λ (s : Stage K B). AllPairs Apart s.homes) (sym h.1) was
  placed_apart order (g ∷ gs) old placements new n (first, next, one, rest, others, placed, later, joined, counted) was =
      let p : K × B → Bool = λ h. are_excluded group_cmp partners g.0 h.0 && is_at (rules.bin_cmp placed.here) h.1 in
      let each : All (Apart (g.0, placed.here)) old.homes = All-weaker (λ h. p h ≡ false) (Apart (g.0, placed.here)) (λ h none e. rw e at none) old.homes
      (none_pass p old.homes placed.allowed) in
      placed_apart order gs (record { bins = next; homes = (g.0, placed.here) ∷ old.homes }) rest new others later
      (AllPairs-cons Apart (g.0, placed.here) old.homes each was)

  -- and so from the end on
  pub apart-reverse : IsTotalOrder rules.bin_cmp → (homes : List (K × B)) → AreKeptApart group_cmp rules.bin_cmp partners homes
      → AreKeptApart group_cmp rules.bin_cmp partners (reverse homes)
  apart-reverse o homes h =
      AllPairs-reverse Apart (λ a b apart e. is_at-back o b.1 a.1
      ∙ apart (or_comm (is_listed group_cmp partners a.0 b.0) (is_listed group_cmp partners b.0 a.0) ∙ e)) homes h

module _ {Id B G : Type 0} (group_cmp : Group G Id → Group G Id → Ordering) (rules : Rules Id B) (all : Collection Id G)
    (none : (a b : Group G Id) → are_excluded group_cmp all.partners a b ≡ false) where
  -- what is said of a packing by these excluded bins is said of one without
  without : (P : (List (Group G Id × B) → Group G Id → B → Bool) → Type 0) → P (excludes_by group_cmp rules.bin_cmp all.partners) ↔ P excludes_none
  without P = let e = excludes-without group_cmp rules.bin_cmp all.partners none in (subst P e, subst P (sym e))

  pub done_without : (old new : List (B × Bin)) (placements : List (Placement Id B)) (n : ℕ)
      → ((done : PackingDone group_cmp rules all old placements new) × (done.tests ≡ n))
      ↔ ((done : PackingDoneBy group_cmp rules excludes_none all old placements new) × (done.tests ≡ n))
  done_without old new placements n = without (λ excludes. (done : PackingDoneBy group_cmp rules excludes all old placements new) × (done.tests ≡ n))

  pub refused_without : (old new : List (B × Bin)) (n : ℕ)
      → ((refused : PackingRefused group_cmp rules all old new) × (refused.tests ≡ n))
      ↔ ((refused : PackingRefusedBy group_cmp rules excludes_none all old new) × (refused.tests ≡ n))
  refused_without old new n = without (λ excludes. (refused : PackingRefusedBy group_cmp rules excludes all old new) × (refused.tests ≡ n))
