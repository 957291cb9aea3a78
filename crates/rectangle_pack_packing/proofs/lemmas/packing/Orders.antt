-- Orders of groups and bins, and lists that are related element by element.
use Rattle.rectangle_pack_sections.proofs.Std.{◌≡◌, ℕ, ◌+◌, ◌-◌, ◌<◌, ◌≤◌, List, [], ◌∷◌, ◌++◌, take, drop, length, length-append, append-nil, refl, ap, sym}
use Rattle.rectangle_pack_sections.proofs.Std.{◌∙◌, arith, map, All, IsSomeAnd, Vec, values_of, get_or-map, length-map, map_push, append_assoc}
use Rattle.rectangle_pack_sections.proofs.Std.{drop-append_seam, take-append_seam, Bor, Yields, TakesFirst, deref_pair, Option, Some, All-turn, All-nil}
use Rattle.rectangle_pack_sections.proofs.Std.{All-cons, All-head, All-tail, Ordering, IsSorted, IsPermutation, IsStrictlySortedBy, Less-from_sorted}
use Rattle.rectangle_pack_sections.proofs.Std.{All-permutation, cases_order, lt-ltb, tied_itself, nat_cmp, get_or_default, inl, inr, AllPairs, AllZip, sum_by}
use Rattle.rectangle_pack_sections.proofs.Std.{slice_range, BTreeMap, IsOrdered, btree_map_get_place, sum_by-cons, get_or, slice_get-get_or, sum, sum_by_push}
use Rattle.rectangle_pack_sections.proofs.Std.{false, Bool, IsSome, Less, Equal, Greater, is_lt, ordering_then, IsTotalOrder, lookup, is_at, All-weaker}
use Rattle.rectangle_pack_sections.proofs.Std.{take-append-drop, take_more, map-id, map-append, All-from_recursion, IsDistinct-head, IsDistinct, keys_of}
use Rattle.rectangle_pack_sections.proofs.lemmas.util.Zips.{AllZip-mapped, length-zip, All-alike, AllZip-along, AllZip-back}
use Rattle.rectangle_pack_sections.proofs.lemmas.util.Zips.{AllZip-equal}
use Rattle.rectangle_pack_packing.specs.declared.order.OrderedGroup.{OrderedGroup}
use Rattle.rectangle_pack_sections.specs.Groups.{lists_of}
use Rattle.rectangle_pack_lists.specs.Numbers.{saturated}
use Rattle.rectangle_pack_sections.specs.Boxes.{Size}
use Rattle.rectangle_pack_packing.specs.private.Orders.{keys_of_order, entries_at, SizesStandAt}
use Rattle.rectangle_pack_sections.proofs.lemmas.util.Maps.{IsSome-cond}

-- the first of keys that differ differs from each later one
pub IsDistinct-apart : {K : Type 0} (e : K → K → Bool) (x : K) (xs : List K) → IsDistinct e (x ∷ xs) → All (λ y. e x y ≡ false) xs
IsDistinct-apart e x xs d = All-from_recursion (λ y. e x y ≡ false) xs (IsDistinct-head e x xs d)

-- one more of each
pub AllZip-more : {A B : Type 0} (R : A → B → Type 0) (xs : List A) (ys : List B) (x : A) (y : B) → AllZip R xs ys → R x y
    → AllZip R (xs ++ x ∷ []) (ys ++ y ∷ [])
AllZip-more R [] [] x y h r = (r, tt)
AllZip-more R [] (b ∷ ys) x y h r = absurd h
AllZip-more R (a ∷ xs) [] x y h r = absurd h
AllZip-more R (a ∷ xs) (b ∷ ys) x y h r = (h.0, AllZip-more R xs ys x y h.1 r)

-- a list that is mapped, split at an index
pub map-split : {X Y : Type 0} (f : X → Y) (xs : List X) (i : ℕ) → map f xs ≡ map f (take i xs) ++ map f (drop i xs)
map-split f xs i = ap (map f) (sym (take-append-drop i xs)) ∙ map-append f (take i xs) (drop i xs)

-- its beginning, with one more element
pub map-take_more : {X Y : Type 0} (f : X → Y) (xs : List X) (i : ℕ) (x : X) → i < length xs → x ≡ get_or xs i x
    → map f (take (i + 1) xs) ≡ map f (take i xs) ++ f x ∷ []
map-take_more f xs i x within is =
    ap (map f) (take_more xs i x within) ∙ map_push f (take i xs) (get_or xs i x) ∙ ap (λ z. map f (take i xs) ++ f z ∷ []) (sym is)

-- split at an element
pub map-split_at : {X Y : Type 0} (f : X → Y) (xs : List X) (i : ℕ) (x : X) → i < length xs → x ≡ get_or xs i x
    → map f xs ≡ map f (take i xs) ++ f x ∷ map f (drop (i + 1) xs)
map-split_at f xs i x within is =
    map-split f xs (i + 1) ∙ ap (λ l. l ++ map f (drop (i + 1) xs)) (map-take_more f xs i x within is)
    ∙ append_assoc (map f (take i xs)) (f x ∷ []) (map f (drop (i + 1) xs))

-- the beginning that goes with a beginning of the other list
pub AllZip-begins : {A B : Type 0} (R : A → B → Type 0) (xs : List A) (ys zs : List B) → AllZip R xs (ys ++ zs) → AllZip R (take (length ys) xs) ys
AllZip-begins R xs [] zs h = tt
AllZip-begins R [] (y ∷ ys) zs h = absurd h
AllZip-begins R (x ∷ xs) (y ∷ ys) zs h = (h.0, AllZip-begins R xs ys zs h.1)

-- and one more of each
pub AllZip-next : {A B C : Type 0} (R : C → B → Type 0) (f : A → C) (xs : List A) (ys : List B) (i : ℕ) (x : A) (y : B) → i < length xs → x ≡ get_or xs i x
    → AllZip R (map f (take i xs)) ys → R (f x) y → AllZip R (map f (take (i + 1) xs)) (ys ++ y ∷ [])
AllZip-next R f xs ys i x y within is h r = rw (map-take_more f xs i x within is) (AllZip-more R (map f (take i xs)) ys (f x) y h r)

pub AllZip-map_left : {A B C : Type 0} (R : C → B → Type 0) (f : A → C) (xs : List A) (ys : List B) → AllZip (λ x y. R (f x) y) xs ys → AllZip R (map f xs) ys
AllZip-map_left R f xs ys h = simp map-id at (AllZip-mapped (λ x y. R (f x) y) R f (λ y. y) (λ x y r. r) xs ys h)

-- what is named by the keys of a map, one after another, has these names
pub names-zip : {K X Y : Type 0} (name : Y → K) (P : K × X → Y → Type 0) (es : List (K × X)) (ys : List Y)
    → AllZip (λ e y. (name y ≡ e.0) × P e y) es ys → map name ys ≡ keys_of es
names-zip name P es ys h = AllZip-equal (λ e y. (name y ≡ e.0) × P e y) (λ e. e.0) name (λ e y r. r.0) es ys h

-- the saturated sum with one more rate
pub saturated-more : (rates : List ℕ) (rate key next : ℕ) → key ≡ saturated (sum rates) → next ≡ saturated (key + rate)
    → next ≡ saturated (sum (rates ++ rate ∷ []))
saturated-more rates rate key next is more = omega (arith, is, more, sum_by_push (λ x. x) rates rate)

-- a list in order by what f reads, read by f
pub IsSorted-map : {A B : Type 0} (R : B → B → Ordering) (f : A → B) (xs : List A) → IsSorted (λ x y. R (f x) (f y)) xs → IsSorted R (map f xs)
IsSorted-map R f [] h = λ k d low up. absurd (omega arith)
IsSorted-map {A} R f (x ∷ xs) h = λ k d low up.
    let long : k + 1 < length (x ∷ xs) = simp length-map at up in
    let here : k < length (x ∷ xs) = omega arith in
    rw (get_or-map f (x ∷ xs) (k + 1) x d long, get_or-map f (x ∷ xs) k x d here) (h k x low long)

-- what is not less by two tests is not less where a third, less at no more, replaces the second
pub not_less-then : (a b c : Ordering) → is_lt (ordering_then a b) ≡ false → (c ≡ Less → b ≡ Less) → is_lt (ordering_then a c) ≡ false
not_less-then Less b c h k = h
not_less-then Equal b Less h k = rw (k refl) at h
not_less-then Equal b Equal h k = refl
not_less-then Equal b Greater h k = refl
not_less-then Greater b c h k = refl

-- a lesser number is less
pub less-nat_cmp : (m n : ℕ) → m < n → nat_cmp m n ≡ Less
less-nat_cmp m n lt = rw (lt-ltb m n lt) refl

-- names that are the keys of a map rise
pub rise-names : {X K : Type 0} (cmp : K → K → Ordering) (name : X → K) (xs : List X) (keys : List K) → map name xs ≡ keys → IsStrictlySortedBy cmp keys
    → AllPairs (λ x y. cmp (name x) (name y) ≡ Less) xs
rise-names cmp name xs keys same up = λ i j d less within.
    let here : i < length xs = omega arith in
    let long : j < length (map name xs) = simp length-map within in
    rw (← get_or-map name xs i d (name d) here, ← get_or-map name xs j d (name d) within)
    (Less-from_sorted cmp (map name xs) i j (name d) (rw (← same) at up) less long)

-- where names and numbers rise along a list, the lesser of two names has the lesser number
pub rise-alike : {X K : Type 0} {cmp : K → K → Ordering} → IsTotalOrder cmp → (name : X → K) (number : X → ℕ) (xs : List X)
    → AllPairs (λ x y. (cmp (name x) (name y) ≡ Less) × (number x < number y)) xs
    → All (λ x. All (λ y. cmp (name x) (name y) ≡ Less → number x < number y) xs) xs
rise-alike {cmp = cmp} o name number xs up = λ i d within j e below less.
    let there = get_or_default xs j e d below in
    let before : cmp (name (get_or xs i d)) (name (get_or xs j d)) ≡ Less = rw (← there) less in
    elim (cases_order i j) [
      | inl same ↦ absurd (let itself = tied_itself o (name (get_or xs i d)) in let twice : cmp (name (get_or xs i d)) (name (get_or xs i d))
          ≡ Less = rw (← same) at before in cc)
      | inr apart ↦ elim apart [
        | inl early ↦ rw there (up i j d early below).1
        | inr late ↦ absurd (let back = o.antisymm (name (get_or xs i d)) (name (get_or xs j d)) in let after = (up j i d late within).0 in cc)
      ]
    ]

-- what holds of any two of a list holds of any two of them in another order
pub any_two-permutation : {X : Type 0} (R : X → X → Type 0) (xs ys : List X) → IsPermutation xs ys → All (λ x. All (R x) xs) xs → All (λ x. All (R x) ys) ys
any_two-permutation R xs ys moved h =
    All-permutation (λ x. All (R x) ys) xs ys moved (All-weaker (λ x. All (R x) xs) (λ x. All (R x) ys) (λ x. All-permutation (R x) xs ys moved) xs h)

-- what holds of each list holds of each vector's items
pub All-lists_of : {K X A : Type 0} (P : List X → Type 0) (es : List (K × Vec X A)) → All P (values_of (lists_of es)) → All (λ e. P e.1.items) es
All-lists_of P [] h = All-nil _
All-lists_of {K} {X} {A} P (e ∷ es) h = All-cons (λ (e : K × Vec X A). P e.1.items) e es (All-head P e.1.items (values_of (lists_of es)) h)
    (All-lists_of P es (All-tail P e.1.items (values_of (lists_of es)) h))

-- the list that a loop over a map is at
pub items-turn : {K X A : Type 0} (P : List X → Type 0) (all : List (K × Vec X A)) (xs : List (Bor K × Bor (Vec X A))) (s t u : List (K × Vec X A))
    (r : Option (Bor K × Bor (Vec X A))) (x : Bor K × Bor (Vec X A))
    → All P (values_of (lists_of all)) → s ≡ all → Yields (TakesFirst deref_pair) s xs t → r ≡ Some x → TakesFirst deref_pair t r u → P x.1.now.items
items-turn {K} {X} {A} P all xs s t u r x h = All-turn deref_pair (λ (e : K × Vec X A). P e.1.items) all xs s t u r x (All-lists_of P all h)

-- what is named by keys that equal a map's is in the map
pub found-zip : {K X Y : Type 0} {cmp : K → K → Ordering} → IsTotalOrder cmp → (name : Y → K) (P : K × X → Y → Type 0) → ((e : K × X) (y : Y) → P e y
    → cmp e.0 (name y) ≡ Equal) → (es : List (K × X)) (ys : List Y) → AllZip P es ys → All (λ y. IsSome (lookup (is_at (cmp (name y))) es)) ys
found-zip o name P same [] [] h = All-nil _
found-zip o name P same [] (y ∷ ys) h = absurd h
found-zip o name P same (e ∷ es) [] h = All-nil _
found-zip {K} {X} {Y} {cmp} o name P same (e ∷ es) (y ∷ ys) h =
    All-cons (λ (z : Y). IsSome (lookup (is_at (cmp (name z))) (e ∷ es))) y ys
    (rw (o.antisymm (name y) e.0, same e y h.0) refl)
    (All-weaker (λ (z : Y). IsSome (lookup (is_at (cmp (name z))) es)) (λ (z : Y). IsSome (lookup (is_at (cmp (name z))) (e ∷ es)))
    (λ z there. IsSome-cond (is_at (cmp (name z)) e.0) e.1 (lookup (is_at (cmp (name z))) es) there) ys (found-zip o name P same es ys h.1))

-- each entry of the order has the list of its name
pub listed-zip : {K X A : Type 0} {cmp : K → K → Ordering} → IsTotalOrder cmp → (m : BTreeMap K (Vec X A)) → IsOrdered cmp m
    → (P : K × Vec X A → OrderedGroup K X A → Type 0) (ys : List (OrderedGroup K X A))
    → AllZip (λ e y. (y.name.now ≡ e.0) × P e y × (y.ids.now ≡ e.1)) m.entries ys → All (λ y. lookup (is_at (cmp y.name.now)) m.entries ≡ Some y.ids.now) ys
listed-zip {K} {X} {A} {cmp} o m ordered P ys h =
    All-alike _ (λ (e : K × Vec X A). lookup (is_at (cmp e.0)) m.entries ≡ Some e.1)
    (λ (y : OrderedGroup K X A). lookup (is_at (cmp y.name.now)) m.entries ≡ Some y.ids.now)
    (λ e y same found. rw (same.0, same.2) found) m.entries ys h
    (λ i d within. let e = get_or m.entries i d in btree_map_get_place o m i e.0 e.1 ordered (slice_get-get_or m.entries i d within))

-- as many entries as the lists have, one after another
pub counted-zip : {K X A : Type 0} (cmp : K → K → Ordering) (lists : List (K × List X)) (P : K × Vec X A → OrderedGroup K X A → Type 0)
    (es : List (K × Vec X A)) (ys : List (OrderedGroup K X A)) → AllZip (λ e y. (y.name.now ≡ e.0) × P e y × (y.ids.now ≡ e.1)) es ys
    → All (λ y. lookup (is_at (cmp y.name.now)) lists ≡ Some y.ids.now.items) ys
    → sum_by (entries_at cmp lists) (keys_of_order ys) ≡ sum (map length (values_of (lists_of es)))
counted-zip cmp lists P [] [] h found = refl
counted-zip cmp lists P [] (y ∷ ys) h found = absurd h
counted-zip cmp lists P (e ∷ es) [] h found = absurd h
counted-zip {K} {X} {A} cmp lists P (e ∷ es) (y ∷ ys) h found =
    let Found : OrderedGroup K X A → Type 0 = λ y. lookup (is_at (cmp y.name.now)) lists ≡ Some y.ids.now.items in
    let here : entries_at cmp lists (y.key.0, y.name.now) ≡ length e.1.items = rw (All-head Found y ys found, h.0.2) refl in
    let later = counted-zip cmp lists P es ys h.1 (All-tail Found y ys found) in
    omega (
      arith,
      here,
      later,
      sum_by-cons (entries_at cmp lists) (y.key.0, y.name.now) (keys_of_order ys),
      sum_by-cons (λ n. n) (length e.1.items) (map length (values_of (lists_of es))),
    )

module _ {Id : Type 0} (cmp : Id → Id → Ordering) (sizes : List (Id × Size)) where
  -- sizes that stand among all still do where more are behind these
  pub SizesStandAt-more : (all more new : List Size) (ids : List Id) (start : ℕ) → new ≡ all ++ more → SizesStandAt cmp sizes all ids start
      → SizesStandAt cmp sizes new ids start
  SizesStandAt-more all more new ids start same h = record {
    before = h.before;
    here = h.here;
    later = h.later ++ more;
    all_are = same ∙ ap (λ l. l ++ more) h.all_are ∙ append_assoc h.before (h.here ++ h.later) more
        ∙ ap (λ l. h.before ++ l) (append_assoc h.here h.later more);
    start_is = h.start_is;
    each = h.each;
  }

  -- the last ones stand where they begin
  pub SizesStandAt-last : (all added new : List Size) (ids : List Id) (start : ℕ) → new ≡ all ++ added → start ≡ length all
      → AllZip (λ id size. lookup (is_at (cmp id)) sizes ≡ Some size) ids added → SizesStandAt cmp sizes new ids start
  SizesStandAt-last all added new ids start same starts each = record {
    before = all;
    here = added;
    later = [];
    all_are = same ∙ ap (λ l. all ++ l) (sym (append-nil added));
    start_is = starts;
    each = each;
  }

  -- and a part that begins there, as long as the ids, is theirs
  pub SizesStandAt-part : (all : List Size) (ids own : List Id) (start count : ℕ) → own ≡ ids → count ≡ length ids → SizesStandAt cmp sizes all ids start
      → (start + count ≤ length all) × AllZip (λ id size. lookup (is_at (cmp id)) sizes ≡ Some size) own (slice_range all start (start + count))
  SizesStandAt-part all ids own start count same counted h =
      let long = length-zip _ ids h.here h.each in
      let whole = ap length h.all_are ∙ length-append h.before (h.here ++ h.later) ∙ ap (λ n. length h.before + n) (length-append h.here h.later) in
      let starts = h.start_is in
      let many : start + count - start ≡ length h.here = omega arith in
      let rest : drop start all ≡ h.here ++ h.later = ap (λ n. drop n all) h.start_is ∙ ap (drop (length h.before)) h.all_are
      ∙ drop-append_seam h.before (h.here ++ h.later) in
      let part : slice_range all start (start + count) ≡ h.here = ap (λ n. take n (drop start all)) many ∙ ap (take (length h.here)) rest
      ∙ take-append_seam h.here h.later in
      (omega arith, rw (same, part) h.each)

-- a rate of each id's size, by a rate of each size
pub AllZip-rated : {Id : Type 0} (f : Id → Option Size) (MayRate : Size → ℕ → Type 0) (ids : List Id) (sizes : List Size) (rates : List ℕ)
    → AllZip (λ id size. f id ≡ Some size) ids sizes → AllZip MayRate sizes rates → AllZip (λ id rate. IsSomeAnd (f id) (λ size. MayRate size rate)) ids rates
AllZip-rated f M ids sizes rates h k =
    AllZip-along (λ size id. f id ≡ Some size) M (λ id rate. IsSomeAnd (f id) (λ size. M size rate))
    (λ size id rate found rated. rw found rated) sizes ids rates
    (AllZip-back (λ id size. f id ≡ Some size) (λ size id. f id ≡ Some size) (λ id size found. found) ids sizes h) k
