-- Where groups that are placed whole have each box.
use Rattle.rectangle_pack_c.proofs.Std.{◌≡◌, ◌⊎◌, inl, inr, ◌≢◌, ℕ, Bool, true, false, cond, List, [], ◌∷◌, get_or, refl, ap, sym, ◌∙◌, arith, suc, zero, Some}
use Rattle.rectangle_pack_c.proofs.Std.{All, AllPairs, Contains, map, filter, AllZip, IsDistinct, Equal, nat_cmp, is_eq, eq_by_cmp, lookup, keys_of, is_at}
use Rattle.rectangle_pack_c.proofs.Std.{IsDistinct-head, IsDistinct-tail, exact_unsigned, All-from_recursion, All-contains, Contains-get_or}
use Rattle.rectangle_pack_c.proofs.Std.{Contains-append_left, Contains-append_right, Contains-append_cases, AllPairs-cons}
use Rattle.rectangle_pack.specs.declared.grouped_rects_to_place.Group.{Group}
use Rattle.rectangle_pack.specs.declared.pack.Placement.{Placement}
use Rattle.rectangle_pack.specs.Boxes.{Size}
use Rattle.rectangle_pack.specs.Placed.{ArePlacedWhole}
use Rattle.rectangle_pack_sections.proofs.lemmas.util.Lists.{AllPairs-append, AllPairs-head, AllPairs-tail}
use Rattle.rectangle_pack_sections.proofs.lemmas.util.Zips.{AllZip-back}
use Rattle.rectangle_pack_c.specs.Collections.{group_order}
use Rattle.rectangle_pack_c.proofs.OrderLemmas.{exact_group, group_same}

one_in : {X : Type 0} (x y : X) → Contains (x ∷ []) y → x ≡ y
one_in x y (zero, within, at) = at
one_in x y (suc k, within, at) = absurd (omega arith)

pub none_in : {X : Type 0} (x : X) → Contains [] x → ⊥
none_in x (k, within, at) = omega arith

-- an element is the first or a later one
pub in_cases : {X : Type 0} (x : X) (xs : List X) (y : X) → Contains (x ∷ xs) y → (x ≡ y) ⊎ Contains xs y
in_cases x xs y h = by (Contains-append_cases (x ∷ []) xs y h)
  where
    by : Contains (x ∷ []) y ⊎ Contains xs y → (x ≡ y) ⊎ Contains xs y
    by (inl one) = inl (one_in x y one)
    by (inr more) = inr more

pub in_first : {X : Type 0} (x : X) (xs : List X) (y : X) → x ≡ y → Contains (x ∷ xs) y
in_first x xs y e = (0, omega arith, e)

pub in_later : {X : Type 0} (x : X) (xs : List X) (y : X) → Contains xs y → Contains (x ∷ xs) y
in_later x xs y h = Contains-append_right (x ∷ []) xs y h

pub in_map : {X Y : Type 0} (f : X → Y) (xs : List X) (x : X) → Contains xs x → Contains (map f xs) (f x)
in_map f [] x h = absurd (none_in x h)
in_map f (y ∷ ys) x h = by (in_cases y ys x h) (in_map f ys x)
  where
    by : (y ≡ x) ⊎ Contains ys x → (Contains ys x → Contains (map f ys) (f x)) → Contains (map f (y ∷ ys)) (f x)
    by (inl e) ih = in_first (f y) (map f ys) (f x) (ap f e)
    by (inr more) ih = in_later (f y) (map f ys) (f x) (ih more)

pub from_map : {X Y : Type 0} (f : X → Y) (xs : List X) (y : Y) → Contains (map f xs) y → (x : X) × Contains xs x × (f x ≡ y)
from_map f [] y h = absurd (none_in y h)
from_map {X} f (x ∷ xs) y h = by (in_cases (f x) (map f xs) y h) (from_map f xs y)
  where
    by : (f x ≡ y) ⊎ Contains (map f xs) y → (Contains (map f xs) y → (z : X) × Contains xs z × (f z ≡ y)) → (z : X) × Contains (x ∷ xs) z × (f z ≡ y)
    by (inl e) ih = (x, in_first x xs x refl, e)
    by (inr more) ih = let (z, inside, e) = ih more in (z, in_later x xs z inside, e)

-- what is beside an element of the second list, and of the first
pub zip_left : {X Y : Type 0} (R : X → Y → Type 0) (xs : List X) (ys : List Y) → AllZip R xs ys → (y : Y) → Contains ys y → (x : X) × Contains xs x × R x y
zip_left R [] [] h y c = absurd (none_in y c)
zip_left R [] (z ∷ ys) h y c = absurd h
zip_left R (x ∷ xs) [] h y c = absurd h
zip_left {X} R (x ∷ xs) (z ∷ ys) h y c = by (in_cases z ys y c) (zip_left R xs ys h.1 y)
  where
    by : (z ≡ y) ⊎ Contains ys y → (Contains ys y → (x : X) × Contains xs x × R x y) → (w : X) × Contains (x ∷ xs) w × R w y
    by (inl e) ih = (x, in_first x xs x refl, rw (← e) h.0)
    by (inr more) ih = let (w, inside, r) = ih more in (w, in_later x xs w inside, r)

pub zip_right : {X Y : Type 0} (R : X → Y → Type 0) (xs : List X) (ys : List Y) → AllZip R xs ys → (x : X) → Contains xs x → (y : Y) × Contains ys y × R x y
zip_right R xs ys h x c = zip_left (λ y x. R x y) ys xs (AllZip-back R (λ y x. R x y) (λ x y r. r) xs ys h) x c

-- no pairs of nothing
pub pairs_none : {X : Type 0} (R : X → X → Type 0) → AllPairs R []
pairs_none R i j d below inside = absurd (omega (arith, inside))

-- placements of ids that differ have ids that differ
zip_once : (R : ℕ → Placement ℕ ℕ → Type 0) → ((id : ℕ) (p : Placement ℕ ℕ) → R id p → id ≡ p.id) → (ids : List ℕ) (ps : List (Placement ℕ ℕ)) → AllZip R ids ps
    → AllPairs (λ i j. i ≢ j) ids → AllPairs (λ p q. p.id ≢ q.id) ps
zip_once R is [] [] h once = pairs_none (λ (p q : Placement ℕ ℕ). p.id ≢ q.id)
zip_once R is [] (p ∷ ps) h once = absurd h
zip_once R is (i ∷ ids) [] h once = absurd h
zip_once R is (i ∷ ids) (p ∷ ps) h once = AllPairs-cons (λ p q. p.id ≢ q.id) p ps others (zip_once R is ids ps h.1 (AllPairs-tail (λ i j. i ≢ j) i ids once))
  where
    others : All (λ q. p.id ≢ q.id) ps
    others k d within =
        let (id, inside, r) = zip_left R ids ps h.1 (get_or ps k d) (Contains-get_or ps k d within) in
        λ same. All-contains (λ j. i ≢ j) ids id (AllPairs-head (λ i j. i ≢ j) i ids once) inside (is i p h.0 ∙ same ∙ sym (is id (get_or ps k d) r))

-- a group has no second home
not_again : (home : Group ℕ ℕ × ℕ) (homes : List (Group ℕ ℕ × ℕ)) → IsDistinct (eq_by_cmp group_order) (map (λ h. h.0) (home ∷ homes)) → (other : Group ℕ ℕ × ℕ)
    → Contains homes other → home.0 ≡ other.0 → ⊥
not_again home homes d other inside same =
    let differ = All-from_recursion (λ k. eq_by_cmp group_order home.0 k ≡ false) (map (λ g. g.0) homes)
    (IsDistinct-head (eq_by_cmp group_order) home.0 (map (λ g. g.0) homes) d) in
    let no : is_eq (group_order home.0 other.0) ≡ false = All-contains
    (λ k. eq_by_cmp group_order home.0 k ≡ false) (map (λ g. g.0) homes) other.0 differ (in_map (λ g. g.0) homes other inside) in
    let yes : is_eq (group_order home.0 other.0) ≡ true = rw same (group_same other.0) in
    absurd cc

module _ (sizes : List (ℕ × Size)) (lists : List (Group ℕ ℕ × List ℕ)) where
  -- the box is placed for this group, in this bin, in its size
  pub record HasHome (p : Placement ℕ ℕ) (home : Group ℕ ℕ × ℕ) : Type 0 where
    pub ids : List ℕ
    pub listed : lookup (is_at (group_order home.0)) lists ≡ Some ids
    pub member : Contains ids p.id
    pub bin : home.1 ≡ p.bin
    pub size : lookup (is_at (nat_cmp p.id)) sizes ≡ Some p.location.whd

  -- each placement has a home
  pub homed : (homes : List (Group ℕ ℕ × ℕ)) (ps : List (Placement ℕ ℕ)) → ArePlacedWhole nat_cmp nat_cmp group_order sizes lists homes ps
      → (p : Placement ℕ ℕ) → Contains ps p
      → (home : Group ℕ ℕ × ℕ) × Contains homes home × HasHome p home
  homed [] ps none p h = absurd (none_in p (rw none at h))
  homed (home ∷ homes) ps (ids, first, later, listed, placed, rest, joined) p h = by
      (Contains-append_cases first later p (rw joined at h)) (homed homes later rest p)
    where
      by : Contains first p ⊎ Contains later p → (Contains later p → (other : Group ℕ ℕ × ℕ) × Contains homes other × HasHome p other)
          → (other : Group ℕ ℕ × ℕ) × Contains (home ∷ homes) other × HasHome p other
      by (inl here) ih =
          let (id, inside, named) = zip_left (λ id p. (nat_cmp id p.id ≡ Equal) × (lookup (is_at (nat_cmp id)) sizes ≡ Some p.location.whd))
          ids first placed.each p here in
          let same : id ≡ p.id = exact_unsigned id p.id named.0 in (
            home,
            in_first home homes home refl,
            record {
              ids = ids;
              listed = listed;
              member = rw (← same) inside;
              bin = exact_unsigned home.1 p.bin (All-contains (λ (q : Placement ℕ ℕ). nat_cmp home.1 q.bin ≡ Equal) first p placed.together here);
              size = rw (← same) named.1;
            },
          )
      by (inr more) ih = let (other, inside, has) = ih more in (other, in_later home homes other inside, has)

  -- each member of a group that has a home is placed
  pub placed_for : (homes : List (Group ℕ ℕ × ℕ)) (ps : List (Placement ℕ ℕ)) → ArePlacedWhole nat_cmp nat_cmp group_order sizes lists homes ps
      → (home : Group ℕ ℕ × ℕ) → Contains homes home
      → (ids : List ℕ) → lookup (is_at (group_order home.0)) lists ≡ Some ids → (i : ℕ) → Contains ids i → (p : Placement ℕ ℕ) × Contains ps p × (p.id ≡ i)
  placed_for [] ps none home h ids is i c = absurd (none_in home h)
  placed_for (next ∷ homes) ps (own, first, later, listed, placed, rest, joined) home h ids is i c = by (in_cases next homes home h)
      (λ more. placed_for homes later rest home more ids is i c)
    where
      by : (next ≡ home) ⊎ Contains homes home → (Contains homes home → (p : Placement ℕ ℕ) × Contains later p × (p.id ≡ i))
          → (p : Placement ℕ ℕ) × Contains ps p × (p.id ≡ i)
      by (inl e) ih =
          let found : Some own ≡ Some ids = sym listed ∙ rw e is in
          let same : own ≡ ids = cc in
          let (p, inside, named) = zip_right (λ id p. (nat_cmp id p.id ≡ Equal) × (lookup (is_at (nat_cmp id)) sizes ≡ Some p.location.whd)) own
          first placed.each i (rw same c) in
          (p, rw joined (Contains-append_left first later p inside), sym (exact_unsigned i p.id named.0))
      by (inr more) ih = let (p, inside, e) = ih more in (p, rw joined (Contains-append_right first later p inside), e)

  -- no id is placed twice, where no list has an id twice and no id is in two lists
  pub placed_once : (group : ℕ → Group ℕ ℕ) → ((k : Group ℕ ℕ) (ids : List ℕ) → lookup (is_at (group_order k)) lists ≡ Some ids → All (λ i. group i ≡ k) ids)
      → ((k : Group ℕ ℕ) (ids : List ℕ) → lookup (is_at (group_order k)) lists ≡ Some ids → AllPairs (λ i j. i ≢ j) ids)
      → (homes : List (Group ℕ ℕ × ℕ)) (ps : List (Placement ℕ ℕ)) → ArePlacedWhole nat_cmp nat_cmp group_order sizes lists homes ps
      → IsDistinct (eq_by_cmp group_order) (map (λ h. h.0) homes)
      → AllPairs (λ p q. p.id ≢ q.id) ps
  placed_once group members once [] ps none d = rw none (pairs_none (λ (p q : Placement ℕ ℕ). p.id ≢ q.id))
  placed_once group members once (home ∷ homes) ps (ids, first, later, listed, placed, rest, joined) d =
      rw joined (AllPairs-append (λ p q. p.id ≢ q.id) first later
      (zip_once (λ id p. (nat_cmp id p.id ≡ Equal) × (lookup (is_at (nat_cmp id)) sizes ≡ Some p.location.whd))
      (λ id p r. exact_unsigned id p.id r.0) ids first placed.each (once home.0 ids listed))
      (placed_once group members once homes later rest (IsDistinct-tail (eq_by_cmp group_order) home.0 (map (λ g. g.0) homes) d))
      across)
    where
      differ : (p q : Placement ℕ ℕ) → Contains first p → Contains later q → p.id ≢ q.id
      differ p q in_first in_later same =
          let (id, inside, named) = zip_left (λ id p. (nat_cmp id p.id ≡ Equal) × (lookup (is_at (nat_cmp id)) sizes ≡ Some p.location.whd)) ids
          first placed.each p in_first in
          let id_is : id ≡ p.id = exact_unsigned id p.id named.0 in
          let own : group id ≡ home.0 = All-contains (λ i. group i ≡ home.0) ids id (members home.0 ids listed) inside in
          let (other, there, has) = homed homes later rest q in_later in
          let others : group q.id ≡ other.0 = All-contains (λ i. group i ≡ other.0) has.ids q.id (members other.0 has.ids has.listed) has.member in
          not_again home homes d other there (sym own ∙ ap group (id_is ∙ same) ∙ others)

      across : All (λ q. All (λ p. p.id ≢ q.id) first) later
      across k d within j e low = differ (get_or first j e) (get_or later k d) (Contains-get_or first j e low) (Contains-get_or later k d within)

-- a group has one home
pub one_home : (homes : List (Group ℕ ℕ × ℕ)) → IsDistinct (eq_by_cmp group_order) (map (λ h. h.0) homes) → (a b : Group ℕ ℕ × ℕ) → Contains homes a
    → Contains homes b → a.0 ≡ b.0 → a.1 ≡ b.1
one_home [] d a b ca cb e = absurd (none_in a ca)
one_home (h ∷ hs) d a b ca cb e = by (in_cases h hs a ca) (in_cases h hs b cb)
    (λ x y. one_home hs (IsDistinct-tail (eq_by_cmp group_order) h.0 (map (λ g. g.0) hs) d) a b x y e)
  where
    by : (h ≡ a) ⊎ Contains hs a → (h ≡ b) ⊎ Contains hs b → (Contains hs a → Contains hs b → a.1 ≡ b.1) → a.1 ≡ b.1
    by (inl x) (inl y) ih = ap (λ g. g.1) (sym x ∙ y)
    by (inl x) (inr y) ih = absurd (not_again h hs d b y (ap (λ g. g.0) x ∙ e))
    by (inr x) (inl y) ih = absurd (not_again h hs d a x (ap (λ g. g.0) y ∙ sym e))
    by (inr x) (inr y) ih = ih x y

pub home_of_key : (homes : List (Group ℕ ℕ × ℕ)) (k : Group ℕ ℕ) → Contains (map (λ h. h.0) homes) k
    → (home : Group ℕ ℕ × ℕ) × Contains homes home × (home.0 ≡ k)
home_of_key homes k h = from_map (λ h. h.0) homes k h

-- a group that is found is a key
pub key_listed : {X : Type 0} (es : List (Group ℕ ℕ × X)) (k : Group ℕ ℕ) (x : X) → lookup (is_at (group_order k)) es ≡ Some x → Contains (keys_of es) k
key_listed [] k x is = absurd cc
key_listed {X} (e ∷ es) k x is = by (is_eq (group_order k e.0)) refl is (key_listed es k x)
  where
    by : (t : Bool) → is_eq (group_order k e.0) ≡ t → cond t (Some e.1) (lookup (is_at (group_order k)) es) ≡ Some x
        → (lookup (is_at (group_order k)) es ≡ Some x → Contains (keys_of es) k) → Contains (keys_of (e ∷ es)) k
    by true t found ih = in_first e.0 (keys_of es) k (sym (exact_group k e.0 t))
    by false t found ih = in_later e.0 (keys_of es) k (ih found)

-- the placements that pass a test are among those that are kept
pub in_kept : {X Y : Type 0} (f : X → Y) (test : X → Bool) (xs : List X) (x : X) → Contains xs x → test x ≡ true → Contains (map f (filter test xs)) (f x)
in_kept f test [] x h passes = absurd (none_in x h)
in_kept f test (y ∷ ys) x h passes = by (test y) refl (in_cases y ys x h) (λ more. in_kept f test ys x more passes)
  where
    by : (t : Bool) → test y ≡ t → (y ≡ x) ⊎ Contains ys x → (Contains ys x → Contains (map f (filter test ys)) (f x))
        → Contains (map f (cond t (y ∷ filter test ys) (filter test ys))) (f x)
    by true t (inl e) ih = in_first (f y) (map f (filter test ys)) (f x) (ap f e)
    by true t (inr more) ih = in_later (f y) (map f (filter test ys)) (f x) (ih more)
    by false t (inl e) ih = absurd (let passed : test y ≡ true = rw e passes in cc)
    by false t (inr more) ih = ih more
