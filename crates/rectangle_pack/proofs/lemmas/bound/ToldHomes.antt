-- The homes of a packing as it is told, under the names that the collection has for its groups: a step may name a group by another
-- name that equals it.
use Rattle.rectangle_pack_sections.proofs.Std.{◌≡◌, suc, List, [], ◌∷◌, get_or, refl, sym, ◌∙◌, ap, arith, Bool, true, false, cond, map, remove}
use Rattle.rectangle_pack_sections.proofs.Std.{All, All-nil, All-cons, All-head, All-tail, All-weaker, All-permutation, AllPairs, AllZip, Any, Contains, Some, Ordering, Equal, Equal-is}
use Rattle.rectangle_pack_sections.proofs.Std.{IsTotalOrder, is_eq, eq_by_cmp, lookup, is_at, keys_of, list_any, IsDistinct, IsDistinct-tail, IsDistinct-IsPermutation, tied_itself}
use Rattle.rectangle_pack_sections.proofs.Std.{IsPermutation, IsPermutation-refl, IsPermutation-trans, IsPermutation-cons, IsPermutation-remove}
use Rattle.std.proofs.lemmas.List.Folds.{list_any-from_Any}
use Rattle.std.proofs.lemmas.List.Sorted.{Contains-permutation}
use Rattle.std.proofs.lemmas.Map.Keys.{IsDistinct-from_apart}
use Rattle.std.proofs.lemmas.Map.Made.{Contains-tail}
use Rattle.rectangle_pack_sections.specs.declared.group.Group.{Group}
use Rattle.rectangle_pack_sections.specs.Boxes.{Size}
use Rattle.rectangle_pack_sections.specs.Exclusions.{are_excluded}
use Rattle.rectangle_pack_packing.specs.declared.answer.Placement.{Placement}
use Rattle.rectangle_pack_packing.specs.declared.pack.told.Step.{Step}
use Rattle.rectangle_pack_packing.specs.Packing.{AreKeptApart}
use Rattle.rectangle_pack_packing.specs.Placed.{ArePlacedWhole}
use Rattle.rectangle_pack_packing.specs.ToldLaws.{home_of}
use Rattle.rectangle_pack_sections.proofs.lemmas.groups.Excluded.{excluded-alike}
use Rattle.rectangle_pack_sections.proofs.lemmas.util.Maps.{congr_right, is_at-back, lookup-equal}
use Rattle.rectangle_pack_sections.proofs.lemmas.util.Zips.{AllZip-weaker}
use Rattle.rectangle_pack_packing.proofs.lemmas.packing.Orders.{IsDistinct-apart}
use Rattle.rectangle_pack.proofs.lemmas.bound.InBins.{AllPairs-alike}

-- tests that agree on elements that are alike find the same
any-alike : {X Y : Type 0} (E : X → Y → Type 0) (p : X → Bool) (q : Y → Bool) → ((x : X) (y : Y) → E x y → p x ≡ q y) → (xs : List X) (ys : List Y)
    → AllZip E xs ys → list_any p xs ≡ list_any q ys
any-alike E p q agree [] [] h = refl
any-alike E p q agree [] (y ∷ ys) h = absurd h
any-alike E p q agree (x ∷ xs) [] h = absurd h
any-alike E p q agree (x ∷ xs) (y ∷ ys) h = rw (agree x y h.0, any-alike E p q agree xs ys h.1) refl

-- a relation of what is made of the elements
zip-made : {X Y Z : Type 0} (f : X → Y) (R : Y → Z → Type 0) (xs : List X) (zs : List Z) → AllZip (λ x z. R (f x) z) xs zs → AllZip R (map f xs) zs
zip-made f R [] [] h = tt
zip-made f R [] (z ∷ zs) h = absurd h
zip-made f R (x ∷ xs) [] h = absurd h
zip-made f R (x ∷ xs) (z ∷ zs) h = (h.0, zip-made f R xs zs h.1)

zip-names : {X Y Z : Type 0} (f : Y → Z) (R : X → Z → Type 0) (xs : List X) (ys : List Y) → AllZip (λ x y. R x (f y)) xs ys → AllZip R xs (map f ys)
zip-names f R [] [] h = tt
zip-names f R [] (y ∷ ys) h = absurd h
zip-names f R (x ∷ xs) [] h = absurd h
zip-names f R (x ∷ xs) (y ∷ ys) h = (h.0, zip-names f R xs ys h.1)

module _ {K : Type 0} {cmp : K → K → Ordering} (o : IsTotalOrder cmp) where
  -- the name under which a list is found
  pub record IsListed {X : Type 0} (groups : List (K × X)) (name : K) : Type 0 where
    pub key : K
    pub same : cmp name key ≡ Equal
    pub there : Contains (keys_of groups) key

  listed : {X : Type 0} (name : K) (groups : List (K × X)) (x : X) → lookup (is_at (cmp name)) groups ≡ Some x → IsListed groups name
  listed name [] x found = absurd cc
  listed {X} name (g ∷ groups) x found = by (is_at (cmp name) g.0) refl found (listed name groups x)
    where
      by : (b : Bool) → is_at (cmp name) g.0 ≡ b → cond b (Some g.1) (lookup (is_at (cmp name)) groups) ≡ Some x
          → (lookup (is_at (cmp name)) groups ≡ Some x → IsListed groups name) → IsListed (g ∷ groups) name
      by true e at rest = record { key = g.0; same = (Equal-is (cmp name g.0)).0 e; there = (0, omega arith, refl) }
      by false e at rest =
          let later = rest at in
          let (i, within, is) = later.there in
          record { key = later.key; same = later.same; there = (suc i, omega (arith, within), is) }

  -- names that differ, each of a list of names that differ, and all of these among them: they are these names in another order
  pub same_names : (ks names : List K) → IsDistinct (eq_by_cmp cmp) ks → IsDistinct (eq_by_cmp cmp) names → All (Contains ks) names
      → All (λ k. list_any (is_at (cmp k)) names ≡ true) ks → IsPermutation ks names
  same_names [] [] distinct differ there among = IsPermutation-refl []
  same_names (k ∷ ks) [] distinct differ there among =
      let no : false ≡ true = All-head (λ (x : K). list_any (is_at (cmp x)) [] ≡ true) k ks among in
      absurd cc
  same_names ks (name ∷ names) distinct differ there among =
      let e = eq_by_cmp cmp in
      let (i, within, is) = All-head (Contains ks) name names there in
      let others = remove ks i in
      let moved : IsPermutation ks (name ∷ others) = IsPermutation-remove ks i name within (sym is) in
      let still : IsDistinct e (name ∷ others) = IsDistinct-IsPermutation e (λ x y. is_at-back o x y) ks (name ∷ others) moved distinct in
      let apart : All (λ y. e name y ≡ false) names = IsDistinct-apart e name names differ in
      let beside : All (λ y. e name y ≡ false) others = IsDistinct-apart e name others still in
      let Among : List K → K → Type 0 = λ ns x. list_any (is_at (cmp x)) ns ≡ true in
      let later : All (Contains others) names = λ k d lt.
      let m = get_or names k d in
      Contains-tail name others m
      (λ same. let no : true ≡ false = sym (ap is_eq (tied_itself o name)) ∙ ap (λ y. e name y) same ∙ apart k d lt in cc)
      (Contains-permutation ks (name ∷ others) m moved (All-tail (Contains ks) name names there k d lt)) in
      let all : All (Among (name ∷ names)) others = All-tail (Among (name ∷ names)) name others (All-permutation (Among (name ∷ names)) ks (name ∷ others) moved among) in
      let covered : All (Among names) others = λ k d lt.
      let m = get_or others k d in
      let differs : is_at (cmp m) name ≡ false = is_at-back o m name ∙ beside k d lt in
      rw differs at (all k d lt) in
      IsPermutation-trans ks (name ∷ others) (name ∷ names) moved
      (IsPermutation-cons name others names (same_names others names (IsDistinct-tail e name others still) (IsDistinct-tail e name names differ) later covered))

module _ {Id B G : Type 0} {group_cmp : Group G Id → Group G Id → Ordering} (o : IsTotalOrder group_cmp) (cmp : Id → Id → Ordering)
    (bin_cmp : B → B → Ordering) (sizes : List (Id × Size)) (groups : List (Group G Id × List Id)) where
  -- a home, under the name that the collection has for its group
  abbrev IsAlike : Group G Id × B → Group G Id × B → Type 0
  IsAlike home other = (group_cmp home.0 other.0 ≡ Equal) × (other.1 ≡ home.1)

  -- the homes of the steps, under these names
  pub record AreListedHomes (steps : List (Step Id G B)) (placements : List (Placement Id B)) : Type 0 where
    pub homes : List (Group G Id × B)
    pub alike : AllZip (λ step home. IsAlike (home_of step) home) steps homes
    pub there : All (Contains (keys_of groups)) (map (λ home. home.0) homes)
    pub whole : ArePlacedWhole cmp bin_cmp group_cmp sizes groups homes placements

  pub homes_listed : (steps : List (Step Id G B)) (placements : List (Placement Id B))
      → ArePlacedWhole cmp bin_cmp group_cmp sizes groups (map home_of steps) placements → AreListedHomes steps placements
  homes_listed [] placements none = record { homes = []; alike = tt; there = All-nil (Contains (keys_of groups)); whole = none }
  homes_listed (step ∷ steps) placements (ids, first, later, found, placed, whole, joined) =
      let rest = homes_listed steps later whole in
      let name = listed o step.group groups ids found in
      record {
        homes = (name.key, step.bin) ∷ rest.homes;
        alike = ((name.same, refl), rest.alike);
        there = All-cons (Contains (keys_of groups)) name.key (map (λ home. home.0) rest.homes) name.there rest.there;
        whole = (ids, first, later, sym (lookup-equal o step.group name.key name.same groups) ∙ found, placed, rest.whole, joined);
      }

  module _ (steps : List (Step Id G B)) (placements : List (Placement Id B)) (h : AreListedHomes steps placements) where
    -- they name all groups, each once
    pub homes_name_all : IsDistinct (eq_by_cmp group_cmp) (keys_of groups)
        → AllPairs (λ one later. is_at (group_cmp later.group) one.group ≡ false) steps
        → All (λ name. Any (λ step. is_at (group_cmp name) step.group ≡ true) steps) (keys_of groups)
        → IsPermutation (keys_of groups) (map (λ home. home.0) h.homes)
    homes_name_all distinct once all =
        let name : Group G Id × B → Group G Id = λ home. home.0 in
        let IsNamed : Step Id G B → Group G Id → Type 0 = λ step key. group_cmp step.group key ≡ Equal in
        let named : AllZip IsNamed steps (map name h.homes) =
        zip-names name IsNamed steps h.homes
        (AllZip-weaker (λ step home. IsAlike (home_of step) home) (λ step home. IsNamed step (name home)) (λ step home is. is.0) steps h.homes h.alike) in
        let differ : AllPairs (λ x y. is_at (group_cmp x) y ≡ false) (map name h.homes) =
        AllPairs-alike IsNamed (λ one later. is_at (group_cmp later.group) one.group ≡ false) (λ x y. is_at (group_cmp x) y ≡ false)
        (λ one later x y first second apart.
        is_at-back o x y
        ∙ ap is_eq (sym (o.congr later.group y x second) ∙ sym (congr_right o one.group x later.group first))
        ∙ apart) steps (map name h.homes) named once in
        let among : All (λ k. list_any (is_at (group_cmp k)) (map name h.homes) ≡ true) (keys_of groups) =
        All-weaker (λ k. Any (λ step. is_at (group_cmp k) step.group ≡ true) steps) (λ k. list_any (is_at (group_cmp k)) (map name h.homes) ≡ true)
        (λ k some. sym (any-alike IsNamed (λ step. is_at (group_cmp k) step.group) (is_at (group_cmp k))
        (λ step key is. ap is_eq (congr_right o step.group key k is)) steps (map name h.homes) named)
        ∙ list_any-from_Any (λ step. is_at (group_cmp k) step.group) steps some) (keys_of groups) all in
        same_names o (keys_of groups) (map name h.homes) distinct (IsDistinct-from_apart (eq_by_cmp group_cmp) (map name h.homes) differ) h.there among

    -- groups that are excluded are apart in them
    pub homes_apart : (partners : List (Group G Id × List (Group G Id))) → AreKeptApart group_cmp bin_cmp partners (map home_of steps)
        → AreKeptApart group_cmp bin_cmp partners h.homes
    homes_apart partners apart =
        let Apart : Group G Id × B → Group G Id × B → Type 0 = λ a b. are_excluded group_cmp partners a.0 b.0 ≡ true → is_at (bin_cmp a.1) b.1 ≡ false in
        AllPairs-alike IsAlike Apart Apart
        (λ a b x y first second here excluded. rw (first.1, second.1) (here (excluded-alike o partners a.0 x.0 b.0 y.0 first.0 second.0 ∙ excluded)))
        (map home_of steps) h.homes (zip-made home_of IsAlike steps h.homes h.alike) apart
