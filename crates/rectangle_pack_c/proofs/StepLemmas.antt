-- The groups of steps, and those that no step names: together they are the groups of the collection.
use Rattle.rectangle_pack_c.proofs.Std.{◌≡◌, ◌⊎◌, inl, inr, ℕ, true, false, not, ◌||◌, List, [], ◌∷◌, ◌++◌, get_or, refl, ap, sym, ◌∙◌, subst}
use Rattle.rectangle_pack_c.proofs.Std.{All, AllPairs, Contains, map, filter, IsPermutation, IsDistinct, nat_cmp, eq_by_cmp, keys_of, is_at, list_any}
use Rattle.rectangle_pack_c.proofs.Std.{All-nil, All-cons, All-head, All-tail, All-weaker, All-contains, AllPairs-cons, Contains-get_or, Contains-permutation}
use Rattle.rectangle_pack_c.proofs.Std.{Contains-append_cases, IsDistinct-IsPermutation, IsDistinct-tail}
use Rattle.std.proofs.lemmas.List.Sorted.{IsPermutation-append_left, IsPermutation-trans}
use Rattle.std.proofs.lemmas.Map.Keys.{IsDistinct-from_apart}
use Rattle.rectangle_pack_sections.proofs.lemmas.util.Lists.{AllPairs-head, AllPairs-tail}
use Rattle.rectangle_pack_sections.proofs.lemmas.util.Maps.{is_at-back}
use Rattle.rectangle_pack_packing.proofs.lemmas.packing.Orders.{IsDistinct-apart}
use Rattle.rectangle_pack_packing.specs.declared.pack.told.Step.{Step}
use Rattle.rectangle_pack_packing.specs.ToldLaws.{home_of}
use Rattle.rectangle_pack.specs.declared.grouped_rects_to_place.Group.{Group}
use Rattle.rectangle_pack.specs.declared.pack.Placement.{Placement}
use Rattle.rectangle_pack.specs.Groups.{Collection}
use Rattle.rectangle_pack.specs.Placed.{ArePlacedWhole}
use Rattle.rectangle_pack.specs.Searched.{AreNotNamed, is_named}
use Rattle.rectangle_pack.proofs.lemmas.bound.ToldHomes.{same_names}
use Rattle.rectangle_pack.proofs.lemmas.searching.NotNamed.{filtered}
use Rattle.rectangle_pack_c.specs.Collections.{group_order}
use Rattle.rectangle_pack_c.proofs.OrderLemmas.{group_order_total, group_same, group_swap}
use Rattle.rectangle_pack_c.proofs.WholeLemmas.{key_listed, pairs_none}
use Rattle.rectangle_pack_c.proofs.PlacedLemmas.{any_found}
use Rattle.rectangle_pack_c.proofs.FittingLemmas.{pairs_left}

abbrev name : Step ℕ ℕ ℕ → Group ℕ ℕ
name step = step.group

-- the groups of steps are those of their homes
names_of_homes : (steps : List (Step ℕ ℕ ℕ)) → map (λ (h : Group ℕ ℕ × ℕ). h.0) (map home_of steps) ≡ map name steps
names_of_homes [] = refl
names_of_homes (step ∷ steps) = ap (λ l. step.group ∷ l) (names_of_homes steps)

-- what holds of the group of each step
all_names : (P : Group ℕ ℕ → Type 0) (steps : List (Step ℕ ℕ ℕ)) → All (λ step. P step.group) steps → All P (map name steps)
all_names P [] h = All-nil P
all_names P (step ∷ steps) h =
    All-cons P step.group (map name steps) (All-head (λ (s : Step ℕ ℕ ℕ). P s.group) step steps h)
    (all_names P steps (All-tail (λ (s : Step ℕ ℕ ℕ). P s.group) step steps h))

-- names of which no two are equal
apart_names : (names : List (Group ℕ ℕ)) → IsDistinct (eq_by_cmp group_order) names → AllPairs (λ x y. is_at (group_order x) y ≡ false) names
apart_names [] d = pairs_none (λ x y. is_at (group_order x) y ≡ false)
apart_names (x ∷ xs) d =
    AllPairs-cons (λ x y. is_at (group_order x) y ≡ false) x xs (IsDistinct-apart (eq_by_cmp group_order) x xs d)
    (apart_names xs (IsDistinct-tail (eq_by_cmp group_order) x xs d))

-- steps of which no two name one group
apart_steps : (steps : List (Step ℕ ℕ ℕ)) → AllPairs (λ one later. is_at (group_order later.group) one.group ≡ false) steps
    → AllPairs (λ x y. is_at (group_order x) y ≡ false) (map name steps)
apart_steps [] h = pairs_none (λ x y. is_at (group_order x) y ≡ false)
apart_steps (step ∷ steps) h =
    let Once : Step ℕ ℕ ℕ → Step ℕ ℕ ℕ → Type 0 = λ one later. is_at (group_order later.group) one.group ≡ false in
    let Apart : Group ℕ ℕ → Group ℕ ℕ → Type 0 = λ x y. is_at (group_order x) y ≡ false in
    AllPairs-cons Apart step.group (map name steps)
    (all_names (Apart step.group) steps
    (All-weaker (Once step) (λ later. Apart step.group later.group) (λ later e. group_swap step.group later.group ∙ e) steps (AllPairs-head Once step steps h)))
    (apart_steps steps (AllPairs-tail Once step steps h))

named_in : (group : Group ℕ ℕ) (steps : List (Step ℕ ℕ ℕ)) → is_named group_order steps group ≡ list_any (is_at (group_order group)) (map name steps)
named_in group [] = refl
named_in group (step ∷ steps) = ap (λ t. is_at (group_order group) step.group || t) (named_in group steps)

-- the group of a step that is done is in the collection
pub steps_known : (all : Collection ℕ ℕ) (steps : List (Step ℕ ℕ ℕ)) (ps : List (Placement ℕ ℕ))
    → ArePlacedWhole nat_cmp nat_cmp group_order all.sizes all.groups (map home_of steps) ps
    → All (λ step. Contains (keys_of all.groups) step.group) steps
steps_known all [] ps none = All-nil (λ (step : Step ℕ ℕ ℕ). Contains (keys_of all.groups) step.group)
steps_known all (step ∷ steps) ps (ids, first, later, listed, placed, rest, joined) =
    All-cons (λ (step : Step ℕ ℕ ℕ). Contains (keys_of all.groups) step.group) step steps (key_listed all.groups step.group ids listed)
    (steps_known all steps later rest)

-- the groups of a collection that no step names
pub left_not_named : (all : Collection ℕ ℕ) (steps : List (Step ℕ ℕ ℕ))
    → AreNotNamed group_order all steps (filter (λ group. not (is_named group_order steps group)) (keys_of all.groups))
left_not_named all steps = filtered group_order all steps (filter (λ group. not (is_named group_order steps group)) (keys_of all.groups)) refl

module _ (all : Collection ℕ ℕ) (distinct : IsDistinct (eq_by_cmp group_order) (keys_of all.groups)) (steps : List (Step ℕ ℕ ℕ))
    (once : AllPairs (λ one later. is_at (group_order later.group) one.group ≡ false) steps)
    (known : All (λ step. Contains (keys_of all.groups) step.group) steps) (left : List (Group ℕ ℕ)) (are : AreNotNamed group_order all steps left) where
  both_once : IsDistinct (eq_by_cmp group_order) (are.named ++ left)
  both_once = IsDistinct-IsPermutation (eq_by_cmp group_order) (λ x y. is_at-back group_order_total x y) (keys_of all.groups) (are.named ++ left)
      are.groups distinct

  named_once : IsDistinct (eq_by_cmp group_order) are.named
  named_once = IsDistinct-from_apart (eq_by_cmp group_order) are.named
      (pairs_left (λ x y. is_at (group_order x) y ≡ false) are.named left (apart_names (are.named ++ left) both_once))

  -- the group of a step is among those that are named
  is_there : (step : Step ℕ ℕ ℕ) → Contains steps step → Contains (keys_of all.groups) step.group → Contains are.named step.group
  is_there step inside there =
      by (Contains-append_cases are.named left step.group (Contains-permutation (keys_of all.groups) (are.named ++ left) step.group are.groups there))
    where
      by : Contains are.named step.group ⊎ Contains left step.group → Contains are.named step.group
      by (inl c) = c
      by (inr c) =
          let no : is_named group_order steps step.group ≡ false =
          All-contains (λ group. is_named group_order steps group ≡ false) left step.group are.none c in
          let yes : is_named group_order steps step.group ≡ true =
          any_found (λ (s : Step ℕ ℕ ℕ). is_at (group_order step.group) s.group) steps step inside (group_same step.group) in
          absurd cc

  -- each group of the collection has a step, or no step names it
  pub named_or_left : IsPermutation (keys_of all.groups) (map (λ h. h.0) (map home_of steps) ++ left)
  named_or_left =
      let names = map name steps in
      let there : All (Contains are.named) names =
      all_names (Contains are.named) steps
      (λ k d low. is_there (get_or steps k d) (Contains-get_or steps k d low) (known k d low)) in
      let among : All (λ k. list_any (is_at (group_order k)) names ≡ true) are.named =
      All-weaker (λ group. is_named group_order steps group ≡ true) (λ k. list_any (is_at (group_order k)) names ≡ true)
      (λ group e. sym (named_in group steps) ∙ e) are.named are.some in
      let differ : IsDistinct (eq_by_cmp group_order) names = IsDistinct-from_apart (eq_by_cmp group_order) names (apart_steps steps once) in
      let same : IsPermutation are.named names = same_names group_order_total are.named names named_once differ there among in
      subst (λ ns. IsPermutation (keys_of all.groups) (ns ++ left)) (sym (names_of_homes steps))
      (IsPermutation-trans (keys_of all.groups) (are.named ++ left) (names ++ left) are.groups (IsPermutation-append_left left are.named names same))
