-- Which groups no step names.
use Rattle.rectangle_pack_sections.proofs.Std.{ℕ, ◌+◌, ◌<◌, Bor, cond, length, get_or, take, take_more, map_push, map-append, filter-append, append-nil, deref_pair}
use Rattle.rectangle_pack_sections.proofs.Std.{◌≡◌, Bool, true, false, not, List, [], ◌∷◌, ◌++◌, ◌||◌, refl, sym, ap, ◌∙◌, filter, map, All, All-weaker, All-contains, All-contains_itself, All-from_recursion}
use Rattle.rectangle_pack_sections.proofs.Std.{AllByRecursion, Contains, Ordering, IsTotalOrder, is_at, keys_of, eq_by_cmp, eq_by_cmp_equiv, list_any, filter_passes, IsDistinct, IsDistinct-head, IsDistinct-tail}
use Rattle.rectangle_pack_sections.proofs.Std.{IsDistinct-IsPermutation, IsPermutation}
use Rattle.std.proofs.lemmas.List.Sorted.{IsPermutation-filter_both}
use Rattle.std.proofs.lemmas.Map.Views.{list_any-from_Contains}
use Rattle.rectangle_pack_sections.specs.declared.box_size_heuristics.named.Heuristic.{Heuristic}
use Rattle.rectangle_pack_sections.specs.declared.group.Group.{Group}
use Rattle.rectangle_pack_sections.specs.Groups.{Collection}
use Rattle.rectangle_pack_packing.specs.declared.pack.told.Step.{Step}
use Rattle.rectangle_pack_packing.specs.ToldLaws.{step_to}
use Rattle.rectangle_pack_packing.specs.private.Excluded.{are_in}
use Rattle.rectangle_pack.specs.Searched.{AreNotNamed, is_named}
use Rattle.rectangle_pack.proofs.lemmas.bound.Sets.{in-more}

false_from_not : (b : Bool) → not b ≡ true → b ≡ false
false_from_not false h = refl
false_from_not true h = absurd (let e : false ≡ true = h in cc)

module _ {Id B G : Type 0} (group_cmp : Group G Id → Group G Id → Ordering) (all : Collection Id G) where
  -- those that are filtered out
  pub filtered : (steps : List (Step Id G B)) (left : List (Group G Id))
      → left ≡ filter (λ name. not (is_named group_cmp steps name)) (keys_of all.groups) → AreNotNamed group_cmp all steps left
  filtered steps left is =
      let test : Group G Id → Bool = is_named group_cmp steps in
      let none : Group G Id → Bool = λ name. not (test name) in
      let names = keys_of all.groups in
      rw is (record {
        named = filter test names;
        groups = IsPermutation-filter_both test none (λ name. refl) names;
        some = filter_passes test names;
        none = All-weaker (λ name. none name ≡ true) (λ name. test name ≡ false) (λ name h. false_from_not (test name) h) (filter none names)
            (filter_passes none names);
      })

module _ {K : Type 0} {cmp : K → K → Ordering} (o : IsTotalOrder cmp) where
  absent : (x : K) (some left : List K) → AllByRecursion (λ y. eq_by_cmp cmp x y ≡ false) (some ++ left) → All (λ y. eq_by_cmp cmp x y ≡ false) left
  absent x [] left h = All-from_recursion (λ y. eq_by_cmp cmp x y ≡ false) left h
  absent x (s ∷ some) left h = absent x some left h.1

  -- of names that differ, the later ones are not among the ones before
  later_absent : (some left : List K) → IsDistinct (eq_by_cmp cmp) (some ++ left) → All (λ name. list_any (is_at (cmp name)) some ≡ false) left
  later_absent [] left d = All-weaker (Contains left) (λ name. false ≡ false) (λ name c. refl) left (All-contains_itself left)
  later_absent (x ∷ some) left d =
      let here = absent x some left (IsDistinct-head (eq_by_cmp cmp) x (some ++ left) d) in
      let rest = later_absent some left (IsDistinct-tail (eq_by_cmp cmp) x (some ++ left) d) in
      All-weaker (Contains left) (λ name. list_any (is_at (cmp name)) (x ∷ some) ≡ false) (λ name c.
      let flipped : eq_by_cmp cmp name x ≡ false = sym ((eq_by_cmp_equiv o).symm x name) ∙ All-contains (λ y. eq_by_cmp cmp x y ≡ false) left name here c in
      let others : list_any (is_at (cmp name)) some ≡ false = All-contains (λ n. list_any (is_at (cmp n)) some ≡ false) left name rest c in
      rw (flipped, others) refl) left (All-contains_itself left)

module _ {Id B G : Type 0} {group_cmp : Group G Id → Group G Id → Ordering} (o : IsTotalOrder group_cmp) where
  abbrev name_of : Group G Id × B → Group G Id
  name_of home = home.0

  named-homes : (h : Heuristic) (homes : List (Group G Id × B)) (name : Group G Id)
      → is_named group_cmp (map (step_to h) homes) name ≡ list_any (is_at (group_cmp name)) (map name_of homes)
  named-homes h [] name = refl
  named-homes h (home ∷ homes) name = ap (λ t. is_at (group_cmp name) home.0 || t) (named-homes h homes name)

  -- the steps to homes name the groups that have one, and not the others
  pub homes_named : (all : Collection Id G) (h : Heuristic) (homes : List (Group G Id × B)) (left : List (Group G Id))
      → IsDistinct (eq_by_cmp group_cmp) (keys_of all.groups) → IsPermutation (keys_of all.groups) (map name_of homes ++ left)
      → AreNotNamed group_cmp all (map (step_to h) homes) left
  homes_named all h homes left distinct names =
      let K : Type 0 = Group G Id in
      let having : List K = map name_of homes in
      let apart = IsDistinct-IsPermutation (eq_by_cmp group_cmp) (eq_by_cmp_equiv o).symm (keys_of all.groups) (having ++ left) names distinct in
      record {
        named = having;
        groups = names;
        some = All-weaker (Contains having) (λ name. is_named group_cmp (map (step_to h) homes) name ≡ true)
            (λ name c. named-homes h homes name ∙ list_any-from_Contains (eq_by_cmp_equiv o) name having c) having (All-contains_itself having);
        none = All-weaker (λ name. list_any (is_at (group_cmp name)) having ≡ false) (λ name. is_named group_cmp (map (step_to h) homes) name ≡ false)
            (λ name h. named-homes _ homes name ∙ h) left (later_absent o having left apart);
      }

-- the groups that steps name, one step more at a time
module _ {Id B G : Type 0} {group_cmp : Group G Id → Group G Id → Ordering} (o : IsTotalOrder group_cmp) where
  abbrev group_of : Step Id G B → Group G Id
  group_of step = step.group

  named_among : (name : Group G Id) (steps : List (Step Id G B))
      → is_named group_cmp steps name ≡ list_any (is_at (group_cmp name)) (map group_of steps)
  named_among name [] = refl
  named_among name (step ∷ steps) = ap (λ t. is_at (group_cmp name) step.group || t) (named_among name steps)

  pub named-more : (steps : List (Step Id G B)) (i : ℕ) (step : Step Id G B) (old new : List (Bor (Group G Id))) → i < length steps
      → step ≡ get_or steps i step
      → ((name : Group G Id) → are_in group_cmp new name ≡ cond (is_at (group_cmp step.group) name) true (are_in group_cmp old name))
      → ((name : Group G Id) → are_in group_cmp old name ≡ is_named group_cmp (take i steps) name)
      → (name : Group G Id) → are_in group_cmp new name ≡ is_named group_cmp (take (i + 1) steps) name
  named-more steps i step old new within is updates was name =
      let names : List (Group G Id) = map group_of (take i steps) in
      let more : map group_of (take (i + 1) steps) ≡ names ++ step.group ∷ [] =
      ap (map group_of) (take_more steps i step within ∙ ap (λ s. take i steps ++ s ∷ []) (sym is)) ∙ map_push group_of (take i steps) step in
      in-more o old new step.group names updates (λ other. was other ∙ named_among other (take i steps)) name
      ∙ sym (named_among name (take (i + 1) steps) ∙ ap (list_any (is_at (group_cmp name))) more)

-- the groups that are left out of a list, one group more at a time
module _ {K X : Type 0} (test : K → Bool) (seen : List (Bor K × Bor X)) (next : Bor K × Bor X) where
  abbrev passed : List (Bor K × Bor X) → List K
  passed groups = filter test (keys_of (map deref_pair groups))

  passed-more : passed (seen ++ next ∷ []) ≡ passed seen ++ filter test (next.0.now ∷ [])
  passed-more =
      let es = map deref_pair seen in
      let e = deref_pair next in
      ap (λ (es : List (K × X)). filter test (keys_of es)) (map_push deref_pair seen next)
      ∙ ap (filter test) (map-append (λ (x : K × X). x.0) es (e ∷ []))
      ∙ filter-append test (keys_of es) (e.0 ∷ [])

  pub passed-with : (left more : List K) → left ≡ passed seen → test next.0.now ≡ true → more ≡ left ++ next.0.now ∷ []
      → more ≡ passed (seen ++ next ∷ [])
  passed-with left more is passes pushed =
      let one : filter test (next.0.now ∷ []) ≡ next.0.now ∷ [] = rw passes refl in
      pushed ∙ ap (λ (l : List K). l ++ next.0.now ∷ []) is ∙ sym (passed-more ∙ ap (λ (l : List K). passed seen ++ l) one)

  pub passed-without : (left : List K) → left ≡ passed seen → test next.0.now ≡ false → left ≡ passed (seen ++ next ∷ [])
  passed-without left is fails =
      let none : filter test (next.0.now ∷ []) ≡ [] = rw fails refl in
      is ∙ sym (passed-more ∙ ap (λ (l : List K). passed seen ++ l) none ∙ append-nil (passed seen))
