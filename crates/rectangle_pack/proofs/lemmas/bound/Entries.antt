-- The entries of groups, taken by the names of the groups.
use Rattle.rectangle_pack_sections.proofs.Std.{◌≡◌, ℕ, List, [], ◌∷◌, ◌++◌, refl, ◌∙◌, ap, subst, true, false, map, unwrap_or, All, All-head, All-tail, All-weaker}
use Rattle.rectangle_pack_sections.proofs.Std.{Ordering, IsTotalOrder, is_eq, lookup, is_at, keys_of, IsDistinct, IsDistinct-tail, eq_by_cmp, IsPermutation, IsPermutation-map, tied_itself}
use Rattle.std.proofs.Common.{flat_map}
use Rattle.rectangle_pack_sections.specs.Boxes.{Size}
use Rattle.rectangle_pack_packing.specs.Orders.{IsGroupOrder}
use Rattle.rectangle_pack.specs.Needed.{entries}
use Rattle.rectangle_pack_sections.proofs.lemmas.util.Maps.{is_at-back}
use Rattle.rectangle_pack_sections.proofs.lemmas.util.Zips.{AllZip-equal}
use Rattle.rectangle_pack_packing.proofs.lemmas.packing.Orders.{IsDistinct-apart}
use Rattle.rectangle_pack.proofs.lemmas.bound.Permuted.{IsPermutation-flat_map}

flat_map-same : {X Y : Type 0} (f g : X → List Y) (xs : List X) → All (λ x. f x ≡ g x) xs → flat_map f xs ≡ flat_map g xs
flat_map-same f g [] h = refl
flat_map-same {X} {Y} f g (x ∷ xs) h =
    let Same : X → Type 0 = λ y. f y ≡ g y in
    let here : f x ≡ g x = All-head Same x xs h in
    let rest : flat_map f xs ≡ flat_map g xs = flat_map-same f g xs (All-tail Same x xs h) in
    ap (λ (l : List Y). l ++ flat_map f xs) here ∙ ap (λ (l : List Y). g x ++ l) rest

-- the entries of the group of this name
abbrev pub entries_named : {Id K : Type 0} → (K → K → Ordering) → List (K × List Id) → K → List (K × Id)
entries_named cmp groups name = map (λ id. (name, id)) (unwrap_or (lookup (is_at (cmp name)) groups) [])

module _ {Id K : Type 0} {cmp : K → K → Ordering} (o : IsTotalOrder cmp) where
  -- the names of all groups, in order, name all entries, in order
  pub entries-by_names : (groups : List (K × List Id)) → IsDistinct (eq_by_cmp cmp) (keys_of groups)
      → flat_map (entries_named cmp groups) (keys_of groups) ≡ entries groups
  entries-by_names [] distinct = refl
  entries-by_names (g ∷ groups) distinct =
      let name : K = g.0 in
      let Apart : K → Type 0 = λ other. eq_by_cmp cmp name other ≡ false in
      let Same : K → Type 0 = λ other. entries_named cmp (g ∷ groups) other ≡ entries_named cmp groups other in
      let others : All Same (keys_of groups) =
      All-weaker Apart Same
      (λ other apart. let differs : is_at (cmp other) name ≡ false = is_at-back o other name ∙ apart in rw differs refl)
      (keys_of groups) (IsDistinct-apart (eq_by_cmp cmp) name (keys_of groups) distinct) in
      let itself : is_at (cmp name) name ≡ true = ap is_eq (tied_itself o name) in
      let here : entries_named cmp (g ∷ groups) name ≡ map (λ id. (name, id)) g.1 = rw itself refl in
      let rest : flat_map (entries_named cmp (g ∷ groups)) (keys_of groups) ≡ entries groups =
      flat_map-same (entries_named cmp (g ∷ groups)) (entries_named cmp groups) (keys_of groups) others
      ∙ entries-by_names groups (IsDistinct-tail (eq_by_cmp cmp) name (keys_of groups) distinct) in
      ap (λ (l : List (K × Id)). l ++ flat_map (entries_named cmp (g ∷ groups)) (keys_of groups)) here
      ∙ ap (λ (l : List (K × Id)). map (λ id. (name, id)) g.1 ++ l) rest

  -- in another order they name all entries, each once
  pub entries-moved : (groups : List (K × List Id)) (names : List K) → IsDistinct (eq_by_cmp cmp) (keys_of groups) → IsPermutation (keys_of groups) names
      → IsPermutation (entries groups) (flat_map (entries_named cmp groups) names)
  entries-moved groups names distinct moved =
      subst (λ (es : List (K × Id)). IsPermutation es (flat_map (entries_named cmp groups) names)) (entries-by_names groups distinct)
      (IsPermutation-flat_map (entries_named cmp groups) (keys_of groups) names moved)

-- the order of a packing has the names of all groups
pub names-ordered : {Id K : Type 0} (cmp : K → K → Ordering) (MayRate : Size → ℕ → Type 0) (id_cmp : Id → Id → Ordering) (sizes : List (Id × Size))
    (groups : List (K × List Id)) (order : List (ℕ × K)) → IsGroupOrder MayRate cmp id_cmp sizes groups order
    → IsPermutation (keys_of groups) (map (λ entry. entry.1) order)
names-ordered {K = K} cmp MayRate id_cmp sizes groups order by_groups =
    let name : ℕ × K → K = λ entry. entry.1 in
    let names : map name by_groups.unsorted ≡ keys_of groups =
    AllZip-equal _ (λ g. g.0) name (λ g entry is. is.0) groups by_groups.unsorted by_groups.each in
    subst (λ (ks : List K). IsPermutation ks (map name order)) names (IsPermutation-map name by_groups.unsorted order by_groups.permutation)
