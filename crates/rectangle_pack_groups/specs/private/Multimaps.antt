-- Lists under keys, to which items are appended, and from which they are taken back.
use Rattle.std.specs.Prelude.{◌≡◌, ℕ, ◌+◌, ◌<◌, ◌≤◌, List, [], ◌∷◌, ◌++◌, Option, Some, None, length, filter, reverse, nat_lt, count_by, unwrap_or, All, Contains}
use Rattle.std.specs.Prelude.{IsSomeAnd, MatchOption, vec_len}
use Rattle.std.specs.Option.{option_map}
use Rattle.std.specs.Vec.{vec_capacity}
use Rattle.std.specs.declared.cmp.Ordering.{Ordering}
use Rattle.std.specs.declared.cmp.Ordering.TheVariants.{Equal}
use Rattle.std.specs.declared.vec.Vec.{Vec}
use Rattle.std.specs.Ordering.{is_eq}
use Rattle.std.specs.Map.{lookup, set_value}
use Rattle.std.specs.BTreeMap.{is_at, insert_entry}
use Rattle.rectangle_pack_sections.specs.Groups.{Appends}

-- the entries whose list has an item
abbrev pub filled : {K X : Type 0} → List (K × List X) → List (K × List X)
filled es = filter (λ e. nat_lt 0 (length e.1)) es

-- how often a key occurs among the keys
abbrev pub times : {K : Type 0} → (K → K → Ordering) → List K → K → ℕ
times cmp keys key = count_by (λ k. is_eq (cmp key k)) keys

-- the items found at a key, which are none where nothing is found
abbrev pub items_of : {X A : Type 0} → Option (Vec X A) → List X
items_of found = unwrap_or (option_map (λ v. v.items) found) []

-- a vector is found, with room for `more` items more
abbrev pub HasRoom : {X A : Type 0} → Option (Vec X A) → ℕ → Type 0
HasRoom found more = IsSomeAnd found (λ v. vec_len v + more ≤ vec_capacity v)

-- a vector is the one of before, followed by `count` of the items
pub record IsAppended {X A : Type 0} (items : List X) (count : ℕ) (before after : Vec X A) : Type 0 where
  pub tail : List X
  pub joined : after.items ≡ before.items ++ tail
  pub long : length tail ≡ count
  pub given : All (Contains items) tail

-- the same (`IsAppended`) of what is found at a key; where nothing was found, nothing is found afterwards
abbrev pub AreAppended : {X A : Type 0} → List X → ℕ → Option (Vec X A) → Option (Vec X A) → Type 0
AreAppended items count before after = MatchOption before (after ≡ None) (λ v. IsSomeAnd after (IsAppended items count v))

-- a list is found: the one of before, or the empty one, followed by `count` of the items
abbrev pub IsAdded : {X : Type 0} → List X → ℕ → Option (List X) → Option (List X) → Type 0
IsAdded {X} items count before after =
    IsSomeAnd after (λ list. (tail : List X) × (list ≡ unwrap_or before [] ++ tail) × (length tail ≡ count) × All (Contains items) tail)

-- taking the last item away at each of the keys, in their order, leads to the lists `start`
abbrev pub TakesBack : {K X : Type 0} → (K → K → Ordering) → List K → List (K × List X) → List (K × List X) → Type 0
TakesBack cmp [] now start = now ≡ start
TakesBack {X = X} cmp (k ∷ ks) now start =
    (list : List X) × (last : X) × (lookup (is_at (cmp k)) now ≡ Some (list ++ last ∷ [])) × TakesBack cmp ks (set_value (is_at (cmp k)) now list) start

-- taking the last item away at each of the keys, from the last key to the first, leads to the lists that were there
-- before, empty lists aside
pub record CanTakeBack {K X : Type 0} (cmp : K → K → Ordering) (keys : List K) (now before : List (K × List X)) : Type 0 where
  pub start : List (K × List X)
  pub back : TakesBack cmp (reverse keys) now start
  pub same : filled start ≡ before

-- a vector with one item, which equals the id, is put at the key
pub record PutsAlone {K Id A : Type 0} (key_cmp : K → K → Ordering) (cmp : Id → Id → Ordering) (old new : List (K × Vec Id A)) (key : K) (id : Id) : Type 0 where
  pub list : Vec Id A
  pub member : Id
  pub equal : cmp id member ≡ Equal
  pub alone : list.items ≡ member ∷ []
  pub put : new ≡ insert_entry key_cmp old key list

-- the list at each of some keys is its old one, or the empty one, followed by the id as often as the key occurs among
-- them; the lists at other keys stay
pub record AppendsAtEach {K Id : Type 0} (key_cmp : K → K → Ordering) (cmp : Id → Id → Ordering) (keys : List K) (id : Id) (old new : List (K × List Id)) : Type 0 where
  pub named : (q : K) → 0 < times key_cmp keys q
      → IsSomeAnd (lookup (is_at (key_cmp q)) new) (Appends cmp (unwrap_or (lookup (is_at (key_cmp q)) old) []) id (times key_cmp keys q))
  pub others : (q : K) → times key_cmp keys q ≡ 0 → lookup (is_at (key_cmp q)) new ≡ lookup (is_at (key_cmp q)) old
