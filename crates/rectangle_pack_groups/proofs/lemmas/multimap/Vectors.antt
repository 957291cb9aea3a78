-- Maps from keys to vectors, seen as maps from keys to lists.
use Rattle.rectangle_pack_sections.proofs.Std.{◌≡◌, List, [], ◌∷◌, length, refl, ap, sym, ◌∙◌, cond, true, false, Bool, Option, Some, None, is_some, filter}
use Rattle.rectangle_pack_sections.proofs.Std.{nat_lt, IsTotalOrder, Equal-is, Ordering, Less, Equal, Greater, Vec, option_map, lookup, set_value, keys_of}
use Rattle.rectangle_pack_sections.proofs.Std.{match_ordering, is_eq, is_at, insert_entry, keys_of-map_values}
use Rattle.rectangle_pack_sections.specs.Groups.{lists_of}
use Rattle.rectangle_pack_groups.specs.private.Multimaps.{filled, items_of}
use Rattle.rectangle_pack_sections.proofs.lemmas.util.Maps.{lookup-equal, set_value-map_values, insert_entry-map_values, is_some-option_map, none_of}
use Rattle.rectangle_pack_sections.proofs.lemmas.groups.Lists.{lookup-lists}
use Rattle.rectangle_pack_sections.proofs.Std.{ℕ, ◌+◌, ◌++◌, arith, map, sum, values_of, sum_by-cons, All, All-head, unwrap_or, tied_itself}

-- an insert, seen as lists
pub lists_of-insert_entry : {K X A : Type 0} (cmp : K → K → Ordering) (es : List (K × Vec X A)) (k : K) (v : Vec X A)
    → lists_of (insert_entry cmp es k v) ≡ insert_entry cmp (lists_of es) k v.items
lists_of-insert_entry cmp es k v = insert_entry-map_values (λ w. w.items) cmp es k v

-- a value that is written, seen as a list
pub lists_of-set_value : {K X A : Type 0} (test : K → Bool) (es : List (K × Vec X A)) (w : Vec X A)
    → lists_of (set_value test es w) ≡ set_value test (lists_of es) w.items
lists_of-set_value test es w = set_value-map_values (λ v. v.items) test es w

-- a new key with an empty list
pub filled-insert_entry : {K X : Type 0} (cmp : K → K → Ordering) (es : List (K × List X)) (k : K) → lookup (is_at (cmp k)) es ≡ None
    → filled (insert_entry cmp es k []) ≡ filled es
filled-insert_entry cmp [] k absent = refl
filled-insert_entry {X = X} cmp (e ∷ es) k absent = at (cmp k e.0) absent (filled-insert_entry cmp es k)
  where
    at : (o : Ordering) → cond (is_eq o) (Some e.1) (lookup (is_at (cmp k)) es) ≡ None → (lookup (is_at (cmp k)) es ≡ None → filled (insert_entry cmp es k [])
        ≡ filled es) → filled (match_ordering o ((k, []) ∷ e ∷ es) ((e.0, []) ∷ es) (e ∷ insert_entry cmp es k [])) ≡ filled (e ∷ es)
    at Less h ih = refl
    at Equal h ih = absurd cc
    at Greater h ih = rw (ih h) refl

-- the entries with an item, seen as lists
pub lists_of-filter : {K X A : Type 0} (es : List (K × Vec X A)) → lists_of (filter (λ e. nat_lt 0 (length e.1.items)) es) ≡ filled (lists_of es)
lists_of-filter [] = refl
lists_of-filter (e ∷ es) = at (nat_lt 0 (length e.1.items)) (lists_of-filter es)
  where
    at : (b : Bool) → lists_of (filter (λ e. nat_lt 0 (length e.1.items)) es) ≡ filled (lists_of es)
        → lists_of (cond b (e ∷ filter (λ e. nat_lt 0 (length e.1.items)) es) (filter (λ e. nat_lt 0 (length e.1.items)) es))
        ≡ cond b ((e.0, e.1.items) ∷ filled (lists_of es)) (filled (lists_of es))
    at true ih = ap (λ l. (e.0, e.1.items) ∷ l) ih
    at false ih = ih

-- the keys are those of the map
pub keys-lists : {K X A : Type 0} (es : List (K × Vec X A)) → keys_of (lists_of es) ≡ keys_of es
keys-lists es = keys_of-map_values (λ v. v.items) es

-- a key has a list where it has a vector
pub known-lists : {K X A : Type 0} (test : K → Bool) (es : List (K × Vec X A)) → is_some (lookup test (lists_of es)) ≡ is_some (lookup test es)
known-lists test es = ap is_some (lookup-lists test es) ∙ is_some-option_map (λ v. v.items) (lookup test es)

-- where the lists are the same, look-ups find the same items
pub items-same : {K X A : Type 0} (test : K → Bool) (new old : List (K × Vec X A)) → lists_of new ≡ lists_of old
    → items_of (lookup test new) ≡ items_of (lookup test old)
items-same {X = X} test new old same =
    ap (λ (found : Option (List X)). unwrap_or found []) (sym (lookup-lists test new) ∙ ap (lookup test) same ∙ lookup-lists test old)

-- and something at the same keys
pub known-same : {K X A : Type 0} (test : K → Bool) (new old : List (K × Vec X A)) → lists_of new ≡ lists_of old
    → is_some (lookup test new) ≡ is_some (lookup test old)
known-same test new old same = sym (known-lists test new) ∙ ap (λ es. is_some (lookup test es)) same ∙ known-lists test old

-- a key is new, and gets a vector with no items
module _ {K X A : Type 0} {cmp : K → K → Ordering} (o : IsTotalOrder cmp) (k n : K) (old new : List (K × Vec X A)) (v : Vec X A) (equal : cmp k n ≡ Equal)
    (absent : is_some (lookup (is_at (cmp k)) old) ≡ false) (empty : v.items ≡ []) where
  none_new : lookup (is_at (cmp n)) old ≡ None
  none_new = sym (lookup-equal o k n equal old) ∙ none_of (lookup (is_at (cmp k)) old) absent

  -- no list changes
  pub filled-new_key : filled (lists_of (insert_entry cmp old n v)) ≡ filled (lists_of old)
  filled-new_key =
      ap filled (lists_of-insert_entry cmp old n v) ∙ ap (λ list. filled (insert_entry cmp (lists_of old) n list)) empty
      ∙ filled-insert_entry cmp (lists_of old) n (lookup-lists (is_at (cmp n)) old ∙ ap (option_map (λ w. w.items)) none_new)

  module _ (seen : (q : K) → lookup (is_at (cmp q)) new ≡ cond (is_at (cmp n) q) (Some v) (lookup (is_at (cmp q)) old)) where
    -- no items are added
    pub items-new_key : (q : K) → items_of (lookup (is_at (cmp q)) new) ≡ items_of (lookup (is_at (cmp q)) old)
    items-new_key q = by (is_eq (cmp n q)) refl
      where
        by : (b : Bool) → is_eq (cmp n q) ≡ b → items_of (lookup (is_at (cmp q)) new) ≡ items_of (lookup (is_at (cmp q)) old)
        by true e =
            ap items_of (seen q) ∙ ap (λ b. items_of (cond b (Some v) (lookup (is_at (cmp q)) old))) e
            ∙ empty ∙ ap items_of (sym (sym (lookup-equal o n q ((Equal-is _).0 e) old) ∙ none_new))
        by false e = ap items_of (seen q) ∙ ap (λ b. items_of (cond b (Some v) (lookup (is_at (cmp q)) old))) e

    -- nothing changes at the other keys
    pub others-new_key : (q : K) → is_eq (cmp k q) ≡ false → lookup (is_at (cmp q)) new ≡ lookup (is_at (cmp q)) old
    others-new_key q other = rw (seen q, ← o.congr k n q equal, other) refl

    -- and the key is there
    pub has-new_key : is_some (lookup (is_at (cmp k)) new) ≡ true
    has-new_key = rw (seen k, ← o.congr k n k equal, tied_itself o k) refl

-- how many entries the lists have in all
abbrev pub entries_in : {K X A : Type 0} → List (K × Vec X A) → ℕ
entries_in es = sum (map length (values_of (lists_of es)))

pub entries_in-cons : {K X A : Type 0} (x : K × Vec X A) (xs : List (K × Vec X A)) → entries_in (x ∷ xs) ≡ length x.1.items + entries_in xs
entries_in-cons x xs = sum_by-cons (λ n. n) (length x.1.items) (map length (values_of (lists_of xs)))

pub entries_in-append : {K X A : Type 0} (xs ys : List (K × Vec X A)) → entries_in (xs ++ ys) ≡ entries_in xs + entries_in ys
entries_in-append [] ys = omega arith
entries_in-append {K} {X} {A} (x ∷ xs) ys = omega (arith, entries_in-append xs ys, entries_in-cons x (xs ++ ys), entries_in-cons x xs)

-- the item of a list of one
pub one_item : {X : Type 0} (P : X → Type 0) (xs : List X) → length xs ≡ 1 → All P xs → (x : X) × P x × (xs ≡ x ∷ [])
one_item P [] long all = absurd (omega arith)
one_item P (x ∷ []) long all = (x, All-head P x [] all, refl)
one_item P (x ∷ y ∷ ys) long all = absurd (omega arith)
