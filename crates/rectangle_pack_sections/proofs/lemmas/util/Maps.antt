-- Look-ups and writes at keys that are equal, and in maps whose values are mapped.
use Rattle.rectangle_pack_sections.proofs.Std.{◌≡◌, Bool, true, false, cond, List, [], ◌∷◌, refl, ◌∙◌, sym, ap, Option, Some, None, IsSome, map, list_any}
use Rattle.rectangle_pack_sections.proofs.Std.{ordering_reverse, is_eq, match_ordering, is_some, option_map, Ordering, Less, Equal, Greater, IsTotalOrder}
use Rattle.rectangle_pack_sections.proofs.Std.{eq_by_cmp_equiv, Equal-is, lookup, set_value, keys_of, is_at, insert_entry, lookup-set_value, is_some-lookup}

pub lookup-equal : {K X : Type 0} {cmp : K → K → Ordering} → IsTotalOrder cmp → (x y : K) → cmp x y ≡ Equal → (es : List (K × X))
    → lookup (is_at (cmp x)) es ≡ lookup (is_at (cmp y)) es
lookup-equal o x y h [] = refl
lookup-equal o x y h (e ∷ es) = rw (o.congr x y e.0 h, lookup-equal o x y h es) refl

-- an equal key compares alike on the right too
pub congr_right : {K : Type 0} {cmp : K → K → Ordering} → IsTotalOrder cmp → (x y z : K) → cmp x y ≡ Equal → cmp z x ≡ cmp z y
congr_right {K} {cmp} o x y z h = o.antisymm z x ∙ ap ordering_reverse (o.congr x y z h) ∙ sym (o.antisymm z y)

pub is_eq-back : (r : Ordering) → is_eq (ordering_reverse r) ≡ is_eq r
is_eq-back Less = refl
is_eq-back Equal = refl
is_eq-back Greater = refl

-- equality of keys is symmetric
pub is_at-back : {K : Type 0} {cmp : K → K → Ordering} → IsTotalOrder cmp → (x y : K) → is_at (cmp x) y ≡ is_at (cmp y) x
is_at-back {cmp = cmp} o x y = ap is_eq (o.antisymm x y) ∙ is_eq-back (cmp y x)

-- what is mapped is there exactly if it was
pub is_some-option_map : {X Y : Type 0} (f : X → Y) (o : Option X) → is_some (option_map f o) ≡ is_some o
is_some-option_map f None = refl
is_some-option_map f (Some x) = refl

-- a write and an insert, where the values are mapped
abbrev mapped : {K X Y : Type 0} → (X → Y) → List (K × X) → List (K × Y)
mapped f es = map (λ e. (e.0, f e.1)) es

pub set_value-map_values : {K X Y : Type 0} (f : X → Y) (test : K → Bool) (es : List (K × X)) (w : X)
    → mapped f (set_value test es w) ≡ set_value test (mapped f es) (f w)
set_value-map_values f test [] w = refl
set_value-map_values f test (e ∷ es) w = elim (test e.0) as
    (λ b. mapped f (cond b ((e.0, w) ∷ es) (e ∷ set_value test es w)) ≡ cond b ((e.0, f w) ∷ mapped f es) ((e.0, f e.1) ∷ set_value test (mapped f es) (f w)))
    [ true ↦ refl | false ↦ ap (λ l. (e.0, f e.1) ∷ l) (set_value-map_values f test es w) ]

pub insert_entry-map_values : {K X Y : Type 0} (f : X → Y) (cmp : K → K → Ordering) (es : List (K × X)) (k : K) (v : X)
    → mapped f (insert_entry cmp es k v) ≡ insert_entry cmp (mapped f es) k (f v)
insert_entry-map_values f cmp [] k v = refl
insert_entry-map_values f cmp (e ∷ es) k v = elim (cmp k e.0) as
    (λ o. mapped f (match_ordering o ((k, v) ∷ e ∷ es) ((e.0, v) ∷ es) (e ∷ insert_entry cmp es k v))
    ≡ match_ordering o ((k, f v) ∷ (e.0, f e.1) ∷ mapped f es) ((e.0, f v) ∷ mapped f es) ((e.0, f e.1) ∷ insert_entry cmp (mapped f es) k (f v)))
    [ Less ↦ refl | Equal ↦ refl | Greater ↦ ap (λ l. (e.0, f e.1) ∷ l) (insert_entry-map_values f cmp es k v) ]

-- what is written twice is what was written last
pub set_value-twice : {K X : Type 0} (test : K → Bool) (es : List (K × X)) (v w : X) → set_value test (set_value test es v) w ≡ set_value test es w
set_value-twice test [] v w = refl
set_value-twice {K} {X} test (e ∷ es) v w = at (test e.0) (set_value-twice test es v w) refl
  where
    at : (b : Bool) → set_value test (set_value test es v) w ≡ set_value test es w → test e.0 ≡ b
        → set_value test (cond b ((e.0, v) ∷ es) (e ∷ set_value test es v)) w ≡ cond b ((e.0, w) ∷ es) (e ∷ set_value test es w)
    at true ih t = rw t refl
    at false ih t = rw (t, ih) refl

-- a look-up after a write
pub lookup-written : {K X : Type 0} {cmp : K → K → Ordering} → IsTotalOrder cmp → (here : K) (es : List (K × X)) (v w : X) (q : K) → lookup (is_at (cmp here))
    es ≡ Some v → lookup (is_at (cmp q)) (set_value (is_at (cmp here)) es w) ≡ cond (is_eq (cmp here q)) (Some w) (lookup (is_at (cmp q)) es)
lookup-written {cmp = cmp} o here es v w q found =
    lookup-set_value (eq_by_cmp_equiv o) (is_at (cmp here)) (λ x y t. ap is_eq (o.congr here x y ((Equal-is _).0 t))) q w es (rw found refl)

-- in maps of the same keys the same look-ups find something
pub is_some-keys : {K X Y : Type 0} (test : K → Bool) (es : List (K × X)) (fs : List (K × Y)) → keys_of es ≡ keys_of fs
    → is_some (lookup test es) ≡ is_some (lookup test fs)
is_some-keys test es fs same = is_some-lookup test es ∙ ap (list_any test) same ∙ sym (is_some-lookup test fs)

-- what was written is found
pub lookup-set_here : {K X : Type 0} (test : K → Bool) (es : List (K × X)) (v w : X) → lookup test es ≡ Some v → lookup test (set_value test es w) ≡ Some w
lookup-set_here test [] v w found = absurd cc
lookup-set_here {K} {X} test (e ∷ es) v w found = at (test e.0) (lookup-set_here test es v w) refl found
  where
    at : (b : Bool) → (lookup test es ≡ Some v → lookup test (set_value test es w) ≡ Some w) → test e.0 ≡ b → cond b (Some e.1) (lookup test es) ≡ Some v
        → lookup test (cond b ((e.0, w) ∷ es) (e ∷ set_value test es w)) ≡ Some w
    at true ih t g = rw t refl
    at false ih t g = rw t (ih g)

-- an entry under a new key is found by each key that equals it, and no other look-up changes
pub lookup-inserted : {K X : Type 0} {cmp : K → K → Ordering} → IsTotalOrder cmp → (es : List (K × X)) (k : K) (v : X) → lookup (is_at (cmp k)) es ≡ None
    → (q : K) → lookup (is_at (cmp q)) (insert_entry cmp es k v) ≡ cond (is_at (cmp k) q) (Some v) (lookup (is_at (cmp q)) es)
lookup-inserted o [] k v absent q = rw (is_at-back o q k) refl
lookup-inserted {K} {X} {cmp} o (e ∷ es) k v absent q = by (cmp k e.0) refl absent (lookup-inserted o es k v) (is_eq (cmp q e.0)) refl (is_eq (cmp k q)) refl
  where
    by : (r : Ordering) → cmp k e.0 ≡ r → cond (is_eq r) (Some e.1) (lookup (is_at (cmp k)) es) ≡ None
        → (lookup (is_at (cmp k)) es ≡ None → (q : K) → lookup (is_at (cmp q)) (insert_entry cmp es k v)
        ≡ cond (is_at (cmp k) q) (Some v) (lookup (is_at (cmp q)) es))
        → (here : Bool) → is_eq (cmp q e.0) ≡ here → (same : Bool) → is_eq (cmp k q) ≡ same
        → lookup (is_at (cmp q)) (match_ordering r ((k, v) ∷ e ∷ es) ((e.0, v) ∷ es) (e ∷ insert_entry cmp es k v))
        ≡ cond same (Some v) (cond here (Some e.1) (lookup (is_at (cmp q)) es))
    by Less is none ih here h same s = rw (is_at-back o q k, s, h) refl
    by Equal is none ih here h same s = absurd cc
    by Greater is none ih true h true s =
        let one : cmp k e.0 ≡ cmp q e.0 = o.congr k q e.0 ((Equal-is _).0 s) in
        let two : cmp q e.0 ≡ Equal = (Equal-is _).0 h in
        absurd cc
    by Greater is none ih true h false s = rw h refl
    by Greater is none ih false h same s = rw (h, ih none q, s) refl

-- what equals each of two equal keys is equal
pub same_keys : {K : Type 0} {cmp : K → K → Ordering} → IsTotalOrder cmp → (a b x y : K) → cmp a b ≡ Equal → cmp a x ≡ Equal → cmp b y ≡ Equal → cmp x y ≡ Equal
same_keys o a b x y h k l = sym (o.congr a x y k) ∙ o.congr a b y h ∙ l

-- what is not there is `None`
pub none_of : {X : Type 0} (found : Option X) → is_some found ≡ false → found ≡ None
none_of None h = refl
none_of (Some x) h = absurd cc

-- what is found stays found where a value is set
pub IsSome-cond : {X : Type 0} (b : Bool) (v : X) (o : Option X) → IsSome o → IsSome (cond b (Some v) o)
IsSome-cond true v o h = refl
IsSome-cond false v o h = h
