-- The sizes in which boxes stand, one box more at a time.
use Rattle.rectangle_pack_sections.proofs.Std.{◌≡◌, ◌<◌, Bool, true, false, cond, List, [], ◌∷◌, ◌++◌, length, refl, sym, ap, ◌∙◌, Option, Some, IsSome, Contains, All, All-weaker, All-head, All-tail, All-push}
use Rattle.rectangle_pack_sections.proofs.Std.{get_or_default, subst, Ordering, Equal, Equal-is, IsTotalOrder, is_at, lookup, values_of, list_any, tied_back}
use Rattle.std.proofs.lemmas.List.Folds.{Any-from_list_any}
use Rattle.rectangle_pack_sections.specs.Boxes.{Size}
use Rattle.rectangle_pack_sections.specs.Groups.{Collection, HaveSizes, MembersHaveSizes}
use Rattle.rectangle_pack_sections.proofs.lemmas.util.Maps.{lookup-equal}
use Rattle.rectangle_pack_bounds.specs.declared.turning.Turns.{Turns}
use Rattle.rectangle_pack_bounds.specs.Turning.{ways}
use Rattle.rectangle_pack.specs.Needed.{box_of}
use Rattle.rectangle_pack.specs.NeededLaws.{AreWaysOf}

module _ {Id G : Type 0} {cmp : Id → Id → Ordering} (o : IsTotalOrder cmp) (all : Collection Id G) (turns : List (Id × Turns)) where
  -- equal ids have one box
  box-same : (a b : Id) → cmp a b ≡ Equal → box_of cmp all.sizes turns a ≡ box_of cmp all.sizes turns b
  box-same a b same = rw (lookup-equal o a b same all.sizes, lookup-equal o a b same turns) refl

  -- no sizes are no ways
  pub ways-none : AreWaysOf cmp all turns []
  ways-none id size found = absurd cc

  -- one more way
  pub ways-more : (old new : List (Id × Size)) (id key : Id) (size : Size) → AreWaysOf cmp all turns old → cmp id key ≡ Equal
      → Contains (ways (box_of cmp all.sizes turns id)) size
      → ((q : Id) → lookup (is_at (cmp q)) new ≡ cond (is_at (cmp key) q) (Some size) (lookup (is_at (cmp q)) old)) → AreWaysOf cmp all turns new
  ways-more old new id key size were same way updates q found there = by (is_at (cmp key) q) refl
    where
      by : (b : Bool) → is_at (cmp key) q ≡ b → Contains (ways (box_of cmp all.sizes turns q)) found
      by true here =
          let now : lookup (is_at (cmp q)) new ≡ Some size = updates q ∙ ap (λ b. cond b (Some size) (lookup (is_at (cmp q)) old)) here in
          let e : Some size ≡ Some found = sym now ∙ there in
          let is : size ≡ found = cc in
          let box : box_of cmp all.sizes turns id ≡ box_of cmp all.sizes turns q = box-same id key same ∙ box-same key q ((Equal-is _).0 here) in
          subst (λ s. Contains (ways (box_of cmp all.sizes turns q)) s) is (subst (λ b. Contains (ways b) size) box way)
      by false elsewhere =
          were q found (sym (updates q ∙ ap (λ b. cond b (Some size) (lookup (is_at (cmp q)) old)) elsewhere) ∙ there)

-- what is found of a map at its keys is found at all ids that it has
module _ {Id Y : Type 0} {cmp : Id → Id → Ordering} (o : IsTotalOrder cmp) (new : List (Id × Y)) where
  abbrev Found : Id → Type 0
  Found id = IsSome (lookup (is_at (cmp id)) new)

  abbrev FoundAt : {X : Type 0} → Id × X → Type 0
  FoundAt e = Found e.0

  found_in : {X : Type 0} (e : Id × X) (rest : List (Id × X)) (q : Id) → Found e.0 → (IsSome (lookup (is_at (cmp q)) rest) → Found q)
      → (b : Bool) → is_at (cmp q) e.0 ≡ b → IsSome (cond b (Some e.1) (lookup (is_at (cmp q)) rest)) → Found q
  found_in e rest q here later true is some = rw (lookup-equal o q e.0 ((Equal-is _).0 is) new) here
  found_in e rest q here later false is some = later some

  found_at : {X : Type 0} (es : List (Id × X)) → All FoundAt es → (q : Id) → IsSome (lookup (is_at (cmp q)) es) → Found q
  found_at [] each q some = absurd (let e = some in cc)
  found_at (e ∷ es) each q some =
      found_in e es q (All-head FoundAt e es each) (found_at es (All-tail FoundAt e es each) q) (is_at (cmp q) e.0) refl some

-- so members that have sizes in one map have sizes in the other
pub members_sized : {Id K : Type 0} {cmp : Id → Id → Ordering} → IsTotalOrder cmp → (old new : List (Id × Size)) (groups : List (K × List Id))
    → All (λ e. IsSome (lookup (is_at (cmp e.0)) new)) old → MembersHaveSizes cmp old groups → MembersHaveSizes cmp new groups
members_sized {Id} {K} {cmp} o old new groups each sized =
    let Member : List Id → Type 0 = λ ids. (0 < length ids) × HaveSizes cmp old ids in
    let Now : List Id → Type 0 = λ ids. (0 < length ids) × HaveSizes cmp new ids in
    All-weaker Member Now (λ ids h.
    (h.0, All-weaker (λ id. IsSome (lookup (is_at (cmp id)) old)) (λ id. IsSome (lookup (is_at (cmp id)) new)) (found_at o new old each) ids h.1))
    (values_of groups) sized

-- one more key
pub found-more : {Id X : Type 0} {cmp : Id → Id → Ordering} → IsTotalOrder cmp → (seen : List (Id × X)) (e : Id × X) (old new : List (Id × Size)) (key : Id) (size : Size)
    → All (λ s. IsSome (lookup (is_at (cmp s.0)) old)) seen → cmp e.0 key ≡ Equal
    → ((q : Id) → lookup (is_at (cmp q)) new ≡ cond (is_at (cmp key) q) (Some size) (lookup (is_at (cmp q)) old))
    → All (λ s. IsSome (lookup (is_at (cmp s.0)) new)) (seen ++ e ∷ [])
found-more {Id} {X} {cmp} o seen e old new key size were same updates =
    All-push (λ s. IsSome (lookup (is_at (cmp s.0)) new)) seen e
    (All-weaker (λ s. IsSome (lookup (is_at (cmp s.0)) old)) (λ s. IsSome (lookup (is_at (cmp s.0)) new))
    (λ s some. rw (updates s.0) (kept (is_at (cmp key) s.0) (lookup (is_at (cmp s.0)) old) some)) seen were)
    (rw (updates e.0) (written (is_at (cmp key) e.0) (lookup (is_at (cmp e.0)) old) ((Equal-is _).1 (tied_back o e.0 key same))))
  where
    some_size : IsSome (Some size)
    some_size = refl

    kept : (b : Bool) (found : Option Size) → IsSome found → IsSome (cond b (Some size) found)
    kept true found some = some_size
    kept false found some = some

    written : (b : Bool) (found : Option Size) → b ≡ true → IsSome (cond b (Some size) found)
    written true found is = some_size
    written false found is = absurd cc

-- a size that a test finds among the ways is one of them
pub way-found : (size : Size) (eq : Size → Size → Bool) (sizes : List Size) → list_any (eq size) sizes ≡ true → ((a b : Size) → eq a b ≡ true → a ≡ b)
    → Contains sizes size
way-found size eq sizes found same =
    let (k, x, within, at, is) = Any-from_list_any (eq size) sizes found in
    (k, within, get_or_default sizes k size x within ∙ at ∙ sym (same size x is))
