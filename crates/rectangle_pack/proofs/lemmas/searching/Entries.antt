-- How many placements steps make at most: one for each entry of the collection.
use Rattle.rectangle_pack_sections.proofs.Std.{◌≡◌, ℕ, ◌+◌, ◌≤◌, suc, Bool, true, false, cond, List, [], ◌∷◌, refl, sym, ap, ◌∙◌, arith, length, map, sum, sum_by, sum_by-cons, sum-map, AllPairs, All, All-head, All-tail, Option, Some, unwrap_or, map-id}
use Rattle.rectangle_pack_sections.proofs.Std.{Ordering, Equal-is, IsTotalOrder, is_at, is_eq, lookup, values_of, tied_back}
use Rattle.rectangle_pack_sections.specs.declared.group.Group.{Group}
use Rattle.rectangle_pack_sections.specs.Bins.{Bin}
use Rattle.rectangle_pack_sections.specs.Groups.{Collection, entries_of}
use Rattle.rectangle_pack_packing.specs.declared.answer.Placement.{Placement}
use Rattle.rectangle_pack_packing.specs.declared.pack.told.Step.{Step}
use Rattle.rectangle_pack_packing.specs.Packing.{at_start}
use Rattle.rectangle_pack_packing.specs.Told.{ToldDone}
use Rattle.rectangle_pack_packing.proofs.lemmas.packing.StepsMade.{AreStepsDone-length}
use Rattle.rectangle_pack_packing.proofs.lemmas.packing.ToldLaws.{tellings_place_whole}

module _ {X : Type 0} (R : X → X → Type 0) where
  pairs-tail : (x : X) (xs : List X) → AllPairs R (x ∷ xs) → AllPairs R xs
  pairs-tail x xs pairs = λ i j d before within. pairs (suc i) (suc j) d (omega (arith, before)) (omega (arith, within))

sum-cons : (x : ℕ) (xs : List ℕ) → sum (x ∷ xs) ≡ x + sum xs
sum-cons x xs =
    sym (ap sum (map-id (x ∷ xs))) ∙ sum-map (λ (n : ℕ). n) (x ∷ xs) ∙ sum_by-cons (λ (n : ℕ). n) x xs
    ∙ ap (λ n. x + n) (sym (sum-map (λ (n : ℕ). n) xs) ∙ ap sum (map-id xs))

-- sums, term by term
sums-add : {X : Type 0} (f g r : X → ℕ) (xs : List X) → ((x : X) → f x ≤ g x + r x) → sum_by f xs ≤ sum_by g xs + sum_by r xs
sums-add f g r [] h = omega arith
sums-add f g r (x ∷ xs) h =
    omega (arith, h x, sums-add f g r xs h, sum_by-cons f x xs, sum_by-cons g x xs, sum_by-cons r x xs)

sum-nothing : {X : Type 0} (f : X → ℕ) (xs : List X) → ((x : X) → f x ≡ 0) → sum_by f xs ≤ 0
sum-nothing f [] h = omega arith
sum-nothing f (x ∷ xs) h = omega (arith, h x, sum-nothing f xs h, sum_by-cons f x xs)

module _ {K S : Type 0} {cmp : K → K → Ordering} (o : IsTotalOrder cmp) (name : S → K) where
  abbrev Differ : S → S → Type 0
  Differ one later = is_at (cmp (name later)) (name one) ≡ false

  -- of names that differ one at most is this one
  module _ (k : K) (n : ℕ) where
    abbrev here : S → ℕ
    here s = cond (is_at (cmp (name s)) k) n 0

    none_else : (s : S) (steps : List S) → is_at (cmp (name s)) k ≡ true → All (Differ s) steps → sum_by here steps ≤ 0
    none_else s [] at apart = omega arith
    none_else s (l ∷ steps) at apart =
        let zero : here l ≡ 0 = by (is_at (cmp (name l)) k) refl (All-head (Differ s) l steps apart) in
        omega (arith, zero, none_else s steps at (All-tail (Differ s) l steps apart), sum_by-cons here l steps)
      where
        by : (b : Bool) → is_at (cmp (name l)) k ≡ b → is_at (cmp (name l)) (name s) ≡ false → cond b n 0 ≡ 0
        by false is apart = refl
        by true is apart =
            let back = tied_back o (name s) k ((Equal-is _).0 at) in
            let same : is_at (cmp (name l)) (name s) ≡ true = ap is_eq (o.congr (name l) k (name s) ((Equal-is _).0 is)) ∙ (Equal-is _).1 back in
            absurd (let e : false ≡ true = sym apart ∙ same in cc)

    one_more : (s : S) (steps : List S) → All (Differ s) steps → sum_by here steps ≤ n → (b : Bool) → is_at (cmp (name s)) k ≡ b
        → sum_by here (s ∷ steps) ≤ n
    one_more s steps apart rest true at =
        let one : here s ≡ n = ap (λ b. cond b n 0) at in
        omega (arith, sum_by-cons here s steps, one, none_else s steps at apart)
    one_more s steps apart rest false at =
        let none : here s ≡ 0 = ap (λ b. cond b n 0) at in
        omega (arith, sum_by-cons here s steps, none, rest)

    once : (steps : List S) → AllPairs Differ steps → sum_by here steps ≤ n
    once [] pairs = omega arith
    once (s ∷ steps) pairs =
        one_more s steps (λ j d within. pairs 0 (suc j) d (omega arith) (omega (arith, within))) (once steps (pairs-tail Differ s steps pairs))
        (is_at (cmp (name s)) k) refl

  -- so what is listed under them is at most what is listed
  module _ {Id : Type 0} where
    abbrev listed : List (K × List Id) → S → ℕ
    listed groups s = length (unwrap_or (lookup (is_at (cmp (name s))) groups) [])

    pub listed-at_most : (groups : List (K × List Id)) (steps : List S) → AllPairs Differ steps
        → sum_by (listed groups) steps ≤ sum (map length (values_of groups))
    listed-at_most [] steps pairs = omega (arith, sum-nothing (listed []) steps (λ s. refl))
    listed-at_most ((k, ids) ∷ groups) steps pairs =
        let each : (s : S) → listed ((k, ids) ∷ groups) s ≤ here k (length ids) s + listed groups s =
        λ s. by (is_at (cmp (name s)) k) (lookup (is_at (cmp (name s))) groups) in
        let first = once k (length ids) steps pairs in
        let rest = listed-at_most groups steps pairs in
        let added = sums-add (listed ((k, ids) ∷ groups)) (here k (length ids)) (listed groups) steps each in
        let all : sum (map length (values_of ((k, ids) ∷ groups))) ≡ length ids + sum (map length (values_of groups)) =
        sum-cons (length ids) (map length (values_of groups)) in
        omega (arith, first, rest, added, all)
      where
        by : (b : Bool) (found : Option (List Id)) → length (unwrap_or (cond b (Some ids) found) []) ≤ cond b (length ids) 0 + length (unwrap_or found [])
        by true found = omega arith
        by false found = omega arith

-- so a packing as it is told makes at most as many placements as the collection has entries
pub few_placements : {Id B G : Type 0} {group_cmp : Group G Id → Group G Id → Ordering} → IsTotalOrder group_cmp → (cmp : Id → Id → Ordering)
    (bin_cmp : B → B → Ordering) (all : Collection Id G) (steps : List (Step Id G B)) (old new : List (B × Bin)) (placements : List (Placement Id B))
    → ToldDone group_cmp cmp bin_cmp all steps old placements new → length placements ≤ entries_of all
few_placements {Id} {B} {G} {group_cmp} o cmp bin_cmp all steps old new placements told =
    let name : Step Id G B → Group G Id = λ step. step.group in
    let once = (tellings_place_whole group_cmp cmp bin_cmp).once all steps old new placements told in
    let few = listed-at_most o name all.groups steps once in
    omega (arith, few, AreStepsDone-length group_cmp cmp bin_cmp all steps (at_start old) placements _ told.done)
