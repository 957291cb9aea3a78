-- How groups that are apart are found: one more name at a time.
use Rattle.rectangle_pack_sections.proofs.Std.{◌≡◌, ◌<◌, ◌≤◌, ℕ, List, [], ◌∷◌, ◌++◌, refl, sym, ◌∙◌, ap, subst, arith, Bool, true, false, cond, nat_lt, MatchBool, map, list_any}
use Rattle.rectangle_pack_sections.proofs.Std.{All, All-nil, All-cons, All-push, All-append, All-weaker, append-nil, append_assoc, Ordering}
use Rattle.std.proofs.lemmas.Bool.{ltb-true, ltb-false}
use Rattle.rectangle_pack_bounds.specs.Arrangements.{different}
use Rattle.std.specs.Set.{unique_keys}
use Rattle.rectangle_pack_sections.proofs.Std.{eq_by_cmp, is_at, Bor, deref_pair, keys_of, map_push}
use Rattle.rectangle_pack.specs.Needed.{joins, AreTakenApart, HasMostListed, AreGroupsApart, number_listed}
use Rattle.rectangle_pack_sections.specs.Exclusions.{listed_at}

module _ {K : Type 0} (cmp : K → K → Ordering) (partners : List (K × List K)) where
  number : K → ℕ
  number name = number_listed cmp partners name

  -- the one with the most, with one more name
  pub most-next : (names : List K) (best name next : K) → HasMostListed cmp partners names best
      → next ≡ cond (nat_lt (number_listed cmp partners best) (number_listed cmp partners name)) name best
      → HasMostListed cmp partners (names ++ name ∷ []) next
  most-next names best name next most is = by (nat_lt (number_listed cmp partners best) (number_listed cmp partners name)) refl is
    where
      by : (b : Bool) → nat_lt (number_listed cmp partners best) (number_listed cmp partners name) ≡ b → next ≡ cond b name best
          → HasMostListed cmp partners (names ++ name ∷ []) next
      by true e here =
          let more = ltb-true _ _ e in
          let P : K → Type 0 = λ other. number_listed cmp partners other < number_listed cmp partners name in
          let all : All P (most.before ++ best ∷ most.after) =
          All-append P most.before (best ∷ most.after)
          (All-weaker (λ other. number_listed cmp partners other < number_listed cmp partners best) P (λ other fewer. omega (arith, fewer, more)) most.before most.more)
          (All-cons P best most.after more
          (All-weaker (λ other. number_listed cmp partners other ≤ number_listed cmp partners best) P (λ other fewer. omega (arith, fewer, more)) most.after
          most.not_fewer)) in
          rw here (record {
            before = names;
            after = [];
            names_are = refl;
            more = subst (All P) (sym most.names_are) all;
            not_fewer = All-nil (λ (other : K). number_listed cmp partners other ≤ number_listed cmp partners name);
          })
      by false e here =
          let Q : K → Type 0 = λ other. number_listed cmp partners other ≤ number_listed cmp partners best in
          rw here (record {
            before = most.before;
            after = most.after ++ name ∷ [];
            names_are = ap (λ (l : List K). l ++ name ∷ []) most.names_are ∙ append_assoc most.before (best ∷ most.after) (name ∷ []);
            more = most.more;
            not_fewer = All-push Q most.after name most.not_fewer (ltb-false _ _ e);
          })

  -- those that are taken, with one more candidate
  pub taken-more : (names before candidates taken : List K) (name : K) (b : Bool) → AreTakenApart cmp partners names before candidates taken
      → joins cmp partners names (before ++ taken) name ≡ b
      → AreTakenApart cmp partners names before (candidates ++ name ∷ []) (cond b (taken ++ name ∷ []) taken)
  taken-more names before [] taken name b none e =
      let here : joins cmp partners names before name ≡ b = ap (λ (l : List K). joins cmp partners names l name)
      (sym (ap (λ (l : List K). before ++ l) none ∙ append-nil before)) ∙ e in
      by b here
    where
      by : (c : Bool) → joins cmp partners names before name ≡ c
          → AreTakenApart cmp partners names before (name ∷ []) (cond c (taken ++ name ∷ []) taken)
      by true is = rw is ([], ap (λ (l : List K). l ++ name ∷ []) none, refl)
      by false is = rw is none
  taken-more names before (candidate ∷ candidates) taken name b h e =
      by (joins cmp partners names before candidate) refl h (λ later rest. taken-more names (before ++ candidate ∷ []) candidates later name b rest)
      (λ rest. taken-more names before candidates taken name b rest e)
    where
      joined : (c : Bool) (later : List K) → taken ≡ candidate ∷ later
          → cond c (taken ++ name ∷ []) taken ≡ candidate ∷ cond c (later ++ name ∷ []) later
      joined true later is = ap (λ (l : List K). l ++ name ∷ []) is
      joined false later is = is

      by : (c : Bool) → joins cmp partners names before candidate ≡ c
          → MatchBool c ((later : List K) × (taken ≡ candidate ∷ later) × AreTakenApart cmp partners names (before ++ candidate ∷ []) candidates later)
          (AreTakenApart cmp partners names before candidates taken)
          → ((later : List K) → AreTakenApart cmp partners names (before ++ candidate ∷ []) candidates later
          → joins cmp partners names ((before ++ candidate ∷ []) ++ later) name ≡ b
          → AreTakenApart cmp partners names (before ++ candidate ∷ []) (candidates ++ name ∷ []) (cond b (later ++ name ∷ []) later))
          → (AreTakenApart cmp partners names before candidates taken
          → AreTakenApart cmp partners names before (candidates ++ name ∷ []) (cond b (taken ++ name ∷ []) taken))
          → AreTakenApart cmp partners names before (candidate ∷ (candidates ++ name ∷ [])) (cond b (taken ++ name ∷ []) taken)
      by true is (later, same, rest) with_it without =
          let along : joins cmp partners names ((before ++ candidate ∷ []) ++ later) name ≡ b =
          ap (λ (l : List K). joins cmp partners names l name) (append_assoc before (candidate ∷ []) later ∙ ap (λ (l : List K). before ++ l) (sym same)) ∙ e in
          rw is (cond b (later ++ name ∷ []) later, joined b later same, with_it later rest along)
      by false is rest with_it without = rw is (without rest)

-- the ids that differ are those that a set keeps
pub different-unique : {B : Type 0} (cmp : B → B → Ordering) (ids : List B) → different cmp ids ≡ unique_keys (eq_by_cmp cmp) ids
different-unique cmp [] = refl
different-unique {B} cmp (id ∷ ids) =
    ap (λ (l : List B). cond (list_any (is_at (cmp id)) ids) l (id ∷ l)) (different-unique cmp ids)

-- the names of the entries that are seen, and one more
pub names-push : {K V : Type 0} (seen : List (Bor K × Bor V)) (x : Bor K × Bor V)
    → keys_of (map deref_pair seen) ++ x.0.now ∷ [] ≡ keys_of (map deref_pair (seen ++ x ∷ []))
names-push {K} {V} seen x =
    sym (ap keys_of (map_push deref_pair seen x) ∙ map_push (λ (e : K × V). e.0) (map deref_pair seen) (deref_pair x))

-- the one with the most and those that are taken are groups that are apart
pub are_apart : {K : Type 0} (cmp : K → K → Ordering) (partners : List (K × List K)) (names : List K) (first : K) (others : List K)
    → HasMostListed cmp partners names first → AreTakenApart cmp partners names (first ∷ []) (listed_at cmp partners first) others
    → AreGroupsApart cmp partners names (first ∷ others)
are_apart {K} cmp partners [] first others most taken = absurd (none most.before most.after most.names_are)
  where
    none : (before after : List K) → [] ≡ before ++ first ∷ after → ⊥
    none [] after e = cc
    none (x ∷ before) after e = cc
are_apart cmp partners (name ∷ names) first others most taken = (first, others, most, taken, refl)
