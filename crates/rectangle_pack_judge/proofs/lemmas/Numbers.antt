-- Groups that are numbered anew.
use Rattle.rectangle_pack_sections.proofs.Std.{ℕ, ◌+◌, ◌<◌, ◌≡◌, ◌==◌, ◌&&◌, ◌||◌, ◌++◌, ◌∙◌, Bool, true, false, not, List, [], ◌∷◌, arith, ap, sym, refl, subst, length, map, take}
use Rattle.rectangle_pack_sections.proofs.Std.{All, All-push, All-weaker, All-map, Option, Some, None, IsSome, get_or, get_or-map, length-map, take_more, append_assoc, cond, unwrap_or}
use Rattle.rectangle_pack_sections.proofs.Std.{is_at, insert_entry, nat_cmp, nat_cmp_total, tied_itself, is_eq, list_any, cases_Bool, inl, inr, eqb-true, nat_tests, or_assoc}
use Rattle.rectangle_pack_sections.proofs.lemmas.util.Maps.{lookup-inserted, IsSome-cond}
use Rattle.rectangle_pack_judge.specs.declared.case.Case.{Case}
use Rattle.rectangle_pack_judge.specs.declared.case.Claim.{Claim}
use Rattle.rectangle_pack_judge.specs.declared.case.Entry.{Entry}
use Rattle.rectangle_pack_judge.specs.Judging.{group_of, are_these, no_entry}
use Rattle.rectangle_pack_judge.specs.private.Numbers.{AreNumbers, number_at, number_in, renumbered, pair_of, pairs_in}
use Rattle.rectangle_pack_judge.proofs.lemmas.Alike.{AreAlike, IsKnown}

same_number : (g q : ℕ) → is_at (nat_cmp g) q ≡ true → g ≡ q
same_number g q h = grind (arith, nat_tests)

or_false : (b : Bool) → b || false ≡ b
or_false true = refl
or_false false = refl

-- of two pairs of tests, the second of each fails
neither : (a b : Bool) → (a && false || b && false) ≡ false
neither true true = refl
neither true false = refl
neither false true = refl
neither false false = refl

any_append : {X : Type 0} (test : X → Bool) (xs ys : List X) → list_any test (xs ++ ys) ≡ list_any test xs || list_any test ys
any_append test [] ys = refl
any_append test (x ∷ xs) ys = ap (λ b. test x || b) (any_append test xs ys) ∙ sym (or_assoc (test x) (list_any test xs) (list_any test ys))

-- what is there is its value
there : (o : Option ℕ) → IsSome o → o ≡ Some (unwrap_or o 0)
there None h = absurd cc
there (Some n) h = refl

module _ (entries : List Entry) (numbers : List (ℕ × ℕ)) (i : ℕ) (next : Entry) (within : i < length entries) (is : next ≡ get_or entries i next) where
  one_more : take (i + 1) entries ≡ take i entries ++ next ∷ []
  one_more = take_more entries i next within ∙ ap (λ r. take i entries ++ r ∷ []) (sym is)

  -- the next entry is of a group that has a number
  pub AreNumbers-known : IsSome (number_at numbers next.group) → AreNumbers (take i entries) numbers → AreNumbers (take (i + 1) entries) numbers
  AreNumbers-known known h = record {
    known = subst (All (λ e. IsSome (number_at numbers e.group))) (sym one_more) (All-push (λ e. IsSome (number_at numbers e.group)) (take i entries) next h.known known);
    below = h.below;
    apart = h.apart;
  }

  -- or of one that gets the next number
  pub AreNumbers-more : (new : List (ℕ × ℕ)) → new ≡ insert_entry nat_cmp numbers next.group (length numbers) → length new ≡ length numbers + 1
      → number_at numbers next.group ≡ None → AreNumbers (take i entries) numbers → AreNumbers (take (i + 1) entries) new
  AreNumbers-more new inserted long absent h =
      let n : ℕ = length numbers in
      let found : (q : ℕ) → number_at new q ≡ cond (is_at (nat_cmp next.group) q) (Some n) (number_at numbers q) = λ q.
      rw inserted (lookup-inserted nat_cmp_total numbers next.group n absent q) in
      let here : number_at new next.group ≡ Some n = rw (found next.group, ap is_eq (tied_itself nat_cmp_total next.group)) refl in
      record {
        known = subst (All (λ e. IsSome (number_at new e.group))) (sym one_more) (All-push (λ e. IsSome (number_at new e.group)) (take i entries) next
            (All-weaker (λ e. IsSome (number_at numbers e.group)) (λ e. IsSome (number_at new e.group))
            (λ e some. rw (found e.group) (IsSome-cond (is_at (nat_cmp next.group) e.group) n (number_at numbers e.group) some)) (take i entries) h.known)
            (rw here refl));
        below = λ g r at. elim (cases_Bool (is_at (nat_cmp next.group) g)) [
          | inl same ↦
              let e : Some n ≡ Some r = sym (rw same at (found g)) ∙ at in
              let value : n ≡ r = cc in
              omega (arith, value, long)
          | inr other ↦
              let old = sym (rw other at (found g)) ∙ at in
              omega (arith, h.below g r old, long)
        ];
        apart = λ g q r at_g at_q. elim (cases_Bool (is_at (nat_cmp next.group) g)) [
          | inl same ↦ elim (cases_Bool (is_at (nat_cmp next.group) q)) [
            | inl too ↦ sym (same_number next.group g same) ∙ same_number next.group q too
            | inr other ↦
                let e : Some n ≡ Some r = sym (rw same at (found g)) ∙ at_g in
                let value : n ≡ r = cc in
                absurd (omega (arith, value, h.below q r (sym (rw other at (found q)) ∙ at_q)))
          ]
          | inr other ↦ elim (cases_Bool (is_at (nat_cmp next.group) q)) [
            | inl too ↦
                let e : Some n ≡ Some r = sym (rw too at (found q)) ∙ at_q in
                let value : n ≡ r = cc in
                absurd (omega (arith, value, h.below g r (sym (rw other at (found g)) ∙ at_g)))
            | inr beside ↦ h.apart g q r (sym (rw other at (found g)) ∙ at_g) (sym (rw beside at (found q)) ∙ at_q)
          ]
        ];
      }

pairs_in-append : (numbers xs ys : List (ℕ × ℕ)) → pairs_in numbers (xs ++ ys) ≡ pairs_in numbers xs ++ pairs_in numbers ys
pairs_in-append numbers [] ys = refl
pairs_in-append numbers (x ∷ xs) ys =
    ap (λ l. pair_of (number_at numbers x.0) (number_at numbers x.1) ++ l) (pairs_in-append numbers xs ys)
    ∙ sym (append_assoc (pair_of (number_at numbers x.0) (number_at numbers x.1)) (pairs_in numbers xs) (pairs_in numbers ys))

pub pairs_in-more : (numbers pairs : List (ℕ × ℕ)) (i : ℕ) (d : ℕ × ℕ) → i < length pairs
    → pairs_in numbers (take (i + 1) pairs) ≡ pairs_in numbers (take i pairs) ++ pairs_in numbers (get_or pairs i d ∷ [])
pairs_in-more numbers pairs i d within =
    ap (pairs_in numbers) (take_more pairs i d within) ∙ pairs_in-append numbers (take i pairs) (get_or pairs i d ∷ [])

module _ (entries : List Entry) (numbers : List (ℕ × ℕ)) (h : AreNumbers entries numbers) where
  pub HaveGroups-renumbered : All (λ e. e.group < length numbers) (map (renumbered numbers) entries)
  HaveGroups-renumbered = All-map (λ e. e.group < length numbers) (renumbered numbers) entries
      (All-weaker (λ e. IsSome (number_at numbers e.group)) (λ e. number_in numbers e.group < length numbers)
      (λ e some. h.below e.group (number_in numbers e.group) (there (number_at numbers e.group) some)) entries h.known)

  -- equal numbers are of equal groups
  eq_same : (x g r s : ℕ) → number_at numbers x ≡ Some r → number_at numbers g ≡ Some s → (r == s) ≡ (x == g)
  eq_same x g r s at_x at_g = elim (cases_Bool (x == g)) [
    | inl same ↦
        let e : x ≡ g = eqb-true x g same in
        let found : Some r ≡ Some s = sym at_x ∙ ap (number_at numbers) e ∙ at_g in
        let value : r ≡ s = cc in
        grind (arith, nat_tests, value, same)
    | inr other ↦ elim (cases_Bool (r == s)) [
      | inl equal ↦
          let value : r ≡ s = eqb-true r s equal in
          let e : x ≡ g = h.apart x g s (at_x ∙ ap (λ n. Some n) value) at_g in
          absurd (grind (arith, nat_tests, e, other))
      | inr differ ↦ differ ∙ sym other
    ]
  ]

  eq_none : (x g s : ℕ) → number_at numbers x ≡ None → number_at numbers g ≡ Some s → (x == g) ≡ false
  eq_none x g s absent at_g = elim (cases_Bool (x == g)) [
    | inl same ↦
        let e : x ≡ g = eqb-true x g same in
        let found : None ≡ Some s = sym absent ∙ ap (number_at numbers) e ∙ at_g in
        absurd cc
    | inr other ↦ other
  ]

  module _ (g q s t : ℕ) (at_g : number_at numbers g ≡ Some s) (at_q : number_at numbers q ≡ Some t) where
    any_pair : (pair : ℕ × ℕ) (a b : Option ℕ) → number_at numbers pair.0 ≡ a → number_at numbers pair.1 ≡ b
        → list_any (λ p. are_these p s t) (pair_of a b) ≡ are_these pair g q
    any_pair pair (Some a) (Some b) at_a at_b =
        rw (eq_same pair.0 g a s at_a at_g, eq_same pair.1 q b t at_b at_q, eq_same pair.0 q a t at_a at_q, eq_same pair.1 g b s at_b at_g) (or_false (are_these pair g q))
    any_pair pair (Some a) None at_a at_b = rw (eq_none pair.1 q t at_b at_q, eq_none pair.1 g s at_b at_g) (sym (neither (pair.0 == g) (pair.0 == q)))
    any_pair pair None b at_a at_b = rw (eq_none pair.0 g s at_a at_g, eq_none pair.0 q t at_a at_q) refl

    any_pairs : (pairs : List (ℕ × ℕ)) → list_any (λ p. are_these p s t) (pairs_in numbers pairs) ≡ list_any (λ p. are_these p g q) pairs
    any_pairs [] = refl
    any_pairs (pair ∷ pairs) =
        any_append (λ p. are_these p s t) (pair_of (number_at numbers pair.0) (number_at numbers pair.1)) (pairs_in numbers pairs)
        ∙ ap (λ b. b || list_any (λ p. are_these p s t) (pairs_in numbers pairs)) (any_pair pair (number_at numbers pair.0) (number_at numbers pair.1) refl refl)
        ∙ ap (λ b. are_these pair g q || b) (any_pairs pairs)

-- the case with groups by their numbers is alike
module _ (by_numbers case : Case) (numbers : List (ℕ × ℕ)) (h : AreNumbers case.entries.now numbers) (bins : by_numbers.bins.now ≡ case.bins.now)
    (entries : by_numbers.entries.now ≡ map (renumbered numbers) case.entries.now) (excluded : by_numbers.excluded.now ≡ pairs_in numbers case.excluded.now) where
  turnings_stay : (es : List Entry) → map (λ (e : Entry). e.turning) (map (renumbered numbers) es) ≡ map (λ (e : Entry). e.turning) es
  turnings_stay [] = refl
  turnings_stay (e ∷ es) = ap (λ l. e.turning ∷ l) (turnings_stay es)

  known-to : (p : Claim) → IsKnown by_numbers p → IsKnown case p
  known-to p known = omega (arith, known, ap (λ l. length l) entries, length-map case.entries.now (renumbered numbers))

  number_is : (p : Claim) → IsKnown by_numbers p → group_of by_numbers p ≡ number_in numbers (group_of case p)
  number_is p known =
      ap (λ l. (get_or l p.entry no_entry).group) entries
      ∙ ap (λ (e : Entry). e.group) (get_or-map (renumbered numbers) case.entries.now p.entry no_entry no_entry (known-to p known))

  number_at-is : (p : Claim) → IsKnown by_numbers p → number_at numbers (group_of case p) ≡ Some (group_of by_numbers p)
  number_at-is p known =
      there (number_at numbers (group_of case p)) (h.known p.entry no_entry (known-to p known)) ∙ ap (λ n. Some n) (sym (number_is p known))

  pub AreAlike-numbered : AreAlike by_numbers case
  AreAlike-numbered = record {
    bins = bins;
    turnings = ap (λ l. map (λ (e : Entry). e.turning) l) entries ∙ turnings_stay case.entries.now;
    groups = λ p q known_p known_q. (
      (λ same. h.apart (group_of case p) (group_of case q) (group_of by_numbers q) (number_at-is p known_p ∙ ap (λ n. Some n) same) (number_at-is q known_q)),
      (λ same. number_is p known_p ∙ ap (number_in numbers) same ∙ sym (number_is q known_q)),
    );
    apart = λ p q known_p known_q.
        let gp = group_of case p in
        let gq = group_of case q in
        let dp = group_of by_numbers p in
        let dq = group_of by_numbers q in
        let at_p = number_at-is p known_p in
        let at_q = number_at-is q known_q in
        ap (λ l. not (dp == dq) && list_any (λ pair. are_these pair dp dq) l) excluded
        ∙ ap (λ b. not b && list_any (λ pair. are_these pair dp dq) (pairs_in numbers case.excluded.now)) (eq_same case.entries.now numbers h gp gq dp dq at_p at_q)
        ∙ ap (λ b. not (gp == gq) && b) (any_pairs case.entries.now numbers h gp gq dp dq at_p at_q case.excluded.now);
  }
