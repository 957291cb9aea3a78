-- Groups that are excluded, and in one bin.
use Rattle.rectangle_pack_sections.proofs.Std.{ℕ, ◌+◌, ◌<◌, ◌≤◌, ◌≡◌, ◌≢◌, ◌⊎◌, ◌==◌, ◌&&◌, ◌||◌, Bool, true, false, not, List, [], ◌∷◌, ◌++◌, length, take, get_or, max, min, zero, suc}
use Rattle.rectangle_pack_sections.proofs.Std.{All, AllPairs, Option, Some, None, refl, ap, sym, ◌∙◌, subst, arith, rules, inl, inr, cases_lt, both_ways, eqb-true}
use Rattle.rectangle_pack_sections.proofs.Std.{get_or-take, length-take-le, get_or_default, list_any, nat_tests, take_more, list_any_at, All-nil, All-cons, All-append, All-weaker, false_from_ne_true}
use Rattle.std.proofs.lemmas.List.Folds.{Any-from_list_any}
use Rattle.rectangle_pack_judge.specs.declared.case.Case.{Case}
use Rattle.rectangle_pack_judge.specs.declared.case.Claim.{Claim}
use Rattle.rectangle_pack_judge.specs.declared.case.Conflict.TheVariants.{GroupInTwoBins, ExcludedTogether}
use Rattle.rectangle_pack_judge.specs.Judging.{StandsAlone, IsFree, group_of, are_these, are_apart}
use Rattle.rectangle_pack_judge.specs.private.Numbers.{HaveGroups}
use Rattle.rectangle_pack_judge.specs.private.Firsts.{IsFirst, AreFirsts, IsLater}
use Rattle.rectangle_pack_judge.proofs.lemmas.Firsts.{group_of-below}

get_or_past : {X : Type 0} (xs : List X) (i : ℕ) (d : X) → length xs ≤ i → get_or xs i d ≡ d
get_or_past [] i d past = refl
get_or_past (x ∷ xs) zero d past = absurd (omega (arith, past))
get_or_past (x ∷ xs) (suc i) d past = get_or_past xs i d (omega (arith, past))

and_both : (a b : Bool) → a && b ≡ true → (a ≡ true) × (b ≡ true)
and_both true true h = (refl, refl)
and_both true false h = absurd (search (rules, h))
and_both false b h = absurd (search (rules, h))

both_true : (a b : Bool) → a ≡ true → b ≡ true → a && b ≡ true
both_true a b p q = rw (p, q) refl

not-same : (a b : ℕ) → not (a == b) ≡ true → a ≢ b
not-same a b h e = grind (arith, nat_tests)

not-same-back : (a b : ℕ) → a ≢ b → not (a == b) ≡ true
not-same-back a b h = grind (arith, nat_tests)

or_and : (a b c d : Bool) → (a && b || c && d) ≡ true → ((a ≡ true) × (b ≡ true)) ⊎ ((c ≡ true) × (d ≡ true))
or_and true true c d h = inl (refl, refl)
or_and true false true true h = inr (refl, refl)
or_and true false true false h = absurd (search (rules, h))
or_and true false false d h = absurd (search (rules, h))
or_and false b true true h = inr (refl, refl)
or_and false b true false h = absurd (search (rules, h))
or_and false b false d h = absurd (search (rules, h))

these-cases : (pair : ℕ × ℕ) (a b : ℕ) → are_these pair a b ≡ true → ((pair.0 ≡ a) × (pair.1 ≡ b)) ⊎ ((pair.0 ≡ b) × (pair.1 ≡ a))
these-cases pair a b h = elim (or_and (pair.0 == a) (pair.1 == b) (pair.0 == b) (pair.1 == a) h) [
  | inl (p, q) ↦ inl (eqb-true pair.0 a p, eqb-true pair.1 b q)
  | inr (p, q) ↦ inr (eqb-true pair.0 b p, eqb-true pair.1 a q)
]

these-first : (pair : ℕ × ℕ) (a b : ℕ) → pair.0 ≡ a → pair.1 ≡ b → are_these pair a b ≡ true
these-first pair a b p q = grind (arith, nat_tests, p, q)

these-second : (pair : ℕ × ℕ) (a b : ℕ) → pair.0 ≡ b → pair.1 ≡ a → are_these pair a b ≡ true
these-second pair a b p q = grind (arith, nat_tests, p, q)

module _ (case : Case) (claims : List Claim) where
  none-later : (pair : ℕ × ℕ)
      → ((i j : ℕ) (d : Claim) → i < j → j < length claims → are_these pair (group_of case (get_or claims i d)) (group_of case (get_or claims j d)) ≡ true
      → group_of case (get_or claims i d) ≢ group_of case (get_or claims j d) → (get_or claims i d).bin ≢ (get_or claims j d).bin)
      → IsLater case claims pair (length claims)
  none-later pair clear = record { at_most = omega arith; clear = clear; bad = λ less. absurd (omega (arith, less)) }

  pub first_less : (firsts : List (Option ℕ)) → AreFirsts case (length firsts) claims (length claims) firsts
      → (group n : ℕ) → get_or firsts group None ≡ Some n → n < length claims
  first_less firsts h group n some = elim (cases_lt group (length firsts)) [
    | inl inside ↦ (h.some group None n inside some).0
    | inr beyond ↦ let e : Some n ≡ None = sym some ∙ get_or_past firsts group None beyond in absurd (search (rules, e))
  ]

  module _ (firsts : List (Option ℕ)) (have : HaveGroups case (length firsts)) (alone : All (StandsAlone case) claims)
      (whole : AllPairs (IsFree case GroupInTwoBins) claims) (h : AreFirsts case (length firsts) claims (length claims) firsts) where
    below_groups : (i : ℕ) (d : Claim) → i < length claims → group_of case (get_or claims i d) < length firsts
    below_groups i d within = group_of-below case claims (length firsts) (get_or claims i d) have (alone i d within)

    -- the first claim of a group is of it
    is_of : (group n : ℕ) → get_or firsts group None ≡ Some n → (n < length claims) × ((d : Claim) → group_of case (get_or claims n d) ≡ group)
    is_of group n some = elim (cases_lt group (length firsts)) [
      | inl inside ↦ let (less, of, before) = h.some group None n inside some in (less, of)
      | inr beyond ↦ let e : Some n ≡ None = sym some ∙ get_or_past firsts group None beyond in absurd (search (rules, e))
    ]

    -- the first claim of a group, and any other one of it
    first_le : (group f i : ℕ) (d : Claim) → get_or firsts group None ≡ Some f → i < length claims → group ≡ group_of case (get_or claims i d)
        → (f ≤ i) × ((get_or claims f d).bin ≡ (get_or claims i d).bin)
    first_le group f i d some within same =
        let inside : group < length firsts = omega (arith, same, below_groups i d within) in
        let (less, of, before) = h.some group None f inside some in
        elim (cases_lt i f) [
          | inl lt ↦ absurd (before i d lt (sym same))
          | inr ge ↦ (
            omega arith,
            elim (cases_lt f i) [
              | inl lt ↦ whole f i d lt within (of d ∙ same)
              | inr le ↦ let e : f ≡ i = omega arith in ap (λ n. (get_or claims n d).bin) e
            ],
          )
        ]

    module _ (pair : ℕ × ℕ) (f e : ℕ) (some_f : get_or firsts pair.0 None ≡ Some f) (some_e : get_or firsts pair.1 None ≡ Some e) where
      pub IsLater-beside : ((d : Claim) → (get_or claims f d).bin ≢ (get_or claims e d).bin) → IsLater case claims pair (length claims)
      IsLater-beside differ = none-later pair (λ i j d below within these other one_bin.
          elim (these-cases pair (group_of case (get_or claims i d)) (group_of case (get_or claims j d)) these) [
            | inl (p, q) ↦
                let at_f = first_le pair.0 f i d some_f (omega arith) p in
                let at_e = first_le pair.1 e j d some_e within q in
                differ d (at_f.1 ∙ one_bin ∙ sym at_e.1)
            | inr (p, q) ↦
                let at_f = first_le pair.0 f j d some_f within p in
                let at_e = first_le pair.1 e i d some_e (omega arith) q in
                differ d (at_f.1 ∙ sym one_bin ∙ sym at_e.1)
          ])

      pub IsLater-both : pair.0 ≢ pair.1 → ((d : Claim) → (get_or claims f d).bin ≡ (get_or claims e d).bin) → IsLater case claims pair (max f e)
      IsLater-both other one_bin =
          let of_f = is_of pair.0 f some_f in
          let of_e = is_of pair.1 e some_e in
          let less_f : f < length claims = of_f.0 in
          let less_e : e < length claims = of_e.0 in
          record {
            at_most = omega (arith, less_f, less_e);
            clear = λ i j d below before these differ same_bin.
                elim (these-cases pair (group_of case (get_or claims i d)) (group_of case (get_or claims j d)) these) [
                  | inl (p, q) ↦
                      let le_f : f ≤ i = (first_le pair.0 f i d some_f (omega (arith, less_f, less_e)) p).0 in
                      let le_e : e ≤ j = (first_le pair.1 e j d some_e (omega (arith, less_f, less_e)) q).0 in
                      absurd (omega (arith, le_f, le_e))
                  | inr (p, q) ↦
                      let le_f : f ≤ j = (first_le pair.0 f j d some_f (omega (arith, less_f, less_e)) p).0 in
                      let le_e : e ≤ i = (first_le pair.1 e i d some_e (omega (arith, less_f, less_e)) q).0 in
                      absurd (omega (arith, le_f, le_e))
                ];
            bad = λ less. elim (cases_lt f e) [
              | inl lt ↦
                  let is : max f e ≡ e = omega arith in (
                    f,
                    omega arith,
                    λ d.
                        let at : get_or claims (max f e) d ≡ get_or claims e d = ap (λ n. get_or claims n d) is in
                        rw at (
                          these-first pair (group_of case (get_or claims f d)) (group_of case (get_or claims e d)) (sym (of_f.1 d)) (sym (of_e.1 d)),
                          λ same. other (sym (of_f.1 d) ∙ same ∙ of_e.1 d),
                          one_bin d,
                        ),
                  )
              | inr ge ↦
                  let is : max f e ≡ f = omega arith in
                  let apart : e < f = elim (cases_lt e f) [
                    | inl lt ↦ lt
                    | inr le ↦
                        let one : f ≡ e = omega arith in
                        let d : Claim = record { entry = 0; bin = 0; section = record { x = 0; y = 0; z = 0; whd = record { width = 0; height = 0; depth = 0 } } } in
                        absurd (other (sym (of_f.1 d) ∙ ap (λ n. group_of case (get_or claims n d)) one ∙ of_e.1 d))
                  ] in (
                    e,
                    omega arith,
                    λ d.
                        let at : get_or claims (max f e) d ≡ get_or claims f d = ap (λ n. get_or claims n d) is in
                        rw at (
                          these-second pair (group_of case (get_or claims e d)) (group_of case (get_or claims f d)) (sym (of_f.1 d)) (sym (of_e.1 d)),
                          λ same. other (sym (of_f.1 d) ∙ sym same ∙ of_e.1 d),
                          sym (one_bin d),
                        ),
                  )
            ];
          }

  -- before this place the groups of a pair are in different bins
  abbrev pub IsClear : ℕ → ℕ × ℕ → Type 0
  IsClear found pair = (i j : ℕ) (d : Claim) → i < j → j < found
      → are_these pair (group_of case (get_or claims i d)) (group_of case (get_or claims j d)) ≡ true
      → group_of case (get_or claims i d) ≢ group_of case (get_or claims j d) → (get_or claims i d).bin ≢ (get_or claims j d).bin

  -- the pairs so far
  pub record IsLaterOf (pairs : List (ℕ × ℕ)) (found : ℕ) : Type 0 where
    pub at_most : found ≤ length claims
    pub clear : All (IsClear found) pairs
    pub bad : found < length claims → (k : ℕ) × (k < found) × ((d : Claim)
        → (list_any (λ pair. are_these pair (group_of case (get_or claims k d)) (group_of case (get_or claims found d))) case.excluded.now ≡ true)
        × (group_of case (get_or claims k d) ≢ group_of case (get_or claims found d))
        × ((get_or claims k d).bin ≡ (get_or claims found d).bin))

  IsLaterOf-more : (i : ℕ) (pair : ℕ × ℕ) (found next : ℕ) → i < length case.excluded.now → pair ≡ get_or case.excluded.now i pair
      → IsLaterOf (take i case.excluded.now) found → IsLater case claims pair next → IsLaterOf (take (i + 1) case.excluded.now) (min found next)
  IsLaterOf-more i pair found next within at h more =
      let pairs = case.excluded.now in
      record {
        at_most = omega (arith, h.at_most, more.at_most);
        clear = subst (All (IsClear (min found next))) (sym (take_more pairs i pair within ∙ ap (λ p. take i pairs ++ p ∷ []) (sym at)))
            (All-append (IsClear (min found next)) (take i pairs) (pair ∷ [])
            (All-weaker (IsClear found) (IsClear (min found next)) (λ p c a b d below before. c a b d below (omega arith)) (take i pairs) h.clear)
            (All-cons (IsClear (min found next)) pair [] (λ a b d below before. more.clear a b d below (omega arith)) (All-nil (IsClear (min found next)))));
        bad = λ less. elim (cases_lt next found) [
          | inl lt ↦
              let is : min found next ≡ next = omega arith in
              let (k, below, of) = more.bad (omega (arith, less)) in
              rw is (
                k,
                below,
                λ d.
                    let (these, other, one_bin) = of d in
                    (list_any_at (λ p. are_these p (group_of case (get_or claims k d)) (group_of case (get_or claims next d))) pairs i pair within (rw (sym at) these), other, one_bin),
              )
          | inr ge ↦ let is : min found next ≡ found = omega arith in rw is (h.bad (omega (arith, less)))
        ];
      }

  pub IsLaterOf-at : (i : ℕ) (d : ℕ × ℕ) (found next : ℕ) → i < length case.excluded.now
      → IsLaterOf (take i case.excluded.now) found → IsLater case claims (get_or case.excluded.now i d) next
      → IsLaterOf (take (i + 1) case.excluded.now) (min found next)
  IsLaterOf-at i d found next within h more =
      IsLaterOf-more i (get_or case.excluded.now i d) found next within (get_or_default case.excluded.now i d (get_or case.excluded.now i d) within) h more

  pub IsFirst-together : (found : ℕ) → IsLaterOf case.excluded.now found → IsFirst (IsFree case ExcludedTogether) claims found
  IsFirst-together found h = record {
    at_most = h.at_most;
    free = λ i j d below within.
        let long = length-take-le found claims h.at_most in
        rw (get_or-take found claims i d (omega (arith, long)), get_or-take found claims j d (omega (arith, long)))
        (λ one_bin.
        let a : ℕ = group_of case (get_or claims i d) in
        let b : ℕ = group_of case (get_or claims j d) in
        false_from_ne_true (are_apart case a b) (λ apart.
        let parts = and_both (not (a == b)) (list_any (λ pair. are_these pair a b) case.excluded.now) apart in
        let (k, pair, there, at, these) = Any-from_list_any (λ pair. are_these pair a b) case.excluded.now parts.1 in
        h.clear k pair there i j d below (omega (arith, long)) (subst (λ p. are_these p a b ≡ true) (sym at) these) (not-same a b parts.0) one_bin));
    bad = λ d less all.
        let (k, lt, of) = h.bad less in
        let (these, other, one_bin) = of d in
        let a : ℕ = group_of case (get_or claims k d) in
        let b : ℕ = group_of case (get_or claims found d) in
        let long = length-take-le found claims h.at_most in
        let free : are_apart case a b ≡ false = (rw (get_or-take found claims k d lt) at (all k d (omega (arith, long, lt)))) one_bin in
        let apart : are_apart case a b ≡ true = both_true (not (a == b)) (list_any (λ pair. are_these pair a b) case.excluded.now) (not-same-back a b other) these in
        both_ways _ free apart;
  }
