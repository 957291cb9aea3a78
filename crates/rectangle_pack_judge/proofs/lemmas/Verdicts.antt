-- What a judge answers.
use Rattle.rectangle_pack_sections.proofs.Std.{ℕ, zero, suc, ◌+◌, ◌<◌, ◌≤◌, ◌≡◌, ◌≢◌, Bool, true, false, List, [], ◌∷◌, ◌++◌, length, take, get_or}
use Rattle.rectangle_pack_sections.proofs.Std.{All, AllPairs, AllWithin, HoldsAt, MatchOption, Option, Some, None, is_some, option_map, refl, ap, sym, ◌∙◌, subst, arith, inl, inr, cases_lt, both_ways}
use Rattle.rectangle_pack_sections.proofs.Std.{AllocError, Result, Ok, Err, IfOk}
use Rattle.rectangle_pack_sections.proofs.Std.{get_or-take, length-take-le, take_all, get_or_default, take_more, take-take, All-append, All-cons, All-nil}
use Rattle.rectangle_pack_sections.specs.Boxes.{Size}
use Rattle.rectangle_pack_overlaps.proofs.lemmas.Places.{at_here}
use Rattle.rectangle_pack_judge.specs.declared.case.Case.{Case}
use Rattle.rectangle_pack_judge.specs.declared.case.Claim.{Claim}
use Rattle.rectangle_pack_judge.specs.declared.case.AloneFault.{AloneFault}
use Rattle.rectangle_pack_judge.specs.declared.case.AloneFault.TheVariants.{UnknownBin, UnknownEntry, WrongSize, Outside}
use Rattle.rectangle_pack_judge.specs.declared.case.Conflict.{Conflict}
use Rattle.rectangle_pack_judge.specs.declared.case.Conflict.TheVariants.{PlacedTwice, SharesCell, GroupInTwoBins, ExcludedTogether}
use Rattle.rectangle_pack_judge.specs.declared.judging.Fault.{Fault}
use Rattle.rectangle_pack_judge.specs.declared.judging.Fault.TheVariants.{Alone, Together, NotPlaced}
use Rattle.rectangle_pack_judge.specs.Judging.{StandsAlone, IsAloneAnswer, IsConflict, IsFree, GoTogether, IsPartOfPacking, IsPlaced, IsTogetherFault, IsVerdict, no_entry, rank}
use Rattle.rectangle_pack_judge.specs.private.Firsts.{IsFirst, AreMarked, IsFirstAlone, IsTogetherAnswer}

no_claim : Claim
no_claim = record { entry = 0; bin = 0; section = record { x = 0; y = 0; z = 0; whd = record { width = 0; height = 0; depth = 0 } } }

module _ (case : Case) where
  -- a claim with a fault of its own may not stand alone
  not_alone : (c : Claim) (fault : AloneFault) → IsAloneAnswer case c (Some fault) → ¬ StandsAlone case c
  not_alone c UnknownBin h s = omega (arith, h, s.bin)
  not_alone c UnknownEntry h s = omega (arith, h.1, s.entry)
  not_alone c WrongSize h s = h.2 no_entry (s.in_a_way no_entry)
  not_alone c Outside h s =
      let d : Size = record { width = 0; height = 0; depth = 0 } in h.3 d (s.inside d)

  pub not_alone-some : (c : Claim) (r : Option AloneFault) → IsAloneAnswer case c r → is_some r ≡ true → ¬ StandsAlone case c
  not_alone-some c None h e = absurd (both_ways _ refl e)
  not_alone-some c (Some fault) h e = not_alone c fault h

  pub alone-none : (c : Claim) (r : Option AloneFault) → IsAloneAnswer case c r → is_some r ≡ false → StandsAlone case c
  alone-none c None h e = h
  alone-none c (Some fault) h e = absurd (both_ways _ e refl)

  module _ (claims : List Claim) where
    pub All-take_more : (P : Claim → Type 0) (i : ℕ) (here : Claim) → i < length claims → here ≡ get_or claims i here → All P (take i claims) → P here
        → All P (take (i + 1) claims)
    All-take_more P i here within at h p =
        subst (All P) (sym (take_more claims i here within ∙ ap (λ c. take i claims ++ c ∷ []) (sym at)))
        (All-append P (take i claims) (here ∷ []) h (All-cons P here [] p (All-nil P)))

    pub IsFirstAlone-here : (i : ℕ) (here : Claim) → i < length claims → here ≡ get_or claims i here → All (StandsAlone case) (take i claims)
        → ¬ StandsAlone case here → IsFirstAlone case claims i
    IsFirstAlone-here i here within at h bad = record {
      at_most = omega arith;
      alone = h;
      bad = λ d below. subst (λ c. ¬ StandsAlone case c) (at ∙ get_or_default claims i here d within) bad;
    }

    pub IsFirstAlone-end : (i : ℕ) → length claims ≤ i → All (StandsAlone case) (take i claims) → IsFirstAlone case claims (length claims)
    IsFirstAlone-end i ends h = record {
      at_most = omega arith;
      alone = subst (All (StandsAlone case)) (take_all i claims ends ∙ sym (take_all (length claims) claims (omega arith))) h;
      bad = λ d below. absurd (omega (arith, below));
    }

    -- entries that are placed, and entries that are not
    placed-from : (marks : List Bool) (e : ℕ) → AreMarked (λ c. c.entry) claims (length claims) marks → e < length marks → get_or marks e true ≡ true → IsPlaced case claims e
    placed-from marks e h within on =
        let (k, below, is) = h.only e true within on in
        (k, get_or claims k no_claim, below, get_or_default claims k (get_or claims k no_claim) no_claim below, is no_claim)

    not_placed-from : (marks : List Bool) (e : ℕ) → AreMarked (λ c. c.entry) claims (length claims) marks → e < length marks → get_or marks e false ≡ false
        → All (λ c. c.entry ≢ e) claims
    not_placed-from marks e h within off k d below is = both_ways _ off (ap (λ n. get_or marks n false) (sym is) ∙ h.seen k d false below)

    pub left-from : (marks : List Bool) (r : Option ℕ) → AreMarked (λ c. c.entry) claims (length claims) marks → length marks ≡ length case.entries.now
        → MatchOption r (AllWithin (λ b. b ≡ true) marks 0 (length marks))
        (λ i. (i < length marks) × HoldsAt (λ b. b ≡ false) marks i × AllWithin (λ b. b ≡ true) marks 0 i)
        → MatchOption r ((e : ℕ) → e < length case.entries.now → IsPlaced case claims e)
        (λ entry. (entry < length case.entries.now) × All (λ c. c.entry ≢ entry) claims × ((e : ℕ) → e < entry → IsPlaced case claims e))
    left-from marks None h long all = λ e within. placed-from marks e h (omega (arith, long, within)) (all e true (omega arith) (omega (arith, long, within)))
    left-from marks (Some i) h long found = (
      omega (arith, long, found.0),
      not_placed-from marks i h found.0 (found.1 false),
      λ e below. placed-from marks e h (omega (arith, below, found.0)) (found.2 e true (omega arith) below),
    )

    -- verdicts
    module _ (alone : ℕ) (first : IsFirstAlone case claims alone) (found : ℕ) (h : IsFirst (GoTogether case) (take alone claims) found) where
      below : found ≤ alone
      below = omega (arith, h.at_most, length-take-le alone claims first.at_most)

      part : IsPartOfPacking case (take found claims)
      part =
          let short = length-take-le found claims (omega (arith, below, first.at_most)) in
          record {
            alone = λ k d within.
                subst (StandsAlone case) (get_or-take alone claims k d (omega (arith, short, below)) ∙ sym (get_or-take found claims k d (omega (arith, short))))
                (first.alone k d (omega (arith, short, below, length-take-le alone claims first.at_most)));
            together = subst (AllPairs (GoTogether case)) (take-take found alone claims below) h.free;
          }

      verdict-together : (claim : Claim) (r : Option Fault) → found < alone → claim ≡ get_or claims found claim
          → IsTogetherAnswer case (take found claims) claim r → IsVerdict case claims r
      verdict-together claim None less at all =
          let there : get_or (take alone claims) found claim ≡ claim = get_or-take alone claims found claim less ∙ sym at in
          absurd (h.bad claim (omega (arith, less, length-take-le alone claims first.at_most))
          (subst (λ c. All (λ a. GoTogether case a c) (take found (take alone claims))) (sym there)
          (subst (All (λ a. GoTogether case a claim)) (sym (take-take found alone claims below)) all)))
      verdict-together claim (Some (Together one second kind)) less at answer =
          let within : found < length claims = omega (arith, less, first.at_most) in
          let short = length-take-le found claims (omega (arith, within)) in
          let is : second ≡ found = answer.0 ∙ short in
          let stands : StandsAlone case claim =
          subst (StandsAlone case) (get_or-take alone claims found claim less ∙ sym at) (first.alone found claim (omega (arith, less, length-take-le alone claims first.at_most))) in
          subst (λ n. IsVerdict case claims (Some (Together one n kind))) (sym is) (at_here claims found claim within at, part, stands, answer.1)
      verdict-together claim (Some (Alone place fault)) less at answer = absurd answer
      verdict-together claim (Some (NotPlaced entry)) less at answer = absurd answer

      -- as it is answered, unless memory was refused
      pub verdict-if : (claim : Claim) (r : Result (Option Fault) AllocError) → found < alone → claim ≡ get_or claims found claim
          → IfOk r (IsTogetherAnswer case (take found claims) claim) → IfOk r (IsVerdict case claims)
      verdict-if claim (Ok fault) less at answer = verdict-together claim fault less at answer
      verdict-if claim (Err refused) less at answer = tt

      pub verdict-alone : (claim : Claim) (r : Option AloneFault) → alone ≤ found → alone < length claims → claim ≡ get_or claims alone claim
          → IsAloneAnswer case claim r → IsVerdict case claims (option_map (λ fault. Alone alone fault) r)
      verdict-alone claim None ends within at stands = absurd (first.bad claim within (subst (StandsAlone case) at stands))
      verdict-alone claim (Some fault) ends within at answer =
          let is : found ≡ alone = omega (arith, below) in
          subst (λ n. IsVerdict case claims (Some (Alone n fault))) is
          (at_here claims found claim (omega (arith, is, within)) (subst (λ n. claim ≡ get_or claims n claim) (sym is) at), part, answer)

  IsTogetherFault-at : (earlier : List Claim) (c : Claim) (kind : Conflict) (i : ℕ) → i < length earlier → HoldsAt (λ a. IsConflict case kind a c) earlier i
      → All (λ a. IsFree case kind a c) (take i earlier) → ((other : Conflict) → rank other < rank kind → All (λ a. IsFree case other a c) earlier)
      → IsTogetherFault case earlier c i kind
  IsTogetherFault-at earlier c kind i within is none others = record {
    at = at_here earlier i (get_or earlier i c) within (get_or_default earlier i c (get_or earlier i c) within);
    is = is c;
    none_before = none;
    no_other = others;
  }

  -- the kinds of conflicts, in their order
  abbrev pub kinds : List Conflict
  kinds = PlacedTwice ∷ SharesCell ∷ GroupInTwoBins ∷ ExcludedTogether ∷ []

  kind-at : (kind : Conflict) → get_or kinds (rank kind) PlacedTwice ≡ kind
  unfolding rank
  kind-at PlacedTwice = refl
  kind-at SharesCell = refl
  kind-at GroupInTwoBins = refl
  kind-at ExcludedTogether = refl

  rank-at : (i : ℕ) → i < 4 → rank (get_or kinds i PlacedTwice) ≡ i
  unfolding rank
  rank-at zero below = refl
  rank-at (suc zero) below = refl
  rank-at (suc (suc zero)) below = refl
  rank-at (suc (suc (suc zero))) below = refl
  rank-at (suc (suc (suc (suc i)))) below = absurd (omega (arith, below))

  rank-below : (kind : Conflict) → rank kind < 4
  unfolding rank
  rank-below PlacedTwice = omega arith
  rank-below SharesCell = omega arith
  rank-below GroupInTwoBins = omega arith
  rank-below ExcludedTogether = omega arith

  module _ (earlier : List Claim) (c : Claim) where
    abbrev pub AreFreeBefore : ℕ → Type 0
    AreFreeBefore i = (other : Conflict) → rank other < i → All (λ a. IsFree case other a c) earlier

    pub free-more : (i : ℕ) → AreFreeBefore i → All (λ a. IsFree case (get_or kinds i PlacedTwice) a c) earlier → AreFreeBefore (i + 1)
    free-more i h next other below = elim (cases_lt (rank other) i) [
      | inl lt ↦ h other lt
      | inr ge ↦
          let is : get_or kinds i PlacedTwice ≡ other = ap (λ n. get_or kinds n PlacedTwice) (omega (arith, ge, below)) ∙ kind-at other in
          subst (λ kind. All (λ a. IsFree case kind a c) earlier) is next
    ]

    pub free-all : (i : ℕ) → 4 ≤ i → AreFreeBefore i → All (λ a. GoTogether case a c) earlier
    free-all i ends h k d within = λ kind. h kind (omega (arith, ends, rank-below kind)) k d within

    pub IsTogetherFault-kind : (i first : ℕ) → i < 4 → AreFreeBefore i → first < length earlier
        → HoldsAt (λ a. IsConflict case (get_or kinds i PlacedTwice) a c) earlier first
        → All (λ a. IsFree case (get_or kinds i PlacedTwice) a c) (take first earlier) → IsTogetherFault case earlier c first (get_or kinds i PlacedTwice)
    IsTogetherFault-kind i first below h within is none =
        IsTogetherFault-at earlier c (get_or kinds i PlacedTwice) first within is none (λ other less. h other (omega (arith, less, rank-at i below)))
