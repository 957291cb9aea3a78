-- Two cases that number their groups otherwise, and are the same in all else, have the same verdicts.
use Rattle.rectangle_pack_sections.proofs.Std.{ℕ, ◌<◌, ◌≡◌, ◌↔◌, ◌∙◌, ap, sym, subst, arith, List, length, map, get_or, get_or-map, length-map, HoldsAt}
use Rattle.rectangle_pack_sections.proofs.Std.{All, All-weaker, Contains, Option, Some, None, ◌∷◌, ◌++◌, All-head}
use Rattle.rectangle_pack_sections.proofs.lemmas.util.Lists.{All-front, All-back}
use Rattle.rectangle_pack_sections.specs.Boxes.{Size, IsInside}
use Rattle.rectangle_pack_bounds.specs.declared.turning.TurningBox.{TurningBox}
use Rattle.rectangle_pack_bounds.specs.Turning.{ways}
use Rattle.rectangle_pack_judge.specs.declared.case.Case.{Case}
use Rattle.rectangle_pack_judge.specs.declared.case.Claim.{Claim}
use Rattle.rectangle_pack_judge.specs.declared.case.Entry.{Entry}
use Rattle.rectangle_pack_judge.specs.declared.case.AloneFault.{AloneFault}
use Rattle.rectangle_pack_judge.specs.declared.case.AloneFault.TheVariants.{UnknownBin, UnknownEntry, WrongSize, Outside}
use Rattle.rectangle_pack_judge.specs.declared.case.Conflict.{Conflict}
use Rattle.rectangle_pack_judge.specs.declared.case.Conflict.TheVariants.{PlacedTwice, SharesCell, GroupInTwoBins, ExcludedTogether}
use Rattle.rectangle_pack_judge.specs.declared.judging.Fault.{Fault}
use Rattle.rectangle_pack_judge.specs.declared.judging.Fault.TheVariants.{Alone, Together, NotPlaced}
use Rattle.rectangle_pack_judge.specs.Judging.{StandsAlone, IsAloneAnswer, IsConflict, IsFree, IsPartOfPacking}
use Rattle.rectangle_pack_judge.specs.Judging.{IsTogetherFault, IsVerdict, group_of, are_apart}

-- the claim names an entry of the case
abbrev pub IsKnown : Case → Claim → Type 0
IsKnown case c = c.entry < length case.entries.now

-- two cases that differ in the numbers of groups alone: claims of known entries are of one group in both, and of groups that are
-- excluded in both
pub record AreAlike (one other : Case) : Type 0 where
  pub bins : one.bins.now ≡ other.bins.now
  pub turnings : map (λ (e : Entry). e.turning) one.entries.now ≡ map (λ (e : Entry). e.turning) other.entries.now
  pub groups : (p q : Claim) → IsKnown one p → IsKnown one q → (group_of one p ≡ group_of one q) ↔ (group_of other p ≡ group_of other q)
  pub apart : (p q : Claim) → IsKnown one p → IsKnown one q
      → are_apart one (group_of one p) (group_of one q) ≡ are_apart other (group_of other p) (group_of other q)

module _ (one other : Case) (alike : AreAlike one other) where
  as_many : length one.entries.now ≡ length other.entries.now
  as_many = sym (length-map one.entries.now (λ (e : Entry). e.turning)) ∙ ap (λ l. length l) alike.turnings ∙ length-map other.entries.now (λ (e : Entry). e.turning)

  -- what holds of the turning of an entry
  turning-to : (P : TurningBox → Type 0) (i : ℕ) → i < length one.entries.now → HoldsAt (λ e. P e.turning) one.entries.now i
      → HoldsAt (λ e. P e.turning) other.entries.now i
  turning-to P i within h = λ d.
      let at_one : get_or (map (λ (e : Entry). e.turning) one.entries.now) i d.turning ≡ (get_or one.entries.now i d).turning =
      get_or-map (λ (e : Entry). e.turning) one.entries.now i d d.turning within in
      let at_other : get_or (map (λ (e : Entry). e.turning) other.entries.now) i d.turning ≡ (get_or other.entries.now i d).turning =
      get_or-map (λ (e : Entry). e.turning) other.entries.now i d d.turning (omega (arith, as_many)) in
      subst P (sym at_one ∙ ap (λ l. get_or l i d.turning) alike.turnings ∙ at_other) (h d)

  bin-to : (P : Size → Type 0) (k : ℕ) → HoldsAt P one.bins.now k → HoldsAt P other.bins.now k
  bin-to P k h = subst (λ l. HoldsAt P l k) alike.bins h

  bins-as_many : length one.bins.now ≡ length other.bins.now
  bins-as_many = ap (λ l. length l) alike.bins

  alone-to : (c : Claim) → StandsAlone one c → StandsAlone other c
  alone-to c h = record {
    bin = omega (arith, h.bin, bins-as_many);
    entry = omega (arith, h.entry, as_many);
    in_a_way = turning-to (λ t. Contains (ways t) c.section.whd) c.entry h.entry h.in_a_way;
    inside = bin-to (λ size. IsInside size c.section) c.bin h.inside;
  }

  alone_answer-to : (c : Claim) (r : Option AloneFault) → IsAloneAnswer one c r → IsAloneAnswer other c r
  alone_answer-to c None h = alone-to c h
  alone_answer-to c (Some UnknownBin) h = omega (arith, h, bins-as_many)
  alone_answer-to c (Some UnknownEntry) h = (omega (arith, h.0, bins-as_many), omega (arith, h.1, as_many))
  alone_answer-to c (Some WrongSize) h = (
    omega (arith, h.0, bins-as_many),
    omega (arith, h.1, as_many),
    turning-to (λ t. ¬ Contains (ways t) c.section.whd) c.entry h.1 h.2,
  )
  alone_answer-to c (Some Outside) h = (
    omega (arith, h.0, bins-as_many),
    omega (arith, h.1, as_many),
    turning-to (λ t. Contains (ways t) c.section.whd) c.entry h.1 h.2,
    bin-to (λ size. ¬ IsInside size c.section) c.bin h.3,
  )

  free-to : (kind : Conflict) (p q : Claim) → IsKnown one p → IsKnown one q → IsFree one kind p q → IsFree other kind p q
  free-to PlacedTwice p q kp kq h = h
  free-to SharesCell p q kp kq h = h
  free-to GroupInTwoBins p q kp kq h = λ same. h ((alike.groups p q kp kq).1 same)
  free-to ExcludedTogether p q kp kq h = λ in_one. sym (alike.apart p q kp kq) ∙ h in_one

  conflict-to : (kind : Conflict) (p q : Claim) → IsKnown one p → IsKnown one q → IsConflict one kind p q → IsConflict other kind p q
  conflict-to PlacedTwice p q kp kq h = h
  conflict-to SharesCell p q kp kq h = h
  conflict-to GroupInTwoBins p q kp kq h = ((alike.groups p q kp kq).0 h.0, h.1)
  conflict-to ExcludedTogether p q kp kq h = (h.0, sym (alike.apart p q kp kq) ∙ h.1)

  part-to : (claims : List Claim) → IsPartOfPacking one claims → IsPartOfPacking other claims
  part-to claims h = record {
    alone = All-weaker (StandsAlone one) (StandsAlone other) alone-to claims h.alone;
    together = λ i j d below within kind.
        free-to kind (get_or claims i d) (get_or claims j d) (h.alone i d (omega arith)).entry (h.alone j d within).entry (h.together i j d below within kind);
  }

  free_all-to : (kind : Conflict) (c : Claim) (earlier : List Claim) → IsKnown one c → All (IsKnown one) earlier
      → All (λ a. IsFree one kind a c) earlier → All (λ a. IsFree other kind a c) earlier
  free_all-to kind c earlier known all h = λ k d within. free-to kind (get_or earlier k d) c (all k d within) known (h k d within)

  together-to : (earlier : List Claim) (c : Claim) (first : ℕ) (kind : Conflict) → IsKnown one c → All (IsKnown one) earlier
      → IsTogetherFault one earlier c first kind → IsTogetherFault other earlier c first kind
  together-to earlier c first kind known all h =
      let at = h.at in
      let split : All (IsKnown one) (at.before ++ at.one ∷ at.after) = subst (All (IsKnown one)) at.splits all in
      record {
        at = at;
        is = conflict-to kind at.one c (All-head (IsKnown one) at.one at.after (All-back (IsKnown one) at.before (at.one ∷ at.after) split)) known h.is;
        none_before = free_all-to kind c at.before known (All-front (IsKnown one) at.before (at.one ∷ at.after) split) h.none_before;
        no_other = λ e lower. free_all-to e c earlier known all (h.no_other e lower);
      }

  known_all : (claims : List Claim) → IsPartOfPacking one claims → All (IsKnown one) claims
  known_all claims h = All-weaker (StandsAlone one) (IsKnown one) (λ c a. a.entry) claims h.alone

  pub verdict-to : (claims : List Claim) (r : Option Fault) → IsVerdict one claims r → IsVerdict other claims r
  verdict-to claims None h = record { part = part-to claims h.part; whole = λ entry within. h.whole entry (omega (arith, as_many)) }
  verdict-to claims (Some (Alone place fault)) h = (h.0, part-to h.0.before h.1, alone_answer-to h.0.one (Some fault) h.2)
  verdict-to claims (Some (Together first second kind)) h = (
    h.0,
    part-to h.0.before h.1,
    alone-to h.0.one h.2,
    together-to h.0.before h.0.one first kind h.2.entry (known_all h.0.before h.1) h.3,
  )
  verdict-to claims (Some (NotPlaced entry)) h = (part-to claims h.0, omega (arith, h.1, as_many), h.2, h.3)
