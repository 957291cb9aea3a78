-- Boxes that are told apart by planes.
use Rattle.rectangle_pack_sections.proofs.Std.{ℕ, ◌+◌, ◌<◌, ◌≤◌, ◌≡◌, Bool, true, false, List, [], ◌∷◌, ◌++◌, length, take, filter, get_or, slice_index_or}
use Rattle.rectangle_pack_sections.proofs.Std.{All, AllPairs, refl, ap, sym, ◌∙◌, subst, arith, nat_tests, inl, inr, cases_lt, cases_Bool, both_ways}
use Rattle.rectangle_pack_sections.proofs.Std.{MatchBool, AllWithin, HoldsAt, take_all, take_more, filter-append, append-nil, get_or_default}
use Rattle.rectangle_pack_sections.proofs.Std.{All-nil, All-cons, All-weaker, AllPairs-cons, get_or-take, length-take-le}
use Rattle.std.proofs.lemmas.List.Kept.{AllPairs-filter}
use Rattle.rectangle_pack_sections.specs.declared.axis.Axis.{Axis}
use Rattle.rectangle_pack_sections.specs.Boxes.{Cuboid, AreApart, SharesCell, start, end}
use Rattle.rectangle_pack_sections.proofs.lemmas.cuts.Boxes.{is_cell_of-from, not_from_AreApart}
use Rattle.rectangle_pack_sections.proofs.lemmas.cuts.Axes.{lies_in}
use Rattle.rectangle_pack_sections.proofs.lemmas.util.Lists.{All-unfilter, AllPairs-head, AllPairs-tail, AllPairs-append}
use Rattle.rectangle_pack_overlaps.specs.declared.parting.Numbered.{Numbered}
use Rattle.rectangle_pack_overlaps.specs.declared.parting.Side.{Side}
use Rattle.rectangle_pack_overlaps.specs.declared.parting.Side.TheVariants.{Below, Above}
use Rattle.rectangle_pack_overlaps.specs.declared.planes.Plane.{Plane}
use Rattle.rectangle_pack_overlaps.specs.private.Parting.{AreRising, is_on, is_kept, AreApartBefore, IsFound}

module _ {X : Type 0} where
  -- what holds of each two that are kept holds of each two that pass
  AllPairs-unfilter : (test : X → Bool) (R : X → X → Type 0) (xs : List X) → AllPairs R (filter test xs)
      → AllPairs (λ a b. test a ≡ true → test b ≡ true → R a b) xs
  AllPairs-unfilter test R [] h = λ i j d below within. absurd (omega arith)
  AllPairs-unfilter test R (x ∷ xs) h = elim (cases_Bool (test x)) [
    | inl on ↦
        let kept = rw on at h in
        AllPairs-cons (λ a b. test a ≡ true → test b ≡ true → R a b) x xs
        (All-weaker (λ b. test b ≡ true → R x b) (λ b. test x ≡ true → test b ≡ true → R x b) (λ b r e f. r f) xs
        (All-unfilter test (R x) xs (AllPairs-head R x (filter test xs) kept)))
        (AllPairs-unfilter test R xs (AllPairs-tail R x (filter test xs) kept))
    | inr off ↦
        AllPairs-cons (λ a b. test a ≡ true → test b ≡ true → R a b) x xs
        (λ k d within e f. absurd (both_ways _ off e))
        (AllPairs-unfilter test R xs (rw off at h))
  ]

-- boxes of which one ends on an axis before the other starts share no cell
AreApart-on : (a : Axis) (p q : Cuboid) → end a p ≤ start a q → AreApart p q
AreApart-on a p q h = record {
  none = λ c of_p of_q.
      let in_p = lies_in c p (is_cell_of-from c p of_p) a in
      let in_q = lies_in c q (is_cell_of-from c q of_q) a in
      absurd (omega (arith, in_p.1, in_q.0));
}

AreApart-back : (p q : Cuboid) → AreApart p q → AreApart q p
AreApart-back p q h = record { none = λ c of_q of_p. h.none c of_p of_q }

module _ (plane : Plane) where
  not_below : (b : Cuboid) → is_on plane Below b ≡ false → plane.place ≤ start plane.axis b
  unfolding is_on
  not_below b h = grind (arith, nat_tests)

  not_above : (b : Cuboid) → is_on plane Above b ≡ false → end plane.axis b ≤ plane.place
  unfolding is_on
  not_above b h = grind (arith, nat_tests)

  -- a box that is on no side has no cells
  AreApart-nowhere : (p q : Cuboid) → is_on plane Below p ≡ false → is_on plane Above p ≡ false → AreApart p q
  AreApart-nowhere p q below above = record {
    none = λ c of_p of_q.
        let in_p = lies_in c p (is_cell_of-from c p of_p) plane.axis in
        absurd (omega (arith, in_p.0, in_p.1, not_below p below, not_above p above));
  }

  -- two boxes share no cell where they share none on the sides on which both are
  AreApart-by : (p q : Cuboid) → (is_on plane Below p ≡ true → is_on plane Below q ≡ true → AreApart p q)
      → (is_on plane Above p ≡ true → is_on plane Above q ≡ true → AreApart p q) → AreApart p q
  AreApart-by p q below above = elim (cases_Bool (is_on plane Below p)) [
    | inl bp ↦ elim (cases_Bool (is_on plane Below q)) [
      | inl bq ↦ below bp bq
      | inr nbq ↦ elim (cases_Bool (is_on plane Above p)) [
        | inl ap ↦ elim (cases_Bool (is_on plane Above q)) [
          | inl aq ↦ above ap aq
          | inr naq ↦ AreApart-back q p (AreApart-nowhere q p nbq naq)
        ]
        | inr nap ↦ AreApart-on plane.axis p q (omega (arith, not_above p nap, not_below q nbq))
      ]
    ]
    | inr nbp ↦ elim (cases_Bool (is_on plane Above q)) [
      | inl aq ↦ elim (cases_Bool (is_on plane Above p)) [
        | inl ap ↦ above ap aq
        | inr nap ↦ AreApart-nowhere p q nbp nap
      ]
      | inr naq ↦ AreApart-back q p (AreApart-on plane.axis q p (omega (arith, not_above q naq, not_below p nbp)))
    ]
  ]

  pub is_kept-from : (side : Side) (limit : ℕ) (p : Numbered) → p.index < limit → is_on plane side p.section ≡ true → is_kept plane side limit p ≡ true
  is_kept-from side limit p below on = grind (arith, nat_tests)

  pub not_kept-beyond : (side : Side) (limit : ℕ) (p : Numbered) → limit ≤ p.index → is_kept plane side limit p ≡ false
  not_kept-beyond side limit p beyond = grind (arith, nat_tests)

  pub not_kept-beside : (side : Side) (limit : ℕ) (p : Numbered) → is_on plane side p.section ≡ false → is_kept plane side limit p ≡ false
  not_kept-beside side limit p beside = grind (arith, nat_tests)

  -- what is found below the plane, and then above it, is found of all
  pub IsFound-by : (parts : List Numbered) (limit found last : ℕ) → AreRising parts
      → IsFound limit (filter (is_kept plane Below limit) parts) found
      → IsFound found (filter (is_kept plane Above found) parts) last → IsFound limit parts last
  IsFound-by parts limit found last rising lower upper = record {
    at_most = omega (arith, lower.at_most, upper.at_most);
    apart = λ i j d below within last_before.
        let a = slice_index_or parts i d in
        let b = slice_index_or parts j d in
        let a_first : a.index < b.index = rising i j d below within in
        let most = lower.at_most in
        let more = upper.at_most in
        AreApart-by a.section b.section
        (λ on_a on_b. AllPairs-unfilter (is_kept plane Below limit) (λ a b. b.index < found → AreApart a.section b.section) parts lower.apart i j d below within
        (is_kept-from Below limit a (omega arith) on_a) (is_kept-from Below limit b (omega arith) on_b) (omega arith))
        (λ on_a on_b. AllPairs-unfilter (is_kept plane Above found) (λ a b. b.index < last → AreApart a.section b.section) parts upper.apart i j d below within
        (is_kept-from Above found a (omega arith) on_a) (is_kept-from Above found b (omega arith) on_b) (omega arith));
    bad = λ less. elim (cases_lt last found) [
      | inl before ↦ λ h. upper.bad before (AllPairs-filter (λ a b. b.index ≡ last → AreApart a.section b.section) (is_kept plane Above found) parts h)
      | inr same ↦
          let e : last ≡ found = omega (arith, upper.at_most) in
          λ h. lower.bad (omega arith) (subst (λ n. AllPairs (λ a b. b.index ≡ n → AreApart a.section b.section) (filter (is_kept plane Below limit) parts)) e
          (AllPairs-filter (λ a b. b.index ≡ last → AreApart a.section b.section) (is_kept plane Below limit) parts h))
    ];
  }

pub AreRising-filter : (test : Numbered → Bool) (parts : List Numbered) → AreRising parts → AreRising (filter test parts)
AreRising-filter test parts h = AllPairs-filter (λ a b. a.index < b.index) test parts h

-- what a test answers of all, in the words of all
pub MatchBool-all : {X : Type 0} (r : Bool) (A : Type 0) (No : X → Type 0) (xs : List X)
    → MatchBool r A (AllWithin No xs 0 (length xs)) → MatchBool r A (All No xs)
MatchBool-all true A No xs h = h
MatchBool-all false A No xs h = λ k d within. h k d (omega arith) within

pub index-at : (parts : List Numbered) (i : ℕ) (here : Numbered) → i < length parts → here ≡ get_or parts i here
    → (d : Numbered) → (get_or parts i d).index ≡ here.index
index-at parts i here within at d = ap (λ p. p.index) (get_or_default parts i d here within ∙ sym at)

abbrev pub ApartPair : Numbered → Numbered → Type 0
ApartPair a b = AreApart a.section b.section

module _ (parts : List Numbered) (rising : AreRising parts) (i : ℕ) (apart : AllPairs ApartPair (take i parts)) where
  -- boxes that come before one stand before it
  apart-before : (found : ℕ) → i < length parts → ((d : Numbered) → found ≤ (get_or parts i d).index) → AreApartBefore found parts
  apart-before found within least k j d below inside before =
      let first : j < i = elim (cases_lt j i) [
        | inl lt ↦ lt
        | inr ge ↦ elim (cases_lt i j) [
          | inl more ↦ absurd (omega (arith, rising i j d more inside, least d))
          | inr same ↦ let e : j ≡ i = omega arith in absurd (omega (arith, least d, ap (λ n. (get_or parts n d).index) e))
        ]
      ] in
      let there = apart k j d below (omega (arith, length-take-le i parts (omega arith))) in
      rw (get_or-take i parts k d (omega arith), get_or-take i parts j d first) at there

  pub IsFound-limit : (limit : ℕ) → i < length parts → ((d : Numbered) → limit ≤ (get_or parts i d).index) → IsFound limit parts limit
  IsFound-limit limit within least = record {
    at_most = omega arith;
    apart = apart-before limit within least;
    bad = λ less. absurd (omega (arith, less));
  }

  pub IsFound-here : (limit : ℕ) (here : Numbered) → i < length parts → here ≡ get_or parts i here → here.index ≤ limit
      → (k : ℕ) → k < length (take i parts) → HoldsAt (λ p. SharesCell p.section here.section) (take i parts) k → IsFound limit parts here.index
  IsFound-here limit here within at most k inside shares =
      let same : (d : Numbered) → get_or parts i d ≡ here = λ d. get_or_default parts i d here within ∙ sym at in
      let long = length-take-le i parts (omega arith) in
      record {
        at_most = most;
        apart = apart-before here.index within (λ d. omega (arith, ap (λ p. p.index) (same d)));
        bad = λ less all.
            let apart_here = all k i here (omega arith) within (ap (λ p. p.index) (same here)) in
            let shares_here = shares here in
            not_from_AreApart (get_or parts k here).section here.section
            (rw (same here) at apart_here)
            (rw (get_or-take i parts k here (omega arith)) at shares_here);
      }

  pub apart-more : (here : Numbered) → i < length parts → here ≡ get_or parts i here → All (λ p. AreApart p.section here.section) (take i parts)
      → AllPairs ApartPair (take (i + 1) parts)
  apart-more here within at none =
      rw (take_more parts i here within, sym at)
      (AllPairs-append ApartPair (take i parts) (here ∷ []) apart (λ a b d below inside. absurd (omega arith))
      (All-cons (λ y. All (λ x. ApartPair x y) (take i parts)) here [] none (All-nil (λ y. All (λ x. ApartPair x y) (take i parts)))))

pub IsFound-end : (parts : List Numbered) (i limit : ℕ) → length parts ≤ i → AllPairs ApartPair (take i parts) → IsFound limit parts limit
IsFound-end parts i limit ends apart = record {
  at_most = omega arith;
  apart = λ k j d below inside before. (rw (take_all i parts ends) at apart) k j d below inside;
  bad = λ less. absurd (omega (arith, less));
}

-- what is kept, one more
pub kept-yes : {X : Type 0} (p : X → Bool) (xs : List X) (i : ℕ) (x : X) → i < length xs → x ≡ get_or xs i x → p x ≡ true
    → filter p (take i xs) ++ x ∷ [] ≡ filter p (take (i + 1) xs)
kept-yes p xs i x within at on = rw (take_more xs i x within, sym at, filter-append p (take i xs) (x ∷ []), on) refl

pub kept-no : {X : Type 0} (p : X → Bool) (xs : List X) (i : ℕ) (x : X) → i < length xs → x ≡ get_or xs i x → p x ≡ false
    → filter p (take i xs) ≡ filter p (take (i + 1) xs)
kept-no p xs i x within at off = rw (take_more xs i x within, sym at, filter-append p (take i xs) (x ∷ []), off, append-nil (filter p (take i xs))) refl
