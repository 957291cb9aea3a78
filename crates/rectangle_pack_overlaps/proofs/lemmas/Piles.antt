-- Boxes in piles, one for each bin.
use Rattle.rectangle_pack_sections.proofs.Std.{ℕ, ◌+◌, ◌<◌, ◌≡◌, ◌≢◌, List, [], ◌∷◌, ◌++◌, length, take, get_or, set}
use Rattle.rectangle_pack_sections.proofs.Std.{All, Any, HoldsAt, Vec, refl, ap, sym, ◌∙◌, subst, arith, inl, inr, cases_lt, cases_eq}
use Rattle.rectangle_pack_sections.proofs.Std.{All-nil, All-cons, All-append, All-weaker, get_or-take, length-take-le, get_or_default}
use Rattle.rectangle_pack_sections.proofs.Std.{length-set, get_or-set_same, get_or-set_other, length-append, get_or_append_left}
use Rattle.std.proofs.lemmas.List.Quantifiers.{Any-push}
use Rattle.rectangle_pack_sections.specs.Boxes.{Cuboid, AreApart}
use Rattle.rectangle_pack_sections.proofs.lemmas.util.Lists.{AllPairs-append}
use Rattle.rectangle_pack_overlaps.specs.declared.overlaps.Standing.{Standing}
use Rattle.rectangle_pack_overlaps.specs.declared.parting.Numbered.{Numbered}
use Rattle.rectangle_pack_overlaps.specs.Overlaps.{Clash, AreClear, IsFirstOverlap}
use Rattle.rectangle_pack_overlaps.specs.private.Parting.{AreRising, IsFound}
use Rattle.rectangle_pack_overlaps.specs.private.Piles.{IsOf, IsPile, ArePiles, IsFirstBadIn, IsFirstBad}
use Rattle.rectangle_pack_overlaps.proofs.lemmas.Places.{at_here}

Any-front : {X : Type 0} (P : X → Type 0) (xs ys : List X) → Any P xs → Any P (xs ++ ys)
Any-front P xs ys h = (h.0, h.1, omega (arith, h.2, length-append xs ys), get_or_append_left xs ys h.1 h.0 h.2 ∙ h.3, h.4)

AreApart-same : {p q r s : Cuboid} → p ≡ r → q ≡ s → AreApart r s → AreApart p q
AreApart-same {p} {q} {r} {s} e f h = subst (λ b. AreApart b q) (sym e) (subst (λ b. AreApart r b) (sym f) h)

module _ (boxes : List Standing) where
  IsPile-empty : (bin : ℕ) (parts : List Numbered) → parts ≡ [] → IsPile boxes 0 bin parts
  IsPile-empty bin parts none = rw none (record {
    rising = λ i j d below within. absurd (omega arith);
    of_bin = All-nil (IsOf boxes 0 bin);
    all = λ i d within in_bin. absurd (omega arith);
  })

  pub ArePiles-empty : {A : Type 0} (bins : ℕ) (piles : List (Vec Numbered A)) → length piles ≡ bins → All (λ p. p.items ≡ []) piles → ArePiles boxes 0 bins piles
  ArePiles-empty bins piles long none = record {
    as_many = long;
    each = λ k d within. IsPile-empty k (get_or piles k d).items (none k d (omega (arith, long)));
  }

  IsOf-more : (i bin : ℕ) (p : Numbered) → IsOf boxes i bin p → IsOf boxes (i + 1) bin p
  IsOf-more i bin p h = record { within = omega (arith, h.within); is = h.is }

  -- the next box is in another bin
  IsPile-beside : (i bin : ℕ) (next : Standing) (parts : List Numbered) → i < length boxes → next ≡ get_or boxes i next → next.bin ≢ bin
      → IsPile boxes i bin parts → IsPile boxes (i + 1) bin parts
  IsPile-beside i bin next parts within at other h = record {
    rising = h.rising;
    of_bin = All-weaker (IsOf boxes i bin) (IsOf boxes (i + 1) bin) (IsOf-more i bin) parts h.of_bin;
    all = λ k d below in_bin. elim (cases_lt k i) [
      | inl lt ↦ h.all k d lt in_bin
      | inr ge ↦
          let e : k ≡ i = omega arith in
          absurd (other (ap (λ b. b.bin) (at ∙ get_or_default boxes i next d within) ∙ sym (ap (λ n. (get_or boxes n d).bin) e) ∙ in_bin))
    ];
  }

  -- the next box is in the bin
  IsPile-in : (i bin : ℕ) (next : Standing) (parts : List Numbered) → i < length boxes → next ≡ get_or boxes i next → next.bin ≡ bin
      → IsPile boxes i bin parts → IsPile boxes (i + 1) bin (parts ++ record { index = i; section = next.section } ∷ [])
  IsPile-in i bin next parts within at here h =
      let last : Numbered = record { index = i; section = next.section } in
      let is_last : IsOf boxes (i + 1) bin last = record {
        within = omega arith;
        is = λ d. get_or_default boxes i d next within ∙ sym at ∙ ap (λ n. record { bin = n; section = next.section }) here;
      } in
      record {
        rising = AllPairs-append (λ a b. a.index < b.index) parts (last ∷ []) h.rising (λ a b d below inside. absurd (omega arith))
            (All-cons (λ y. All (λ x. x.index < y.index) parts) last [] (All-weaker (IsOf boxes i bin) (λ p. p.index < i) (λ p o. o.within) parts h.of_bin)
            (All-nil (λ y. All (λ x. x.index < y.index) parts)));
        of_bin = All-append (IsOf boxes (i + 1) bin) parts (last ∷ [])
            (All-weaker (IsOf boxes i bin) (IsOf boxes (i + 1) bin) (IsOf-more i bin) parts h.of_bin)
            (All-cons (IsOf boxes (i + 1) bin) last [] is_last (All-nil (IsOf boxes (i + 1) bin)));
        all = λ k d below in_bin. elim (cases_lt k i) [
          | inl lt ↦ Any-front (λ p. p.index ≡ k) parts (last ∷ []) (h.all k d lt in_bin)
          | inr ge ↦ Any-push (λ p. p.index ≡ k) parts last (omega arith)
        ];
      }

  pub ArePiles-more : {A : Type 0} (i bins : ℕ) (next : Standing) (piles : List (Vec Numbered A)) (was pile : Vec Numbered A)
      → i < length boxes → next ≡ get_or boxes i next → next.bin < bins
      → was ≡ get_or piles next.bin was → pile.items ≡ was.items ++ record { index = i; section = next.section } ∷ []
      → ArePiles boxes i bins piles → ArePiles boxes (i + 1) bins (set piles next.bin pile)
  ArePiles-more i bins next piles was pile within at known before items h = record {
    as_many = length-set piles next.bin pile ∙ h.as_many;
    each = λ k d below. elim (cases_eq next.bin k) [
      | inl here ↦
          let same : get_or (set piles next.bin pile) k d ≡ pile = ap (λ n. get_or (set piles next.bin pile) n d) (sym here) ∙ get_or-set_same piles next.bin pile d (omega (arith, h.as_many)) in
          let old : get_or piles k was ≡ was = ap (λ n. get_or piles n was) (sym here) ∙ sym before in
          rw (same, items) (IsPile-in i k next was.items within at here (subst (λ v. IsPile boxes i k v.items) old (h.each k was below)))
      | inr other ↦
          let same : get_or (set piles next.bin pile) k d ≡ get_or piles k d = get_or-set_other piles next.bin k pile d (λ e. other (sym e)) in
          rw same (IsPile-beside i k next (get_or piles k d).items within at other (h.each k d below))
    ];
  }

  pub AreRising-piles : {A : Type 0} (count bins : ℕ) (piles : List (Vec Numbered A)) → ArePiles boxes count bins piles → All (λ p. AreRising p.items) piles
  AreRising-piles count bins piles h k d within = (h.each k d (omega (arith, h.as_many))).rising

  -- before the first pile
  pub IsFirstBadIn-none : IsFirstBadIn boxes 0 (length boxes)
  IsFirstBadIn-none = record {
    at_most = omega arith;
    clear = λ i j d below within none. absurd (omega (arith, none));
    bad = λ d less. absurd (omega (arith, less));
  }

  module _ (bin : ℕ) (parts : List Numbered) (pile : IsPile boxes (length boxes) bin parts) where
    -- the place of a box in its pile
    placed : (i : ℕ) (d : Standing) → i < length boxes → (get_or boxes i d).bin ≡ bin
        → (k : ℕ) × (k < length parts) × ((e : Numbered) → (get_or parts k e).index ≡ i)
    placed i d within in_bin =
        let found = pile.all i d within in_bin in
        (found.0, found.2, λ e. ap (λ p. p.index) (get_or_default parts found.0 e found.1 found.2 ∙ found.3) ∙ found.4)

    -- the box at a place in the pile
    box_is : (k i : ℕ) (e : Numbered) (d : Standing) → k < length parts → (get_or parts k e).index ≡ i
        → get_or boxes i d ≡ record { bin = bin; section = (get_or parts k e).section }
    box_is k i e d within is = ap (λ n. get_or boxes n d) (sym is) ∙ (pile.of_bin k e within).is d

    pub IsFirstBadIn-more : (found next : ℕ) → IsFirstBadIn boxes bin found → IsFound found parts next → IsFirstBadIn boxes (bin + 1) next
    IsFirstBadIn-more found next h more = record {
      at_most = omega (arith, h.at_most, more.at_most);
      clear = λ i j d below before in_bins. elim (cases_lt (get_or boxes j d).bin bin) [
        | inl earlier ↦ h.clear i j d below (omega (arith, more.at_most)) earlier
        | inr here ↦ λ one_bin.
            let in_bin : (get_or boxes j d).bin ≡ bin = omega (arith, in_bins) in
            let within : j < length boxes = omega (arith, h.at_most, more.at_most) in
            let at_i = placed i d (omega arith) (one_bin ∙ in_bin) in
            let at_j = placed j d within in_bin in
            let e : Numbered = record { index = 0; section = d.section } in
            let first : at_i.0 < at_j.0 = elim (cases_lt at_i.0 at_j.0) [
              | inl lt ↦ lt
              | inr ge ↦ elim (cases_lt at_j.0 at_i.0) [
                | inl gt ↦ absurd (omega (arith, pile.rising at_j.0 at_i.0 e gt at_i.1, at_i.2 e, at_j.2 e))
                | inr same ↦
                    let one : at_i.0 ≡ at_j.0 = omega arith in
                    absurd (omega (arith, at_i.2 e, at_j.2 e, ap (λ n. (get_or parts n e).index) one))
              ]
            ] in
            AreApart-same (ap (λ b. b.section) (box_is at_i.0 i e d at_i.1 (at_i.2 e))) (ap (λ b. b.section) (box_is at_j.0 j e d at_j.1 (at_j.2 e)))
            (more.apart at_i.0 at_j.0 e first at_j.1 (omega (arith, at_j.2 e)))
      ];
      bad = λ d less. elim (cases_lt next found) [
        | inl lower ↦ λ none. more.bad lower (λ a b e below within is.
            let i : ℕ = (get_or parts a e).index in
            let before : i < next = omega (arith, pile.rising a b e below within, is) in
            let at_a : get_or (take next boxes) i d ≡ record { bin = bin; section = (get_or parts a e).section } =
            get_or-take next boxes i d before ∙ box_is a i e d (omega arith) refl in
            let at_b : get_or boxes next d ≡ record { bin = bin; section = (get_or parts b e).section } = box_is b next e d within is in
            let clear = none i d (omega (arith, length-take-le next boxes (omega arith))) in
            AreApart-same (sym (ap (λ b. b.section) at_a)) (sym (ap (λ b. b.section) at_b)) (clear (ap (λ b. b.bin) at_a ∙ sym (ap (λ b. b.bin) at_b))))
        | inr same ↦
            let is : next ≡ found = omega (arith, more.at_most) in
            subst (λ n. ¬ All (λ b. AreClear b (get_or boxes n d)) (take n boxes)) (sym is) (h.bad d (omega arith))
      ];
    }

  pub IsFirstBad-of : (bins found : ℕ) → All (λ b. b.bin < bins) boxes → IsFirstBadIn boxes bins found → IsFirstBad boxes found
  IsFirstBad-of bins found known h =
      let long = length-take-le found boxes h.at_most in
      record {
        at_most = h.at_most;
        clear = λ i j d below within.
            rw (get_or-take found boxes i d (omega (arith, long)), get_or-take found boxes j d (omega (arith, long)))
            (h.clear i j d below (omega (arith, long)) (known j d (omega (arith, long, h.at_most))));
        bad = h.bad;
      }

  -- the overlap that is answered
  pub IsFirstOverlap-at : (found first : ℕ) (other : Standing) → IsFirstBad boxes found → found < length boxes
      → other ≡ get_or boxes found other → first < length (take found boxes) → HoldsAt (λ b. Clash b other) (take found boxes) first
      → All (λ b. AreClear b other) (take first (take found boxes)) → IsFirstOverlap boxes (record { first = first; second = found })
  IsFirstOverlap-at found first other h within at inside clash none = record {
    later = at_here boxes found other within at;
    clear = h.clear;
    earlier = at_here (take found boxes) first (get_or (take found boxes) first other) inside (get_or_default (take found boxes) first other _ inside);
    clash = clash other;
    none_before = none;
  }
