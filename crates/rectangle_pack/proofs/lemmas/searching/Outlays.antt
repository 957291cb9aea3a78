-- How outlays are compared, and that packings that are alike have one.
use Rattle.rectangle_pack_sections.proofs.Std.{◌≡◌, ℕ, ◌<◌, ◌≤◌, ◌⊎◌, inl, inr, List, [], ◌∷◌, refl, ap, ◌∙◌, arith, length, filter, map, nat_lt, sum_by, keys_of, fun_ext}
use Rattle.rectangle_pack_sections.proofs.Std.{Bool, true, false, cond, cases_lt, Ordering, Equal, IsTotalOrder, is_at, list_any}
use Rattle.rectangle_pack_sections.specs.Bins.{Bin}
use Rattle.rectangle_pack_sections.specs.Counting.{total_volume}
use Rattle.rectangle_pack_sections.proofs.lemmas.util.Maps.{congr_right}
use Rattle.rectangle_pack_bounds.specs.Arrangements.{different}
use Rattle.rectangle_pack_lists.specs.Numbers.{saturated}
use Rattle.rectangle_pack_packing.specs.declared.answer.Placement.{Placement}
use Rattle.rectangle_pack_packing.specs.Results.{ArePlacementsAlike}
use Rattle.rectangle_pack_packing.proofs.lemmas.best.Whole.{locations_in-alike}
use Rattle.rectangle_pack.specs.declared.searching.outlay.Outlay.{Outlay}
use Rattle.rectangle_pack.specs.Needed.{bins_filled}
use Rattle.rectangle_pack.specs.Searched.{IsBetterOutlay, cost_made, cost_of}

-- one is better than the other by a number, or as good by it and better by the rest
abbrev Lex : {M : Type 0} → (M → ℕ) → (M → M → Type 0) → M → M → Type 0
Lex key Better a b = (key a < key b) ⊎ ((key a ≡ key b) × Better a b)

-- what is better than a better one is better; and what is better than one is better than what is no better than that
pub record Compares {M : Type 0} (Better : M → M → Type 0) : Type 0 where
  pub never : (a : M) → ¬ Better a a
  pub trans : (a b c : M) → Better a b → Better b c → Better a c
  pub than_rest : (a b c : M) → Better a b → ¬ Better c b → Better a c

lex : {M : Type 0} (key : M → ℕ) (Better : M → M → Type 0) → Compares Better → Compares (Lex key Better)
lex {M} key Better h = record { never = never; trans = trans; than_rest = than_rest }
  where
    never : (a : M) → ¬ Lex key Better a a
    never a (inl less) = absurd (omega (arith, less))
    never a (inr (same, better)) = h.never a better

    trans : (a b c : M) → Lex key Better a b → Lex key Better b c → Lex key Better a c
    trans a b c (inl f) (inl g) = inl (omega (arith, f, g))
    trans a b c (inl f) (inr (e, g)) = inl (omega (arith, f, e))
    trans a b c (inr (e, f)) (inl g) = inl (omega (arith, e, g))
    trans a b c (inr (e, f)) (inr (d, g)) = inr (e ∙ d, h.trans a b c f g)

    by : (a b c : M) → ¬ Lex key Better c b → (key c < key b) ⊎ (key b ≤ key c) → (key b < key c) ⊎ (key c ≤ key b) → Lex key Better a b
        → Lex key Better a c
    by a b c none (inl fewer) more better = absurd (none (inl fewer))
    by a b c none (inr least) (inl more) (inl f) = inl (omega (arith, f, more))
    by a b c none (inr least) (inl more) (inr (e, f)) = inl (omega (arith, e, more))
    by a b c none (inr least) (inr most) (inl f) = inl (omega (arith, f, least))
    by a b c none (inr least) (inr most) (inr (e, f)) =
        inr (omega (arith, e, least, most), h.than_rest a b c f (λ better. none (inr (omega (arith, least, most), better))))

    than_rest : (a b c : M) → Lex key Better a b → ¬ Lex key Better c b → Lex key Better a c
    than_rest a b c better none = by a b c none (cases_lt (key c) (key b)) (cases_lt (key b) (key c)) better

-- by a number alone
by_number : {M : Type 0} (key : M → ℕ) → Compares (λ (a b : M). key a < key b)
by_number key = record {
  never = λ a less. omega (arith, less);
  trans = λ a b c f g. omega (arith, f, g);
  than_rest = λ a b c f none. elim (cases_lt (key c) (key b)) [
    | inl less ↦ absurd (none less)
    | inr le ↦ omega (arith, f, le)
  ];
}

abbrev Last : Outlay → Outlay → Type 0
Last a b = a.made.last < b.made.last

abbrev Uses : Outlay → Outlay → Type 0
Uses = Lex (λ o. o.made.bins) Last

abbrev Costs : Outlay → Outlay → Type 0
Costs = Lex (λ o. o.cost) Uses

-- outlays are compared so
pub outlays : Compares IsBetterOutlay
outlays = lex (λ (o : Outlay). o.left) Costs (lex (λ (o : Outlay). o.cost) Uses (lex (λ (o : Outlay). o.made.bins) Last (by_number (λ (o : Outlay). o.made.last))))

-- of placements that are alike the bins cost the same, and as many have a box
module _ {Id B : Type 0} (cmp : Id → Id → Ordering) {bin_cmp : B → B → Ordering} (o : IsTotalOrder bin_cmp) where
  pub cost_made-alike : (costs : List (B × ℕ)) (ps qs : List (Placement Id B)) (bins : List (B × Bin)) → ArePlacementsAlike cmp bin_cmp ps qs
      → cost_made bin_cmp costs ps bins ≡ cost_made bin_cmp costs qs bins
  cost_made-alike costs ps qs bins h =
      ap (λ (count : B → ℕ). saturated (sum_by (cost_of bin_cmp costs) (filter (λ id. nat_lt 0 (count id)) (keys_of bins))))
      (fun_ext (λ id. ap (λ here. saturated (total_volume here)) (locations_in-alike cmp o ps qs h id)))

  abbrev bin_of : Placement Id B → B
  bin_of p = p.bin

  among-alike : (ps qs : List (Placement Id B)) → ArePlacementsAlike cmp bin_cmp ps qs → (a b : B) → bin_cmp a b ≡ Equal
      → list_any (is_at (bin_cmp a)) (map bin_of ps) ≡ list_any (is_at (bin_cmp b)) (map bin_of qs)
  among-alike [] [] h a b same = refl
  among-alike [] (q ∷ qs) h a b same = absurd h
  among-alike (p ∷ ps) [] h a b same = absurd h
  among-alike (p ∷ ps) (q ∷ qs) h a b same =
      rw (o.congr a b p.bin same, congr_right o p.bin q.bin b h.0.1, among-alike ps qs h.1 a b same) refl

  pub filled-alike : (ps qs : List (Placement Id B)) → ArePlacementsAlike cmp bin_cmp ps qs → bins_filled bin_cmp ps ≡ bins_filled bin_cmp qs
  filled-alike [] [] h = refl
  filled-alike [] (q ∷ qs) h = absurd h
  filled-alike (p ∷ ps) [] h = absurd h
  filled-alike (p ∷ ps) (q ∷ qs) h =
      rw (among-alike ps qs h.1 p.bin q.bin h.0.1) (by (list_any (is_at (bin_cmp q.bin)) (map bin_of qs)) (filled-alike ps qs h.1))
    where
      by : (b : Bool) → length (different bin_cmp (map bin_of ps)) ≡ length (different bin_cmp (map bin_of qs))
          → length (cond b (different bin_cmp (map bin_of ps)) (p.bin ∷ different bin_cmp (map bin_of ps)))
          ≡ length (cond b (different bin_cmp (map bin_of qs)) (q.bin ∷ different bin_cmp (map bin_of qs)))
      by true later = later
      by false later = omega (arith, later)
