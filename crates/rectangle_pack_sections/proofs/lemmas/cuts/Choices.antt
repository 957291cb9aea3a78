-- What is chosen by some answers is chosen by more.
use Rattle.rectangle_pack_sections.proofs.Std.{◌≡◌, ◌≢◌, ℕ, List, [], ◌∷◌, inl, inr, ◌⊎◌, Any, Ordering, Greater, All-weaker}
use Rattle.rectangle_pack_sections.specs.Boxes.{Size}
use Rattle.rectangle_pack_sections.specs.Choice.{MayChoose}
use Rattle.rectangle_pack_sections.specs.SmallestBox.{IsSmallestOrder}
use Rattle.rectangle_pack_sections.proofs.lemmas.util.Zips.{AllZip-weaker}

-- a choice
module _ {A : Type 0} (R S : A → A → Ordering → Type 0) (includes : (x y : A) (r : Ordering) → R x y r → S x y r) where
  loses : (chosen : A) (before : List A) → (before ≡ []) ⊎ Any (λ earlier. (r : Ordering) × R earlier chosen r × (r ≢ Greater)) before
      → (before ≡ []) ⊎ Any (λ earlier. (r : Ordering) × S earlier chosen r × (r ≢ Greater)) before
  loses chosen before (inl none) = inl none
  loses chosen before (inr (i, x, within, at, lost)) = inr (i, x, within, at, (lost.0, includes x chosen lost.0 lost.1, lost.2))

  pub MayChoose-more : (xs : List A) (chosen : A) → MayChoose R xs chosen → MayChoose S xs chosen
  MayChoose-more xs chosen h = record {
    before = h.before;
    after = h.after;
    listed = h.listed;
    beats_later = All-weaker (λ later. R chosen later Greater) (λ later. S chosen later Greater) (λ later. includes chosen later Greater) h.after h.beats_later;
    replaces = loses chosen h.before h.replaces;
    greatest = λ compare o. h.greatest compare
        (record { only = λ x y r i j says. o.only x y r i j (includes x y r says); swapped = o.swapped; transitive = o.transitive });
  }

-- smallest boxes, by a heuristic that may answer more
pub smallest_more : (R S : Size → ℕ → Type 0) → ((size : Size) (rate : ℕ) → R size rate → S size rate) → (a b : List Size) (r : Ordering)
    → IsSmallestOrder R a b r → IsSmallestOrder S a b r
smallest_more R S passes a b r h = record {
  rates_first = h.rates_first;
  rates_second = h.rates_second;
  rated_first = AllZip-weaker R S passes a (h.rates_first.right ∷ h.rates_first.above ∷ h.rates_first.behind ∷ []) h.rated_first;
  rated_second = AllZip-weaker R S passes b (h.rates_second.right ∷ h.rates_second.above ∷ h.rates_second.behind ∷ []) h.rated_second;
  answer_is = h.answer_is;
}
