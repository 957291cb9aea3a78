-- How boxes may be turned, as far as a loop has come.
use Rattle.rectangle_pack_c.proofs.Std.{◌≡◌, ◌≢◌, ℕ, ◌+◌, ◌<◌, ◌≤◌, cond, List, ap, sym, ◌∙◌, arith, below_more, Some, None, unwrap_or}
use Rattle.rectangle_pack_c.proofs.Std.{lookup, is_at, nat_cmp}
use Rattle.rectangle_pack.specs.declared.Turns.{Turns}
use Rattle.rectangle_pack.specs.Needed.{not_turned}
use Rattle.rectangle_pack_c.specs.declared.collection.RpCollection.{RpCollection}
use Rattle.rectangle_pack_c.specs.Judging.{turns_of}
use Rattle.rectangle_pack_c.specs.Turning.{turns_at, turns_number}
use Rattle.rectangle_pack_c.proofs.OrderLemmas.{nat_same, nat_other}

-- the turns of the boxes below an index stand there, and nothing else
pub record AreTurnsBefore (c : RpCollection) (numbers : List ℕ) (n : ℕ) (turns : List (ℕ × Turns)) : Type 0 where
  pub before : (i : ℕ) → i < n → unwrap_or (lookup (is_at (nat_cmp i)) turns) not_turned ≡ turns_at c numbers i
  pub behind : (i : ℕ) → n ≤ i → lookup (is_at (nat_cmp i)) turns ≡ None

module _ (c : RpCollection) (numbers : List ℕ) (n number : ℕ) (is : number ≡ turns_number c numbers n) where
  -- one more, under the next index
  pub turns_more : (old new : List (ℕ × Turns)) (t : Turns) → t ≡ turns_of number
      → ((q : ℕ) → lookup (is_at (nat_cmp q)) new ≡ cond (is_at (nat_cmp n) q) (Some t) (lookup (is_at (nat_cmp q)) old))
      → AreTurnsBefore c numbers n old → AreTurnsBefore c numbers (n + 1) new
  turns_more old new t turned updates h = record {
    before = below_more _ _
        (λ i low. let ne : n ≢ i = omega (arith, low) in ap (λ o. unwrap_or o not_turned) (other i ne) ∙ h.before i low)
        (ap (λ o. unwrap_or o not_turned) here ∙ turned ∙ ap turns_of is);
    behind = λ i high. let ne : n ≢ i = omega (arith, high) in other i ne ∙ h.behind i (omega (arith, high));
  }
    where
      here : lookup (is_at (nat_cmp n)) new ≡ Some t
      here = updates n ∙ ap (λ b. cond b (Some t) (lookup (is_at (nat_cmp n)) old)) (nat_same n)

      other : (i : ℕ) → n ≢ i → lookup (is_at (nat_cmp i)) new ≡ lookup (is_at (nat_cmp i)) old
      other i ne = updates i ∙ ap (λ b. cond b (Some t) (lookup (is_at (nat_cmp i)) old)) (nat_other n i ne)

  -- the next box is not turned
  pub turns_none : (turns : List (ℕ × Turns)) → number ≡ 0 → AreTurnsBefore c numbers n turns → AreTurnsBefore c numbers (n + 1) turns
  turns_none turns none h = record {
    before = below_more _ _ h.before
        (ap (λ o. unwrap_or o not_turned) (h.behind n (omega arith)) ∙ ap turns_of (sym none ∙ is));
    behind = λ i high. h.behind i (omega (arith, high));
  }
