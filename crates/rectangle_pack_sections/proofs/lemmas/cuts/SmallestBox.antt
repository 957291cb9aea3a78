-- With one answer on each size, the smallest box gives a total preorder.
use Rattle.rectangle_pack_sections.proofs.Std.{arith, ◌≡◌, ◌≢◌, ℕ, refl, List, [], ◌∷◌, slice_index_or, nat_cmp, ordering_reverse, ordering_then, Ordering}
use Rattle.rectangle_pack_sections.proofs.Std.{Greater, All, nat_tests, recursion_from_All}
use Rattle.rectangle_pack_sections.specs.SmallestBox.{Rates, AreRates, smallest_order, smallest, second_smallest, IsSmallestOrder}
use Rattle.rectangle_pack_sections.specs.Boxes.{Size, Cuboid, IsU32}
use Rattle.rectangle_pack_sections.specs.Cuts.{sizes_of}
use Rattle.rectangle_pack_sections.specs.Choice.{IsTotalPreorder, IsPreorderOnCuts}

swapped : (p q r s : ℕ) → ordering_then (nat_cmp p q) (nat_cmp r s) ≡ ordering_reverse (ordering_then (nat_cmp q p) (nat_cmp s r))
swapped p q r s = grind (arith, nat_tests)

transitive : (p q r x y z : ℕ) → ordering_then (nat_cmp p q) (nat_cmp x y) ≢ Greater → ordering_then (nat_cmp q r) (nat_cmp y z) ≢ Greater
    → ordering_then (nat_cmp p r) (nat_cmp x z) ≢ Greater
transitive p q r x y z f g = grind (arith, nat_tests)

-- where one answer is allowed at each size, the order is a total preorder
no_size : Size
no_size = record { width = 0; height = 0; depth = 0 }

module _ (MayRate : Size → ℕ → Type 0) (rate : Size → ℕ) (only : (s : Size) (v : ℕ) → IsU32 s → MayRate s v → v ≡ rate s) where
  pub rates : List Size → Rates
  rates a = record { right = rate (slice_index_or a 0 no_size); above = rate (slice_index_or a 1 no_size); behind = rate (slice_index_or a 2 no_size) }

  same_rates : (a : List Size) (t : Rates) → All IsU32 a → AreRates MayRate a t → t ≡ rates a
  unfolding rates
  same_rates [] t u h = absurd h
  same_rates (x ∷ []) t u h = absurd h.1
  same_rates (x ∷ y ∷ []) t u h = absurd h.1.1
  same_rates (x ∷ y ∷ z ∷ []) t u h =
      let v = recursion_from_All IsU32 (x ∷ y ∷ z ∷ []) u in
      rw (← only x t.right v.0 h.0, ← only y t.above v.1.0 h.1.0, ← only z t.behind v.1.1.0 h.1.1.0) refl
  same_rates (x ∷ y ∷ z ∷ r ∷ xs) t u h = absurd h.1.1.1

  order_of : List Size → List Size → Ordering
  order_of a b = smallest_order (rates a) (rates b)

  pub smallest_is_preorder : (MayPrefer : List Size → List Size → Ordering → Type 0)
      → ((a b : List Size) (r : Ordering) → MayPrefer a b r → All IsU32 a × All IsU32 b)
      → ((a b : List Size) (r : Ordering) → MayPrefer a b r → IsSmallestOrder MayRate a b r) → IsTotalPreorder MayPrefer
  unfolding order_of
  smallest_is_preorder MayPrefer u32 answers = record {
    compare = order_of;
    only = λ a b r says.
        let u = u32 a b r says in
        let o = answers a b r says in
        rw (o.answer_is, same_rates a o.rates_first u.0 o.rated_first, same_rates b o.rates_second u.1 o.rated_second) refl;
    swapped = λ a b.
        let p = rates a in let q = rates b in
        swapped (smallest p) (smallest q) (second_smallest p) (second_smallest q);
    transitive = λ a b c f g.
        let p = rates a in let q = rates b in let r = rates c in
        transitive (smallest r) (smallest q) (smallest p) (second_smallest r) (second_smallest q) (second_smallest p) g f;
  }

-- what is a total preorder on all triples is one on all cuts
pub preorder_on_cuts : (IsMet : Cuboid → Size → Type 0) (MayPrefer : List Size → List Size → Ordering → Type 0)
    → IsTotalPreorder MayPrefer → IsPreorderOnCuts IsMet MayPrefer
preorder_on_cuts IsMet MayPrefer o = record {
  compare = λ section member a b. o.compare (sizes_of a) (sizes_of b);
  preorder = λ section member met held. record {
    only = λ a b r i j says. o.only (sizes_of a) (sizes_of b) r says;
    swapped = λ a b i j. o.swapped (sizes_of a) (sizes_of b);
    transitive = λ a b c i j k. o.transitive (sizes_of a) (sizes_of b) (sizes_of c);
  };
}
