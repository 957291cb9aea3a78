-- What the bins cost in which cells are counted, one bin more at a time.
use Rattle.rectangle_pack_sections.proofs.Std.{◌≡◌, ℕ, ◌+◌, ◌<◌, ◌≤◌, Bool, List, [], ◌∷◌, ◌++◌, refl, sym, ap, ◌∙◌, arith, filter, map, Ordering, keys_of, Bor, append-nil, sum_by}
use Rattle.rectangle_pack_sections.proofs.Std.{sum_by_push, nat_lt, le-ltb, lt-ltb, map-append, map_push, filter-append, deref_pair}
use Rattle.rectangle_pack_lists.specs.Numbers.{saturated}
use Rattle.rectangle_pack.specs.Searched.{cost_of}

module _ {B X : Type 0} (bin_cmp : B → B → Ordering) (costs : List (B × ℕ)) (count : B → ℕ) (seen : List (Bor B × Bor X)) (next : Bor B × Bor X) where
  abbrev paid : List (Bor B × Bor X) → List B
  paid bins = filter (λ id. nat_lt 0 (count id)) (keys_of (map deref_pair bins))

  abbrev cost : List (Bor B × Bor X) → ℕ
  cost bins = saturated (sum_by (cost_of bin_cmp costs) (paid bins))

  paid-more : paid (seen ++ next ∷ []) ≡ paid seen ++ filter (λ id. nat_lt 0 (count id)) (next.0.now ∷ [])
  paid-more =
      let es = map deref_pair seen in
      let e = deref_pair next in
      let test : B → Bool = λ id. nat_lt 0 (count id) in
      ap (λ (es : List (B × X)). filter test (keys_of es)) (map_push deref_pair seen next)
      ∙ ap (filter test) (map-append (λ (x : B × X). x.0) es (e ∷ []))
      ∙ filter-append test (keys_of es) (e.0 ∷ [])

  -- which has cells
  pub cost-with : (now one more n : ℕ) → now ≡ cost seen → n ≡ count next.0.now → 0 < n → one ≡ cost_of bin_cmp costs next.0.now
      → more ≡ saturated (now + one) → more ≡ cost (seen ++ next ∷ [])
  cost-with now one more n is counted some of added =
      let f = cost_of bin_cmp costs in
      let before = sum_by f (paid seen) in
      let one_more : filter (λ id. nat_lt 0 (count id)) (next.0.now ∷ []) ≡ next.0.now ∷ [] = rw (← counted, lt-ltb 0 n some) refl in
      let all : sum_by f (paid (seen ++ next ∷ [])) ≡ before + f next.0.now =
      ap (sum_by f) (paid-more ∙ ap (λ (ids : List B). paid seen ++ ids) one_more) ∙ sum_by_push f (paid seen) next.0.now in
      added ∙ by before (f next.0.now) now one (sum_by f (paid (seen ++ next ∷ []))) is of all
    where
      by : (s f now one all : ℕ) → now ≡ saturated s → one ≡ f → all ≡ s + f → saturated (now + one) ≡ saturated all
      by s f now one all is of more = omega arith

  -- which has none
  pub cost-without : (now n : ℕ) → now ≡ cost seen → n ≡ count next.0.now → n ≤ 0 → now ≡ cost (seen ++ next ∷ [])
  cost-without now n is counted none =
      let f = cost_of bin_cmp costs in
      let none_more : filter (λ id. nat_lt 0 (count id)) (next.0.now ∷ []) ≡ [] = rw (← counted, le-ltb 0 n none) refl in
      let same : paid seen ≡ paid (seen ++ next ∷ []) =
      sym (paid-more ∙ ap (λ (ids : List B). paid seen ++ ids) none_more ∙ append-nil (paid seen)) in
      is ∙ ap (λ (ids : List B). saturated (sum_by f ids)) same
