-- How many cells placements fill in each bin.
use Rattle.rectangle_pack_sections.proofs.Std.{◌≡◌, ℕ, ◌+◌, ◌≤◌, Bool, true, false, cond, List, [], ◌∷◌, ◌++◌, refl, sym, ap, ◌∙◌, arith, filter, map}
use Rattle.rectangle_pack_sections.proofs.Std.{Some, unwrap_or, Ordering, Equal, Equal-is, IsTotalOrder, is_at, lookup, keys_of, Bor, append-nil, sum_by_push, nat_lt, le-ltb}
use Rattle.rectangle_pack_sections.proofs.Std.{◌<◌, lt-ltb, map-append, map_push, filter-append, deref_pair}
use Rattle.rectangle_pack_sections.specs.Boxes.{Cuboid, volume_of}
use Rattle.rectangle_pack_sections.specs.Counting.{total_volume}
use Rattle.rectangle_pack_lists.specs.Numbers.{saturated}
use Rattle.rectangle_pack_sections.proofs.lemmas.util.Maps.{congr_right}
use Rattle.rectangle_pack_packing.specs.declared.answer.Placement.{Placement}
use Rattle.rectangle_pack_packing.specs.Best.{cells_placed_in}
use Rattle.rectangle_pack_packing.specs.KeptBins.{locations_in}
use Rattle.rectangle_pack_packing.specs.private.Cells.{cells_in}
use Rattle.rectangle_pack_packing.proofs.lemmas.packing.Placed.{locations_in-append}

module _ {Id B : Type 0} {cmp : B → B → Ordering} (o : IsTotalOrder cmp) where
  -- equal ids have the same placements
  placed_in-same : (id q : B) → cmp id q ≡ Equal → (ps : List (Placement Id B))
      → filter (λ p. is_at (cmp p.bin) id) ps ≡ filter (λ p. is_at (cmp p.bin) q) ps
  placed_in-same id q same [] = refl
  placed_in-same id q same (p ∷ ps) = rw (congr_right o id q p.bin same, placed_in-same id q same ps) refl

  pub cells_placed_in-same : (id q : B) → cmp id q ≡ Equal → (ps : List (Placement Id B)) → cells_placed_in cmp ps id ≡ cells_placed_in cmp ps q
  cells_placed_in-same id q same ps = ap (λ (here : List (Placement Id B)). saturated (total_volume (map (λ p. p.location) here))) (placed_in-same id q same ps)

  -- one placement more, in this bin or in another one
  cells_placed_in-more : (ps : List (Placement Id B)) (p : Placement Id B) (id : B) (b : Bool) → is_at (cmp p.bin) id ≡ b
      → cells_placed_in cmp (ps ++ p ∷ []) id ≡ cond b (saturated (cells_placed_in cmp ps id + volume_of p.location.whd)) (cells_placed_in cmp ps id)
  cells_placed_in-more ps p id true here = rw (locations_in-append cmp ps (p ∷ []) id, here)
      (rw (sum_by_push (λ (l : Cuboid). volume_of l.whd) (locations_in cmp ps id) p.location) (omega arith))
  cells_placed_in-more ps p id false elsewhere = rw (locations_in-append cmp ps (p ∷ []) id, elsewhere, append-nil (locations_in cmp ps id)) refl

  -- so the counts of all bins are right after it is counted
  pub cells_in-more : (ps : List (Placement Id B)) (p : Placement Id B) (old new : List (Bor B × ℕ)) (count : ℕ)
      → ((q : B) → cells_in cmp old q ≡ cells_placed_in cmp ps q) → count ≡ saturated (cells_in cmp old p.bin + volume_of p.location.whd)
      → ((q : B) → lookup (λ bin. is_at (cmp q) bin.now) new ≡ cond (is_at (cmp p.bin) q) (Some count) (lookup (λ bin. is_at (cmp q) bin.now) old))
      → (id : B) → cells_in cmp new id ≡ cells_placed_in cmp (ps ++ p ∷ []) id
  cells_in-more ps p old new count right counted updates id = by (is_at (cmp p.bin) id) refl
    where
      by : (b : Bool) → is_at (cmp p.bin) id ≡ b → cells_in cmp new id ≡ cells_placed_in cmp (ps ++ p ∷ []) id
      by true here =
          let same : cells_placed_in cmp ps p.bin ≡ cells_placed_in cmp ps id = cells_placed_in-same p.bin id ((Equal-is _).0 here) ps in
          ap (λ found. unwrap_or found 0) (updates id) ∙ rw (here, counted, right p.bin, same) refl ∙ sym (cells_placed_in-more ps p id true here)
      by false elsewhere =
          ap (λ found. unwrap_or found 0) (updates id) ∙ rw elsewhere (right id) ∙ sym (cells_placed_in-more ps p id false elsewhere)

-- the counts of the bins that get cells, after one more bin
module _ {K X : Type 0} (count : K → ℕ) (seen : List (Bor K × Bor X)) (next : Bor K × Bor X) where
  abbrev filled : List (Bor K × Bor X) → List ℕ
  filled bins = filter (nat_lt 0) (map count (keys_of (map deref_pair bins)))

  filled-more : filled (seen ++ next ∷ []) ≡ filled seen ++ filter (nat_lt 0) (count next.0.now ∷ [])
  filled-more =
      let es = map deref_pair seen in
      let e = deref_pair next in
      ap (λ (es : List (K × X)). filter (nat_lt 0) (map count (keys_of es))) (map_push deref_pair seen next)
      ∙ ap (λ keys. filter (nat_lt 0) (map count keys)) (map-append (λ (x : K × X). x.0) es (e ∷ []))
      ∙ ap (filter (nat_lt 0)) (map-append count (keys_of es) (e.0 ∷ [])) ∙ filter-append (nat_lt 0) (map count (keys_of es)) (count e.0 ∷ [])

  -- which gets some
  pub counts-with : (counts more : List ℕ) (n : ℕ) → counts ≡ filled seen → n ≡ count next.0.now → 0 < n → more ≡ counts ++ n ∷ []
      → more ≡ filled (seen ++ next ∷ [])
  counts-with counts more n are is some pushed = pushed ∙ rw (filled-more, ← is, are, lt-ltb 0 n some) refl

  -- which gets none
  pub counts-without : (counts : List ℕ) (n : ℕ) → counts ≡ filled seen → n ≡ count next.0.now → n ≤ 0 → counts ≡ filled (seen ++ next ∷ [])
  counts-without counts n are is none = are ∙ sym (rw (filled-more, ← is, le-ltb 0 n none) (append-nil _))
