-- Lists of the same boxes, boxes without cells aside.
use Rattle.rectangle_pack_sections.proofs.Std.{◌≡◌, Bool, true, cond, List, [], ◌∷◌, sym, ◌∙◌, arith, inl, inr, filter, count_by, IsPermutation, cases_Bool}
use Rattle.rectangle_pack_sections.proofs.Std.{cases_lt, both_ways, sum_by-IsPermutation}
use Rattle.rectangle_pack_sections.specs.Boxes.{Cuboid, has_cells}
use Rattle.rectangle_pack_sections.specs.CutTrees.{HaveSameBoxes, IsFromCuts}
use Rattle.rectangle_pack_sections.proofs.lemmas.cuts.Counting.{count-cons, count_no}
use Rattle.rectangle_pack_sections.proofs.lemmas.cuts.Times.{times_in-nil, times_in-cons, times_in-same, times_in-other, times_in-permutation, times_in-kept}
use Rattle.rectangle_pack_sections.proofs.lemmas.cuts.Times.{times_in-dropped, which_passes, in_front}

pub HaveSameBoxes-sym : (bs es : List Cuboid) → HaveSameBoxes bs es → HaveSameBoxes es bs
HaveSameBoxes-sym bs es same = λ b cells. sym (same b cells)

pub HaveSameBoxes-permutation : (bs es : List Cuboid) → IsPermutation bs es → HaveSameBoxes bs es
HaveSameBoxes-permutation bs es moved = λ b cells. sym (times_in-permutation b bs es moved)

pub HaveSameBoxes-filter : (bs : List Cuboid) → HaveSameBoxes (filter has_cells bs) bs
HaveSameBoxes-filter bs = λ b cells. times_in-kept has_cells b bs cells

-- a filter keeps the same boxes of both
pub HaveSameBoxes-filtered : (t : Cuboid → Bool) (bs es : List Cuboid) → HaveSameBoxes bs es → HaveSameBoxes (filter t bs) (filter t es)
HaveSameBoxes-filtered t bs es same = λ b cells. elim (cases_Bool (t b)) [
  | inl y ↦ omega (arith, same b cells, times_in-kept t b bs y, times_in-kept t b es y)
  | inr f ↦ omega (arith, times_in-dropped t b bs f, times_in-dropped t b es f)
]

-- the same boxes are from the same cuts
pub IsFromCuts-same : {whole : Cuboid} (bs es : List Cuboid) → HaveSameBoxes bs es → IsFromCuts bs whole → IsFromCuts es whole
IsFromCuts-same bs es same from = record { tree = from.tree; is_tree = from.is_tree; same = λ b cells. from.same b cells ∙ same b cells }

-- as many of the same boxes pass a test that only boxes with cells pass
pub count-same : (q : Cuboid → Bool) → ((b : Cuboid) → q b ≡ true → has_cells b ≡ true) → (bs es : List Cuboid) → HaveSameBoxes bs es
    → count_by q bs ≡ count_by q es
count-same q cells [] es same = elim (cases_lt 0 (count_by q es)) [
  | inl some ↦ let b = which_passes q es some in absurd (omega (arith, b.2, same b.0 (cells b.0 b.1), times_in-nil b.0))
  | inr none ↦ omega arith
]
count-same q cells (b ∷ bs) es same = elim (cases_Bool (has_cells b)) [
  | inl full ↦
      let r = in_front b es (omega (arith, same b full, times_in-same b bs)) in
      let moved = λ (e : Cuboid). times_in-permutation e es (b ∷ r.0) r.1 in
      let rest = count-same q cells bs r.0 (λ e k. omega (arith, same e k, moved e, times_in-cons e b bs, times_in-cons e b r.0)) in
      omega (arith, rest, sum_by-IsPermutation (λ e. cond (q e) 1 0) es (b ∷ r.0) r.1, count-cons q b bs, count-cons q b r.0)
  | inr empty ↦
      let rest = count-same q cells bs es (λ x k. omega (arith, same x k, times_in-other x b bs (λ p. both_ways _ empty (rw (← p) k)))) in
      elim (cases_Bool (q b)) [
        | inl y ↦ absurd (both_ways _ empty (cells b y))
        | inr f ↦ omega (arith, rest, count_no q b bs f)
      ]
]
