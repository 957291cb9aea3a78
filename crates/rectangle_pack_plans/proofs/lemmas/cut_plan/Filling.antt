-- Boxes that fill another: they stand inside it, and each of its cells is in one of them.
use Rattle.rectangle_pack_sections.proofs.Std.{ℕ, ◌≡◌, ◌<◌, ◌≤◌, true, List, [], ◌∷◌, sym, ◌∙◌, arith, inl, inr, All, filter, count_by, IsPermutation, cases_lt}
use Rattle.rectangle_pack_sections.proofs.Std.{cases_Bool, both_ways, cond, rules, filter_passes, All-permutation, sum_by-IsPermutation}
use Rattle.rectangle_pack_sections.specs.declared.axis.Axis.{Axis}
use Rattle.rectangle_pack_sections.specs.Boxes.{Size, Cuboid, Cell, IsInside, IsPartOf, FitsU32, is_cell_of, start, has_cells}
use Rattle.rectangle_pack_sections.specs.Bins.{whole as bin}
use Rattle.rectangle_pack_sections.specs.Counting.{times_filled, Tiles}
use Rattle.rectangle_pack_sections.specs.Covering.{CoverBin}
use Rattle.rectangle_pack_sections.specs.CutTrees.{times_in, HaveSameBoxes}
use Rattle.rectangle_pack_plans.specs.private.CutPlans.{HaveCellsAndFit, IsFilled}
use Rattle.rectangle_pack_sections.proofs.lemmas.cuts.Axes.{cell_at, IsAt, is_cell_at, lies_at, runs_on, is_part, stays_in, cell-part, cells-part}
use Rattle.rectangle_pack_sections.proofs.lemmas.cuts.Boxes.{is_cell_of-true, is_cell_of-from, has_cells-from}
use Rattle.rectangle_pack_sections.proofs.lemmas.cuts.Counting.{count_yes, count_no, cell_from_filled, filled-filter, filled-permutation}
use Rattle.rectangle_pack_sections.proofs.lemmas.cuts.Trees.{times_in-empty}
use Rattle.rectangle_pack_sections.proofs.lemmas.cuts.SameBoxes.{count-same}
use Rattle.rectangle_pack_plans.proofs.lemmas.cut_plan.OpenPlanes.{last_at, IsAt-last}
use Rattle.rectangle_pack_sections.proofs.lemmas.cuts.Parts.{box_alike}
use Rattle.rectangle_pack_sections.proofs.lemmas.cuts.Times.{cases_box, times_in-nil, times_in-cons, times_in-other, times_in-permutation, which_passes}
use Rattle.rectangle_pack_sections.proofs.lemmas.cuts.Times.{passes_counted, in_front, All-times_in, All-from_times_in}

module _ (whole : Cuboid) (boxes : List Cuboid) (tiles : Tiles boxes whole) where
  -- a cell of one of the boxes is one of the whole
  cell_of_whole : (e : Cuboid) → 0 < times_in e boxes → (c : Cell) → is_cell_of c e ≡ true → is_cell_of c whole ≡ true
  unfolding times_filled
  cell_of_whole e some c h =
      let same : count_by (is_cell_of c) boxes ≡ count_by (is_cell_of c) (whole ∷ []) = tiles.same c in
      is_cell_of-from c whole (cell_from_filled c whole (omega (arith, same, passes_counted (is_cell_of c) e boxes h some)))

  in_whole : (e : Cuboid) → 0 < times_in e boxes → (f : Axis → ℕ) → IsAt e f → IsAt whole f
  in_whole e some f h = lies_at f whole (cell_of_whole e some (cell_at f) (is_cell_at f e h))

  -- one of the boxes that has cells is inside the whole
  box_inside : (e : Cuboid) → 0 < times_in e boxes → has_cells e ≡ true → IsPartOf e whole
  box_inside e some cells =
      let first = in_whole e some (λ a. start a e) (λ a. (omega arith, runs_on e cells a)) in
      let last = in_whole e some (last_at e) (IsAt-last e cells) in
      is_part e whole (λ a. (omega (arith, first a), omega (arith, last a, runs_on e cells a)))

  pub boxes_inside : All (λ e. has_cells e ≡ true → IsPartOf e whole) boxes
  boxes_inside = All-from_times_in (λ e. has_cells e ≡ true → IsPartOf e whole) boxes box_inside

  holder : (f : Axis → ℕ) → IsAt whole f → (e : Cuboid) × (has_cells e ≡ true) × (0 < times_in e boxes) × IsAt e f
  unfolding times_filled
  holder f at =
      let c = cell_at f in
      let same : count_by (is_cell_of c) boxes ≡ count_by (is_cell_of c) (whole ∷ []) = tiles.same c in
      let some : 0 < count_by (is_cell_of c) boxes = omega (arith, same, count_yes (is_cell_of c) whole [] (is_cell_at f whole at)) in
      let e = which_passes (is_cell_of c) boxes some in
      (e.0, has_cells-from c e.0 e.1, e.2, lies_at f e.0 e.1)

  -- where the whole has cells, one of the boxes has the first of them, and one has the last
  pub box_at_start : has_cells whole ≡ true → (e : Cuboid) × (has_cells e ≡ true) × (0 < times_in e boxes) × IsAt e (λ a. start a whole)
  box_at_start cells = holder (λ a. start a whole) (λ a. (omega arith, runs_on whole cells a))

  pub box_at_end : has_cells whole ≡ true → (e : Cuboid) × (has_cells e ≡ true) × (0 < times_in e boxes) × IsAt e (last_at whole)
  box_at_end cells = holder (last_at whole) (IsAt-last whole cells)

  -- at most one of the boxes has cells: it is the whole, if that has cells
  pub one_box_fills : count_by has_cells boxes ≤ 1 → HaveSameBoxes (whole ∷ []) boxes
  one_box_fills few = λ e cells. elim (cases_Bool (has_cells whole)) [
    | inr empty ↦ elim (cases_lt 0 (times_in e boxes)) [
      | inl some ↦ absurd (both_ways _ empty (cells-part e whole (box_inside e some cells) cells))
      | inr none ↦ omega (arith, times_in-empty e whole cells empty)
    ]
    | inl full ↦
        let first = box_at_start full in
        let last = box_at_end full in
        let r = in_front first.0 boxes first.2 in
        let counted = sum_by-IsPermutation (λ e. cond (has_cells e) 1 0) boxes (first.0 ∷ r.0) r.1 in
        -- no other box has cells
        let none : count_by has_cells r.0 ≡ 0 = omega (arith, few, counted, count_yes has_cells first.0 r.0 first.1) in
        let alone : (d : Cuboid) → has_cells d ≡ true → times_in d boxes ≡ times_in d (first.0 ∷ []) = λ d full_d.
        elim (cases_lt 0 (times_in d r.0)) [
          | inl some ↦ absurd (omega (arith, none, passes_counted has_cells d r.0 full_d some))
          | inr none_left ↦ omega (arith, times_in-permutation d boxes (first.0 ∷ r.0) r.1, times_in-cons d first.0 r.0)
        ] in
        let one : last.0 ≡ first.0 = elim (cases_box last.0 first.0) [
          | inl p ↦ p
          | inr n ↦ absurd (omega (arith, last.2, alone last.0 last.1, times_in-other last.0 first.0 [] n, times_in-nil last.0))
        ] in
        let inside = stays_in first.0 whole (box_inside first.0 first.2 first.1) in
        let ends : IsAt first.0 (last_at whole) = rw one at last.3 in
        let is : first.0 ≡ whole = box_alike first.0 whole (λ a. (omega (arith, inside a, first.3 a), omega (arith, inside a, ends a))) in
        rw (← is) (sym (alone e cells))
  ]

-- a part of a box that ends within 32 bits does
pub FitsU32-part : (b whole : Cuboid) → IsPartOf b whole → FitsU32 whole → FitsU32 b
FitsU32-part b whole part fits = search rules

pub HaveCellsAndFit-filled : (whole : Cuboid) (boxes : List Cuboid) → IsFilled whole boxes → HaveCellsAndFit boxes
HaveCellsAndFit-filled whole boxes filled = λ i d within.
    let cells = filled.cells i d within in
    (cells, FitsU32-part _ whole (boxes_inside whole boxes filled.tiles i d within cells) filled.fits)

pub IsFilled-permutation : (whole : Cuboid) (bs es : List Cuboid) → IsPermutation bs es → IsFilled whole bs → IsFilled whole es
IsFilled-permutation whole bs es moved filled = record {
  fits = filled.fits;
  tiles = record { same = λ c. filled-permutation c bs es moved ∙ filled.tiles.same c };
  cells = All-permutation (λ e. has_cells e ≡ true) bs es moved filled.cells;
}

-- lists of the same boxes fill the same
pub IsFilled-same : (whole : Cuboid) (bs es : List Cuboid) → HaveSameBoxes bs es → All (λ e. has_cells e ≡ true) es → IsFilled whole bs → IsFilled whole es
unfolding times_filled
IsFilled-same whole bs es same cells filled = record {
  fits = filled.fits;
  tiles = record { same = λ c. sym (count-same (is_cell_of c) (λ b. has_cells-from c b) bs es same) ∙ filled.tiles.same c };
  cells = cells;
}

-- the boxes with cells that cover a bin fill it
pub IsFilled-bin : (size : Size) (boxes : List Cuboid) → FitsU32 (bin size) → CoverBin boxes size → IsFilled (bin size) (filter has_cells boxes)
unfolding times_filled
IsFilled-bin size boxes fits cover = record {
  fits = fits;
  tiles = record {
    same = λ c. elim (cases_Bool (is_cell_of c (bin size))) [
      | inl t ↦ omega (arith, filled-filter c boxes, cover.once c (is_cell_of-true c (bin size) t), count_yes (is_cell_of c) (bin size) [] t)
      | inr f ↦ elim (cases_lt 0 (count_by (is_cell_of c) boxes)) [
        | inr none ↦ omega (arith, filled-filter c boxes, count_no (is_cell_of c) (bin size) [] f)
        | inl some ↦
            let b = which_passes (is_cell_of c) boxes some in
            let inside = All-times_in (IsInside size) b.0 boxes cover.inside b.2 in
            let part : IsPartOf b.0 (bin size) = search rules in
            absurd (both_ways _ f (cell-part c b.0 (bin size) part b.1))
      ]
    ];
  };
  cells = filter_passes has_cells boxes;
}
