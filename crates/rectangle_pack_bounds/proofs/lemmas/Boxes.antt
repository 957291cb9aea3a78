-- Boxes in one bin: bounded along x at each y and z, then along y at each z, then along z.
use Rattle.rectangle_pack_bounds.proofs.Std.{arith, ◌≡◌, ℕ, ◌+◌, ◌*◌, ◌≤◌, Bool, true, false, cond, ◌&&◌, refl, ◌∙◌, List}
use Rattle.rectangle_pack_bounds.proofs.Std.{sum_by, All, All-weaker}
use Rattle.rectangle_pack_sections.specs.Boxes.{Size, Cuboid, Cell, IsInside, is_within, is_cell_of}
use Rattle.rectangle_pack_sections.specs.Counting.{times_filled, AreAllApart}
use Rattle.rectangle_pack_sections.proofs.lemmas.cuts.Counting.{counts_from_apart}
use Rattle.rectangle_pack_bounds.specs.DualFeasible.{Rates, AreDualFeasible, rate_of}
use Rattle.rectangle_pack_bounds.proofs.lemmas.Intervals.{spans_bounded}
use Rattle.rectangle_pack_bounds.proofs.lemmas.Sums.{sum_by-same}

abbrev in_x : ℕ → Cuboid → Bool
in_x i b = is_within b.x b.whd.width i

abbrev in_y : ℕ → Cuboid → Bool
in_y j b = is_within b.y b.whd.height j

abbrev in_z : ℕ → Cuboid → Bool
in_z k b = is_within b.z b.whd.depth k

-- three tests in a row, one inside the other
nested : (x y z : Bool) (n : ℕ) → cond x (cond y (cond z n 0) 0) 0 ≡ cond (x && y && z) n 0
nested true true z n = refl
nested true false z n = refl
nested false y z n = refl

times-cond : (t : Bool) (n m : ℕ) → cond t n 0 * m ≡ cond t (n * m) 0
times-cond true n m = refl
times-cond false n m = omega arith

times-cond2 : (s t : Bool) (n m : ℕ) → cond s (cond t n 0) 0 * m ≡ cond s (cond t (n * m) 0) 0
times-cond2 true t n m = times-cond t n m
times-cond2 false t n m = omega arith

module _ (bin : Size) (rates : Rates) (scales : Size) (f : AreDualFeasible bin rates scales) (boxes : List Cuboid)
    (inside : All (IsInside bin) boxes) (apart : AreAllApart boxes) where
  -- a cell is in at most one of the boxes
  at_cell : (i j k : ℕ) → sum_by (λ b. cond (in_x i b) (cond (in_y j b) (cond (in_z k b) 1 0) 0) 0) boxes ≤ 1
  unfolding times_filled is_cell_of
  at_cell i j k =
      let cell : Cell = record { i = i; j = j; k = k } in
      let one : times_filled cell boxes ≤ 1 = counts_from_apart cell boxes apart in
      let same = sum_by-same (λ b. cond (in_x i b) (cond (in_y j b) (cond (in_z k b) 1 0) 0) 0)
      (λ b. cond (is_cell_of cell b) 1 0) boxes (λ b. nested (in_x i b) (in_y j b) (in_z k b) 1) in
      omega (arith, one, same)

  -- the boxes in a row along x, by their widths
  at_row : (j k : ℕ) → sum_by (λ b. cond (in_y j b) (cond (in_z k b) (rates.of_width b.whd.width) 0) 0) boxes ≤ scales.width
  at_row j k =
      let bound = spans_bounded (λ b. b.x) (λ b. b.whd.width) (λ b. cond (in_y j b) (cond (in_z k b) 1 0) 0)
      bin.width scales.width 1 rates.of_width boxes f.width
      (All-weaker (IsInside bin) (λ b. b.x + b.whd.width ≤ bin.width) (λ b h. h.within_x) boxes inside)
      (λ i lt. at_cell i j k) in
      let same = sum_by-same (λ b. cond (in_y j b) (cond (in_z k b) 1 0) 0 * rates.of_width b.whd.width)
      (λ b. cond (in_y j b) (cond (in_z k b) (rates.of_width b.whd.width) 0) 0) boxes
      (λ b. times-cond2 (in_y j b) (in_z k b) 1 (rates.of_width b.whd.width) ∙ one_times j k b) in
      omega (arith, bound, same)
    where
      one_times : (j k : ℕ) (b : Cuboid) → cond (in_y j b) (cond (in_z k b) (1 * rates.of_width b.whd.width) 0) 0
          ≡ cond (in_y j b) (cond (in_z k b) (rates.of_width b.whd.width) 0) 0
      one_times j k b = let e : 1 * rates.of_width b.whd.width ≡ rates.of_width b.whd.width = omega arith in rw e refl

  -- the boxes in a layer at z, by their widths and heights
  at_layer : (k : ℕ) → sum_by (λ b. cond (in_z k b) (rates.of_width b.whd.width * rates.of_height b.whd.height) 0) boxes
      ≤ scales.width * scales.height
  at_layer k =
      let bound = spans_bounded (λ b. b.y) (λ b. b.whd.height) (λ b. cond (in_z k b) (rates.of_width b.whd.width) 0)
      bin.height scales.height scales.width rates.of_height boxes f.height
      (All-weaker (IsInside bin) (λ b. b.y + b.whd.height ≤ bin.height) (λ b h. h.within_y) boxes inside)
      (λ j lt. at_row j k) in
      let same = sum_by-same (λ b. cond (in_z k b) (rates.of_width b.whd.width) 0 * rates.of_height b.whd.height)
      (λ b. cond (in_z k b) (rates.of_width b.whd.width * rates.of_height b.whd.height) 0) boxes
      (λ b. times-cond (in_z k b) (rates.of_width b.whd.width) (rates.of_height b.whd.height)) in
      omega (arith, bound, same)

  -- all boxes
  pub bin_bounded : sum_by (λ b. rate_of rates b.whd) boxes ≤ scales.width * scales.height * scales.depth
  bin_bounded =
      spans_bounded (λ b. b.z) (λ b. b.whd.depth) (λ b. rates.of_width b.whd.width * rates.of_height b.whd.height)
      bin.depth scales.depth (scales.width * scales.height) rates.of_depth boxes f.depth
      (All-weaker (IsInside bin) (λ b. b.z + b.whd.depth ≤ bin.depth) (λ b h. h.within_z) boxes inside)
      (λ k lt. at_layer k)
